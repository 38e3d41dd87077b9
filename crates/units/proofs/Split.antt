-- A number as full units and a rest.
use Rattle.std.proofs.Common.{◌≡◌, ℕ, ◌+◌, ◌-◌, ◌*◌, ◌/◌, ◌%◌, ◌<◌, ◌≤◌, ap, ◌∙◌, mul-le-mul_right, mod-eq_of_lt, add-mul, one-mul, arith}
use Rattle.std.proofs.lemmas.Nat.{div-add-mod', div_below, mod_below}

module _ (n unit : ℕ) (some : 0 < unit) where
  -- the full units and the rest are the number
  pub split : n / unit * unit + n % unit % unit ≡ n
  split = ap (λ rest. n / unit * unit + rest) (mod-eq_of_lt (mod_below n unit some)) ∙ div-add-mod' n unit

  -- a number is within the limit in units if and only if its full units are within the limit below
  pub fits-units : (limit : ℕ) → n / unit ≤ limit → n ≤ limit * unit + unit - 1
  fits-units limit few = omega (arith, div-add-mod' n unit, mod_below n unit some, mul-le-mul_right unit few)

  pub fits_below : (limit : ℕ) → n ≤ limit * unit + unit - 1 → n / unit ≤ limit
  fits_below limit small =
      let next : (limit + 1) * unit ≡ limit * unit + 1 * unit = add-mul limit 1 unit in
      let one : 1 * unit ≡ unit = one-mul unit in
      let less : n / unit < limit + 1 = div_below n unit (limit + 1) some (omega arith) in
      omega arith

-- full units within the limit below and a rest make a count, where the limit in units does
pub whole-small : (full rest unit limit : ℕ) → full ≤ limit → rest < unit → (limit + 1) * unit ≤ 4294967296 → full * unit + rest ≤ 4294967295
whole-small full rest unit limit few below fits =
    let next : (limit + 1) * unit ≡ limit * unit + 1 * unit = add-mul limit 1 unit in
    let one : 1 * unit ≡ unit = one-mul unit in
    omega (arith, mul-le-mul_right unit few)
