-- Firing keeps the weighed and the useful sum under a weighing that balances the net.
use Rattle.std.proofs.Common.{◌≡◌, ℕ, ◌+◌, ◌*◌, ◌/◌, ◌<◌, List, length, get_or, sym, ap, ◌∙◌, ⊎_elim, mul-add, arith}
use Prim.Native.Nat.{◌∣◌}
use native.Mathlib.Nat.{mul-div_cancel', add-mul-div_left}
use Rattle.std.proofs.lemmas.Bool.{cases_eq}
use Rattle.net.specs.Net.{Net}
use Rattle.net.specs.Sums.{sum_below}
use Rattle.net.specs.Divisors.{IsUnit, unit_of}
use Rattle.weigh.specs.Balance.{Idle, taken_weight, given_weight, Balances, FiringKeepsWeighed, FiringKeepsUseful}
use Rattle.weigh.proofs.Sums.{sum_below-add, sum_below-same}

-- an idle move takes and gives the same weight
pub idle-even : (n : Net) (ws : List ℕ) → length ws ≡ n.places → (t : ℕ) → Idle n t → taken_weight n ws t ≡ given_weight n ws t
idle-even n ws long t idle =
    sum_below-same (length ws) (λ p. get_or ws p 0 * n.takes t p) (λ p. get_or ws p 0 * n.gives t p)
    (λ p below. let none = idle p (omega arith) in ap (λ x. get_or ws p 0 * x) (none.0 ∙ sym none.1))

-- so every move balances
pub balances-all : (n : Net) (ws : List ℕ) → Balances n ws → (t : ℕ) → t < n.moves → taken_weight n ws t ≡ given_weight n ws t
balances-all n ws b t l =
    ⊎_elim (λ same. same)
    (λ differ. b.1 t l (λ idle. differ (idle-even n ws b.0 t idle)))
    (cases_eq (taken_weight n ws t) (given_weight n ws t))

-- a weighed sum stays, if at each place what a move takes goes and what it gives comes
kept : (n : Net) (ws : List ℕ) → Balances n ws → (t : ℕ) → t < n.moves → (after before : ℕ → ℕ)
    → ((p : ℕ) → p < n.places → after p + n.takes t p ≡ before p + n.gives t p)
    → sum_below (length ws) (λ p. get_or ws p 0 * after p) ≡ sum_below (length ws) (λ p. get_or ws p 0 * before p)
kept n ws b t l after before change =
    let w : ℕ → ℕ = λ p. get_or ws p 0 in
    let both = sum_below-add (length ws) (λ p. w p * after p) (λ p. w p * n.takes t p) (λ p. w p * before p) (λ p. w p * n.gives t p)
    (λ p below. sym (mul-add (w p) (after p) (n.takes t p)) ∙ ap (λ x. w p * x) (change p (omega (arith, b.0))) ∙ mul-add (w p) (before p) (n.gives t p)) in
    let even = balances-all n ws b t l in
    omega arith

-- firing keeps the weighed sum
pub keeps-weighed : (ws : List ℕ) → FiringKeepsWeighed ws
keeps-weighed ws n b t before after f = kept n ws b t f.fed.0 (λ p. get_or after p 0) (λ p. get_or before p 0) f.change

-- a multiple of u that is added to x is added to x rounded down to a multiple of u
rounded-add : (u x c : ℕ) → 0 < u → u ∣ c → u * ((x + c) / u) ≡ u * (x / u) + c
rounded-add u x c pos d =
    let whole : u * (c / u) ≡ c = mul-div_cancel' u d in
    ap (λ y. u * ((x + y) / u)) (sym whole) ∙ ap (λ y. u * y) (add-mul-div_left x (c / u) pos) ∙ mul-add u (x / u) (c / u) ∙ ap (λ y. u * (x / u) + y) whole

-- firing keeps the useful sum
pub keeps-useful : (n : Net) (ws : List ℕ) → ((p : ℕ) → IsUnit n p (unit_of n p)) → FiringKeepsUseful n ws
keeps-useful n ws units b t before after f =
    let u : ℕ → ℕ = unit_of n in
    let l = f.fed.0 in
    kept n ws b t l (λ p. u p * (get_or after p 0 / u p)) (λ p. u p * (get_or before p 0 / u p))
    (λ p below. let unit = units p in
    sym (rounded-add (u p) (get_or after p 0) (n.takes t p) unit.positive (unit.divides t l).0)
    ∙ ap (λ x. u p * (x / u p)) (f.change p below)
    ∙ rounded-add (u p) (get_or before p 0) (n.gives t p) unit.positive (unit.divides t l).1)
