-- A word built bit by bit from the lowest, and how many of its bits are set.
use Rattle.std.proofs.Common.{◌≡◌, ℕ, ◌+◌, ◌-◌, ◌*◌, ◌/◌, ◌%◌, ◌^◌, ◌<◌, ◌≤◌, Bool, cond, ap, ◌∙◌, lt_of_lt_of_le, add_comm, one-mul, add-one, arith, pow_mono}
use native.Mathlib.Nat.{div-eq_of_lt, mul-add-div_right, mul-add-mod_self_right}
use lib.Bits.{bit_or, or_shifted_r}
use lib.Count.{ones, ones_cat}
use Rattle.std.proofs.lemmas.Nat.{pow_pos, pow-add, one_shl, shr_high}
use Rattle.net.specs.Sums.{how_many}
use Rattle.net.specs.Fed.{bit}

-- setting the bit worth 2 ^ t above all others adds 2 ^ t
pub or-top : (w t : ℕ) → t < 32 → w < 2 ^ t → bit_or w ((1 * 2 ^ t) % 2 ^ 32) ≡ 2 ^ t + w
or-top w t small low = ap (bit_or w) (one_shl t 32 small) ∙ rw one-mul at (or_shifted_r 1 t w low)

-- it sets one bit more
pub ones-top : (w t : ℕ) → w < 2 ^ t → ones (2 ^ t + w) ≡ ones w + 1
unfolding ones
ones-top w t low = rw one-mul at (ones_cat t 1 w low) ∙ add_comm 1 (ones w)

-- a power of 2 above 2 ^ k is an even multiple of it
pow_even : (t k : ℕ) → k < t → 2 ^ t ≡ 2 ^ (t - (k + 1)) * 2 * 2 ^ k
pow_even t k below =
    let j = t - (k + 1) in
    let split : t ≡ (j + 1) + k = omega arith in
    ap (λ x. 2 ^ x) split ∙ pow-add 2 (j + 1) k ∙ ap (λ x. x * 2 ^ k) (pow-add 2 j 1)

-- the bits below it stay
pub bit-low : (w t k : ℕ) → k < t → bit (2 ^ t + w) k ≡ bit w k
bit-low w t k below =
    let half = 2 ^ (t - (k + 1)) in
    ap (λ x. bit (x + w) k) (pow_even t k below)
    ∙ ap (λ x. x % 2) (mul-add-div_right (pow_pos k) (half * 2) w)
    ∙ mul-add-mod_self_right half 2 (w / 2 ^ k)

-- the bit itself is set
pub bit-top : (w t : ℕ) → w < 2 ^ t → bit (2 ^ t + w) t ≡ 1
bit-top w t low = ap (λ x. x % 2) (rw one-mul at (shr_high 1 t w low))

-- no bit is set from 2 ^ t on in a number below 2 ^ t
pub bit_past : (w t k : ℕ) → w < 2 ^ t → t ≤ k → bit w k ≡ 0
bit_past w t k low past = ap (λ x. x % 2) (div-eq_of_lt (lt_of_lt_of_le low (pow_mono past)))

-- one more number to count
pub how_many-more : (t : ℕ) (f : ℕ → Bool) → how_many (t + 1) f ≡ how_many t f + cond (f t) 1 0
unfolding how_many
how_many-more t f = rw add-one
