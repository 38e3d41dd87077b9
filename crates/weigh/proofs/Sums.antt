-- Laws of sums over the numbers below a bound.
use Rattle.std.proofs.Common.{◌≡◌, ℕ, zero, suc, ◌+◌, ◌<◌, refl, ap, add-one, arith}
use Rattle.net.specs.Sums.{sum_below}

-- a sum over no numbers
pub sum_below-none : (f : ℕ → ℕ) → sum_below 0 f ≡ 0
unfolding sum_below
sum_below-none f = refl

-- a sum over one number more
pub sum_below-more : (k : ℕ) (f : ℕ → ℕ) → sum_below (k + 1) f ≡ sum_below k f + f k
unfolding sum_below
sum_below-more k f = ap (λ n. sum_below n f) (add-one k)

-- two sums together are two others, if they are so at each number
pub sum_below-add : (k : ℕ) (f g h i : ℕ → ℕ) → ((p : ℕ) → p < k → f p + g p ≡ h p + i p) → sum_below k f + sum_below k g ≡ sum_below k h + sum_below k i
unfolding sum_below
sum_below-add zero f g h i e = refl
sum_below-add (suc k) f g h i e =
    let before : sum_below k f + sum_below k g ≡ sum_below k h + sum_below k i = sum_below-add k f g h i (λ p l. e p (omega arith)) in
    let last : f k + g k ≡ h k + i k = e k (omega arith) in
    omega arith

-- sums of the same numbers are the same
pub sum_below-same : (k : ℕ) (f g : ℕ → ℕ) → ((p : ℕ) → p < k → f p ≡ g p) → sum_below k f ≡ sum_below k g
sum_below-same k f g e =
    let twice : sum_below k f + sum_below k f ≡ sum_below k g + sum_below k g = sum_below-add k f f g g (λ p l. omega (arith, e p l)) in
    omega arith
