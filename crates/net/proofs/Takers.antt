-- The largest and the least take of a place are what their names say.
use Rattle.std.proofs.Common.{◌≡◌, ℕ, zero, suc, ◌+◌, ◌<◌, ◌≤◌, max, ◌⊎◌, [], ◌∷◌, ◌++◌, Option, Some, None, MatchOption, subst, sym, refl, ap, ◌∙◌, ⊎_elim, le_trans, arith}
use Rattle.std.specs.List.{fold, range_with_len}
use native.Mathlib.Nat.{le-max_left, le-max_right}
use Rattle.std.proofs.lemmas.List.Sums.{fold-append}
use Rattle.std.proofs.lemmas.Bool.Decides.{nat_tests}
use Rattle.net.specs.Net.{Net}
use Rattle.net.specs.Takes.{NoTaker, largest_below, largest_take, lesser_take, least_below, least_take, IsLargestTake, IsLeastTake}
use Rattle.net.proofs.Below.{each_below}

-- the larger of two numbers is one of them
max-one : (a b : ℕ) → (max a b ≡ a) ⊎ (max a b ≡ b)
max-one a b = grind arith

-- the lesser of two takes is one of them
lesser-one : (a b : ℕ) → (lesser_take a b ≡ a) ⊎ (lesser_take a b ≡ b)
lesser-one a b = grind (arith, nat_tests)

-- where w is a take, v is one and at most w
abbrev AtMost : ℕ → ℕ → Type 0
AtMost v w = 1 ≤ w → (1 ≤ v) × (v ≤ w)

-- the lesser of two takes is at most the first
lesser-left : (a b : ℕ) → AtMost (lesser_take a b) a
lesser-left a b h = (grind (arith, nat_tests), grind (arith, nat_tests))

-- and at most the second
lesser-right : (a b : ℕ) → AtMost (lesser_take a b) b
lesser-right a b h = (grind (arith, nat_tests), grind (arith, nat_tests))

-- one number more of a range
range-more : (a k : ℕ) → range_with_len a (suc k) ≡ range_with_len a k ++ (a + k) ∷ []
range-more a zero = ap (λ b. b ∷ []) (omega arith)
range-more a (suc k) = ap (λ bs. a ∷ bs) (range-more (a + 1) k ∙ ap (λ b. range_with_len (a + 1) k ++ b ∷ []) (omega arith))

-- a fold over a range takes one step more where the range has one number more
fold-next : (f : ℕ → ℕ → ℕ) (k : ℕ) → fold f 0 (range_with_len 0 (suc k)) ≡ f (fold f 0 (range_with_len 0 k)) k
fold-next f k =
    let zero-first : 0 + k ≡ k = omega arith in
    ap (fold f 0) (range-more 0 k ∙ ap (λ b. range_with_len 0 k ++ b ∷ []) zero-first) ∙ fold-append f 0 (range_with_len 0 k) (k ∷ [])

module _ (n : Net) (p : ℕ) where
  -- a number that starts at 0 and becomes some takes in turn is the take of one of those takers
  taken : (f : ℕ → ℕ) → f 0 ≡ 0 → ((k : ℕ) → (f (suc k) ≡ f k) ⊎ (f (suc k) ≡ n.takes k p)) → (k : ℕ) → (f k ≡ 0 → ⊥) → (t : ℕ) × ((t < k) × (1 ≤ n.takes t p)) × (n.takes t p ≡ f k)
  taken f none more zero some = absurd (some none)
  taken f none more (suc k) some =
      ⊎_elim
      (λ same. let before = taken f none more k (λ e. some (same ∙ e)) in (before.0, (omega arith, omega arith), before.2 ∙ sym same))
      (λ new. (k, (omega arith, omega arith), sym new))
      (more k)

  -- no move takes more than the largest take
  largest-over : (k t : ℕ) → t < k → n.takes t p ≤ largest_below n p k
  unfolding largest_below
  largest-over = each_below (λ k t. n.takes t p ≤ largest_below n p k) (λ k. le-max_right _ _) (λ k t h. le_trans h (le-max_left _ _))

  -- no move takes less than the least take
  least_under : (k t : ℕ) → t < k → AtMost (least_below n p k) (n.takes t p)
  unfolding least_below
  least_under =
      each_below (λ k t. AtMost (least_below n p k) (n.takes t p))
      (λ k. lesser-right (least_below n p k) (n.takes k p))
      (λ k t h some. let step = lesser-left (least_below n p k) (n.takes k p) (h some).0 in (step.0, le_trans step.1 (h some).1))

  -- where the largest take is 0, the place has no taker
  pub largest-none : largest_take n p ≡ 0 → NoTaker n p
  largest-none none t taker = omega (arith, largest-over n.moves t taker.0)

  -- the largest take is the largest
  pub largest-is : (largest_take n p ≡ 0 → ⊥) → IsLargestTake n p (largest_take n p)
  unfolding largest_below
  largest-is some = (taken (largest_below n p) refl (λ k. max-one (largest_below n p k) (n.takes k p)) n.moves some, λ t taker. largest-over n.moves t taker.0)

  -- where the least take is 0, the place has no taker
  pub least-none : least_take n p ≡ 0 → NoTaker n p
  least-none none t taker = omega (arith, least_under n.moves t taker.0 taker.1)

  -- the least take is the least
  pub least-is : (least_take n p ≡ 0 → ⊥) → IsLeastTake n p (least_take n p)
  unfolding least_below
  least-is some = (taken (least_below n p) refl (λ k. lesser-one (least_below n p k) (n.takes k p)) n.moves some, λ t taker. (least_under n.moves t taker.0 taker.1).1)

  -- the largest of the takes of the first moves, as a fold finds it
  pub largest-found : (k : ℕ) → fold (λ a t. max a (n.takes t p)) 0 (range_with_len 0 k) ≡ largest_below n p k
  unfolding largest_below
  largest-found zero = refl
  largest-found (suc k) = fold-next (λ a t. max a (n.takes t p)) k ∙ ap (λ a. max a (n.takes k p)) (largest-found k)

  -- the least of them
  pub least-found : (k : ℕ) → fold (λ a t. lesser_take a (n.takes t p)) 0 (range_with_len 0 k) ≡ least_below n p k
  unfolding least_below
  least-found zero = refl
  least-found (suc k) = fold-next (λ a t. lesser_take a (n.takes t p)) k ∙ ap (λ a. lesser_take a (n.takes k p)) (least-found k)

-- what is kept of a number that is 0 where a place has no taker, and else a take of which something is true
pub kept-take : (n : Net) (p found take : ℕ) (Is : ℕ → Type 0) → (take ≡ 0 → NoTaker n p) → ((take ≡ 0 → ⊥) → Is take)
    → (kept : Option ℕ) → found ≡ take → MatchOption kept (found ≡ 0) (λ k. (k ≡ found) × (0 < found))
    → MatchOption kept (NoTaker n p) (λ k. (k ≡ take) × Is k)
kept-take n p found take Is none some None e nought = none (sym e ∙ nought)
kept-take n p found take Is none some (Some k) e h =
    let same : k ≡ take = h.0 ∙ e in
    (same, subst Is (sym same) (some (λ zero. omega (arith, e, h.1))))
