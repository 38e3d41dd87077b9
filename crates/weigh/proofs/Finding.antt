-- What `find` gives over the numbers below a bound.
use Rattle.std.proofs.Common.{◌≡◌, ℕ, ◌<◌, Bool, true, false, List, length, get_or, Some, None, Option, MatchOption, IsTrue, ◌↔◌, Bor, refl, subst, arith}
use Rattle.std.specs.Bool.{⊤}
use Rattle.std.specs.Fn.{Called, CalledAt}
use Rattle.std.specs.Iterator.{YieldsThen}
use Rattle.std.specs.List.{FoldsTo, AllWithin, HoldsAt, range_with_len}
use Rattle.std.specs.declared.ops.Range.{Range}
use Rattle.std.proofs.iter.Yields.{nat_range_steps}
use Rattle.std.proofs.lemmas.Bool.{false≢true}
use Rattle.std.proofs.lemmas.Iterator.{YieldsList-from_range, first_from_find}
use Rattle.std.proofs.lemmas.List.FromFn.{length-range_with_len, get_or-range_with_len}
use denote.Param.Members.{Mut}
use Rattle.net.specs.Sums.{Lowest}

-- the numbers below n are their own places
at-itself : (n k : ℕ) → k < n → get_or (range_with_len 0 n) k 0 ≡ k
at-itself n k below = omega (arith, get_or-range_with_len 0 n k 0 below)

module _ (n : ℕ) (Has : ℕ → Type 0) where
  abbrev Misses : ℕ → Type 0
  Misses t = Has t → ⊥

  -- the first of the numbers below n that has the property is the lowest that has it
  lowest-from_first : (r : Option ℕ)
      → MatchOption r (AllWithin Misses (range_with_len 0 n) 0 (length (range_with_len 0 n))) (λ t. Has t × (k : ℕ) × (k < length (range_with_len 0 n)) × HoldsAt (λ y. y ≡ t) (range_with_len 0 n) k × AllWithin Misses (range_with_len 0 n) 0 k)
      → MatchOption r ((t : ℕ) → t < n → Has t → ⊥) (λ t. (t < n) × Lowest Has t)
  lowest-from_first None none = λ t below. subst Misses (at-itself n t below) (none t 0 (omega arith) (omega (arith, length-range_with_len 0 n)))
  lowest-from_first (Some t) (has, k, inside, at, before) =
      let below : k < n = omega (arith, length-range_with_len 0 n) in
      let same : k ≡ t = omega (arith, at 0, at-itself n k below) in
      (omega arith, (has, λ j less. subst Misses (at-itself n j (omega arith)) (before j 0 (omega arith) (omega arith))))

  -- `find` gives the lowest number below n that has the property which its closure tests
  pub lowest-from_find : {F : Type 0} {g : Mut F (Bor ℕ × Unit {0}) Bool} (u : Range ℕ) (f : F) (r : Option ℕ)
      → (xs : List ℕ) × (j : F) × YieldsThen nat_range_steps (record { start = 0; end = n }) xs r u × FoldsTo (λ p x q. CalledAt g p x false q) f xs j × MatchOption r ⊤ (λ x. (h : F) × CalledAt g j x true h)
      → ((y : Bor ℕ) (b : Bool) (q : F) → Called g f (y, tt) b q → (q ≡ f) × (IsTrue b ↔ Has y.now))
      → MatchOption r ((t : ℕ) → t < n → Has t → ⊥) (λ t. (t < n) × Lowest Has t)
  lowest-from_find u f r ran tests_it =
      lowest-from_first r
      (first_from_find u f r Has Misses ran (YieldsList-from_range 0 n n refl (omega arith))
      (λ x q call. subst Has call.shows ((tests_it call.shown true q call.called).1.0 refl))
      (λ x q call. let tested = tests_it call.shown false q call.called in (tested.0, subst Misses call.shows (λ has. false≢true (tested.1.1 has)))))
