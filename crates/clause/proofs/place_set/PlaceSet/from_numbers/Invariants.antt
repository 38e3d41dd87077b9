use Rattle.std.proofs.Common.{◌≡◌, ℕ, ◌<◌, ◌≤◌, false, eqb, length, get_or}
use Rattle.clause.proofs.place_set.PlaceSet.from_numbers.Given as goal

abbrev pub invariant-loop-p : goal.invariant-loop-p
invariant-loop-p l =
    (length l.members ≡ 16)
    × ((k : ℕ) → k < l.p → get_or l.members k false ≡ eqb (get_or l.numbers k 0) 1)
    × ((k : ℕ) → l.p ≤ k → get_or l.members k false ≡ false)
