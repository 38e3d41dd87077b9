-- The takers of a place, and their largest and least take.
use Rattle.std.specs.Prelude.{◌≡◌, ℕ, zero, suc, ◌<◌, ◌≤◌, min, max, cond, ◌==◌}
use Rattle.net.specs.Net.{Net}

-- move t is a taker of place p
abbrev pub Taker : Net → ℕ → ℕ → Type 0
Taker n p t = (t < n.moves) × (1 ≤ n.takes t p)

-- place p has no taker
abbrev pub NoTaker : Net → ℕ → Type 0
NoTaker n p = (t : ℕ) → Taker n p t → ⊥

-- the largest take of the first moves at place p, 0 where none of them takes
unfoldable pub largest_below : Net → ℕ → ℕ → ℕ
largest_below n p zero = 0
largest_below n p (suc t) = max (largest_below n p t) (n.takes t p)

abbrev pub largest_take : Net → ℕ → ℕ
largest_take n p = largest_below n p n.moves

-- the lesser of two takes, where 0 is no take
abbrev pub lesser_take : ℕ → ℕ → ℕ
lesser_take a b = cond (b == 0) a (cond (a == 0) b (min a b))

-- the least take of the first moves at place p, 0 where none of them takes
unfoldable pub least_below : Net → ℕ → ℕ → ℕ
least_below n p zero = 0
least_below n p (suc t) = lesser_take (least_below n p t) (n.takes t p)

abbrev pub least_take : Net → ℕ → ℕ
least_take n p = least_below n p n.moves

-- some taker of place p takes v, and every other one at most (or at least) v
abbrev pub IsLargestTake : Net → ℕ → ℕ → Type 0
IsLargestTake n p v = ((t : ℕ) × Taker n p t × (n.takes t p ≡ v)) × ((t : ℕ) → Taker n p t → n.takes t p ≤ v)

abbrev pub IsLeastTake : Net → ℕ → ℕ → Type 0
IsLeastTake n p v = ((t : ℕ) × Taker n p t × (n.takes t p ≡ v)) × ((t : ℕ) → Taker n p t → v ≤ n.takes t p)
