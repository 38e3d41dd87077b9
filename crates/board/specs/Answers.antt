-- What a board must answer. Its counts are a list with a number for each place, and so are its limits.
use Rattle.std.specs.Prelude.{◌≡◌, ℕ, ◌<◌, ◌≤◌, List, length, Ok, Err, Option, Result, slice_index, slice_set}
use Rattle.net.specs.Answers.{AnswersAt}

-- the limit at place p, absent if and only if there is no such place: each count has its limit, and is not above it
pub record LimitAt (counts limits : List ℕ) (p : ℕ) (answer : Option ℕ) : Type 0 where
  pub value : AnswersAt limits p answer
  pub paired : length limits ≡ length counts
  pub enough : slice_index counts p ≤ slice_index limits p

-- place p is there and n is at most its limit
abbrev pub MayHold : List ℕ → List ℕ → ℕ → ℕ → Type 0
MayHold counts limits p n = (p < length counts) × (n ≤ slice_index limits p)

-- setting place p to n: accepted if and only if p may hold n, and then p holds n and every other place what it held; refused, all hold what they held
abbrev pub Sets : {X Y : Type 0} → List ℕ → List ℕ → ℕ → ℕ → Result X Y → List ℕ → Type 0
Sets counts limits p n (Ok x) after = MayHold counts limits p n × (after ≡ slice_set counts p n)
Sets counts limits p n (Err y) after = (MayHold counts limits p n → ⊥) × (after ≡ counts)
