-- What a question about a place must answer.
use Rattle.std.specs.Prelude.{◌≡◌, ℕ, ◌<◌, ◌≤◌, List, length, Some, None, Option, slice_index}

-- the number at place p, absent if and only if there is no such place
abbrev pub AnswersAt : List ℕ → ℕ → Option ℕ → Type 0
AnswersAt numbers p None = length numbers ≤ p
AnswersAt numbers p (Some n) = (p < length numbers) × (n ≡ slice_index numbers p)
