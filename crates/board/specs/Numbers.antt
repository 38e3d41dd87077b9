-- The counts and limits of a board on numbers: a place for each of the first 16.
use Rattle.std.specs.Prelude.{ℕ, List, take, drop}
use Rattle.board.specs.Limits.{even_limits}

abbrev pub number_counts : List ℕ → List ℕ
number_counts numbers = take 16 numbers

abbrev pub number_limits : List ℕ → List ℕ
number_limits numbers = even_limits 4294967295 (number_counts numbers)

-- the numbers that are no count
abbrev pub numbers_past : List ℕ → List ℕ
numbers_past numbers = drop 16 numbers
