-- Which moves are fed, as tests, as a word of bits and as a number.
use Rattle.std.specs.Prelude.{◌≡◌, ℕ, ◌/◌, ◌%◌, ◌^◌, Bool, cond, ◌&&◌, List, nat_le, nat_lt, slice_index}
use Rattle.net.specs.Net.{Net}
use Rattle.net.specs.Sums.{every, how_many}

-- whether every place holds at least what move t takes there
abbrev pub covers : Net → List ℕ → ℕ → Bool
covers n m t = every n.places (λ p. nat_le (n.takes t p) (slice_index m p))

-- whether move t is fed
abbrev pub is_fed : Net → List ℕ → ℕ → Bool
is_fed n m t = nat_lt t n.moves && covers n m t

-- the bit worth 2 ^ t of a word
abbrev pub bit : ℕ → ℕ → ℕ
bit word t = (word / 2 ^ t) % 2

-- the word in which the bit worth 2 ^ t is set if and only if move t is fed
abbrev pub IsFedWord : Net → List ℕ → ℕ → Type 0
IsFedWord n m word = (t : ℕ) → bit word t ≡ cond (is_fed n m t) 1 0

-- how many moves are fed
abbrev pub fed_move_count : Net → List ℕ → ℕ
fed_move_count n m = how_many n.moves (is_fed n m)
