-- The weighed and the useful sum of counts. Weights are a list of numbers, one for each place.
use Rattle.std.specs.Prelude.{ℕ, ◌*◌, ◌/◌, List, length, slice_index}
use Rattle.net.specs.Net.{Net}
use Rattle.net.specs.Sums.{sum_below}
use Rattle.net.specs.Divisors.{unit_of}

-- weight × count, over all places
abbrev pub weighed : List ℕ → List ℕ → ℕ
weighed ws m = sum_below (length ws) (λ p. slice_index ws p * slice_index m p)

-- weight × unit × (count divided by unit, rounded down), over all places: a remainder below the unit is of no use to any move
abbrev pub useful : Net → List ℕ → List ℕ → ℕ
useful n ws m = sum_below (length ws) (λ p. slice_index ws p * (unit_of n p * (slice_index m p / unit_of n p)))
