-- Worked examples of the definitions.
use Rattle.std.specs.Prelude.{◌≡◌, List, ℕ, ◌≤◌, length, slice_index}
use Rattle.net.specs.Divisors.{unit_of, IsUnit}
use Rattle.net.specs.Takes.{largest_take, IsLargestTake}
use Rattle.board.specs.Bytes.{byte_limits}
use Rattle.units.specs.Units.{limits_in_units}
use Rattle.examples.specs.Plans.{net_of_three_moves, net_of_two_moves}

pub record WorkedExamples : Type 0 where
  pub unit_at_place_0 : (unit_of net_of_three_moves 0 ≡ 2) × IsUnit net_of_three_moves 0 2
  pub largest_at_place_0 : (largest_take net_of_three_moves 0 ≡ 6) × IsLargestTake net_of_three_moves 0 6
  -- a board in units on any bytes that have a place
  pub limit_on_bytes : (bytes : List ℕ) → 2 ≤ length bytes → slice_index (limits_in_units net_of_two_moves (byte_limits bytes)) 0 ≡ 786431
