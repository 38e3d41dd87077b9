-- A board in units has no more places than the board below.
use Rattle.std.specs.Prelude.{ℕ, ◌≤◌, List, length}
use Rattle.std.proofs.Common.{arith}
use Rattle.std.proofs.lemmas.List.FromFn.{length-map-range_with_len}
use Rattle.net.specs.Net.{Net}
use Rattle.units.specs.Units.{count_at, counts_in_units}

pub units-few : (n : Net) (limits counts rests : List ℕ) → length counts ≤ 16 → length (counts_in_units n limits counts rests) ≤ 16
units-few n limits counts rests few = omega (arith, length-map-range_with_len (count_at n limits counts rests) 0 (length counts))
