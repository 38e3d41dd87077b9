-- Every worked example: its number by computing it, and what the number means by the law of the definition.
use mathlib.Core.Path.{◌≡◌, refl, ap, subst, ◌∙◌}
use mathlib.Core.List.{List}
use Prim.Native.Nat.{ℕ, ◌+◌, ◌-◌, ◌*◌, ◌<◌, ◌≤◌}
use native.Mathlib.Omega.{arith}
use Rattle.net.specs.Divisors.{euclid, gcd_of, gcd_of_arcs, unit_of, IsUnit}
use Rattle.net.specs.Takes.{largest_below, largest_take, IsLargestTake}
use Rattle.net.proofs.Gcds.{unit-is}
use Rattle.net.proofs.Takers.{largest-is}
use lib.ListN.{length, get_or}
use Rattle.board.specs.Bytes.{byte_counts, byte_limits}
use Rattle.board.proofs.EvenLimits.{even-at, even-paired}
use Rattle.board.proofs.OnBytes.{counts-long}
use Rattle.units.specs.Units.{unit_over_limit, limits_in_units}
use Rattle.units.proofs.Scaled.{limits_in_units-at}
use Rattle.examples.specs.Plans.{net_of_three_moves, net_of_two_moves}
use Rattle.examples.specs.Table.{WorkedExamples}

unit-2 : unit_of net_of_three_moves 0 ≡ 2
unfolding euclid gcd_of gcd_of_arcs unit_of
unit-2 = refl

largest-6 : largest_take net_of_three_moves 0 ≡ 6
unfolding largest_below
largest-6 = refl

unit-12 : unit_of net_of_two_moves 0 ≡ 12
unfolding euclid gcd_of gcd_of_arcs unit_of
unit-12 = refl

limit-786431 : (bytes : List ℕ) → 2 ≤ length bytes → get_or (limits_in_units net_of_two_moves (byte_limits bytes)) 0 0 ≡ 786431
limit-786431 bytes some =
    let there : 0 < length (byte_counts bytes) = omega (arith, counts-long bytes) in
    let low : get_or (byte_limits bytes) 0 0 ≡ 65535 = even-at (byte_counts bytes) 65535 0 there in
    limits_in_units-at net_of_two_moves (byte_limits bytes) 0 (omega (arith, even-paired (byte_counts bytes) 65535))
    ∙ ap (λ limit. limit * unit_over_limit limit (unit_of net_of_two_moves 0) + unit_over_limit limit (unit_of net_of_two_moves 0) - 1) low
    ∙ ap (λ unit. 65535 * unit_over_limit 65535 unit + unit_over_limit 65535 unit - 1) unit-12

pub worked-examples : WorkedExamples
worked-examples = record {
  unit_at_place_0 = (unit-2, subst (λ u. IsUnit net_of_three_moves 0 u) unit-2 (unit-is net_of_three_moves 0));
  largest_at_place_0 = (largest-6, subst (λ v. IsLargestTake net_of_three_moves 0 v) largest-6 (largest-is net_of_three_moves 0 (λ none. omega (arith, largest-6))));
  limit_on_bytes = limit-786431;
}
