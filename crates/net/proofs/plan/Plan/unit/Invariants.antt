use Rattle.std.proofs.Common.{◌≡◌}
use Rattle.net.specs.Divisors.{gcd_of_arcs}
use Rattle.net.specs.Model.{net}
use Rattle.net.proofs.plan.Plan.unit.Given as goal

abbrev pub invariant-loop-t : goal.invariant-loop-t
invariant-loop-t l = l.common ≡ gcd_of_arcs (net l.self) l.p l.t
