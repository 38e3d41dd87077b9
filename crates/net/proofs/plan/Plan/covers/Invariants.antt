use Rattle.std.proofs.Common.{ℕ, ◌<◌, ◌≤◌, get_or}
use Rattle.net.specs.Marking.{marking}
use Rattle.net.proofs.plan.Plan.covers.Given as goal

abbrev pub invariant-loop-p : goal.invariant-loop-p
invariant-loop-p l = (k : ℕ) → k < l.p → get_or l.takes k 0 ≤ get_or (marking l.counts) k 0
