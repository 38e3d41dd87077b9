use Rattle.std.proofs.Common.{◌≡◌, ℕ, ◌^◌, ◌<◌, cond}
use lib.Count.{ones}
use Rattle.net.specs.Fed.{bit, is_fed}
use Rattle.net.specs.Sums.{how_many}
use Rattle.net.specs.Marking.{marking}
use Rattle.net.specs.Model.{net}
use Rattle.net.proofs.plan.Plan.fed_word.Given as goal

abbrev pub invariant-loop-t : goal.invariant-loop-t
invariant-loop-t l =
    (l.word < 2 ^ l.t)
    × ((k : ℕ) → k < l.t → bit l.word k ≡ cond (is_fed (net l.self) (marking l.counts) k) 1 0)
    × (ones l.word ≡ how_many l.t (is_fed (net l.self) (marking l.counts)))
