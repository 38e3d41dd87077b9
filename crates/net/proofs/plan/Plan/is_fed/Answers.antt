use Rattle.std.proofs.Common.{rules, MatchBool}
use Rattle.net.specs.Net.{Fed}
use Rattle.net.specs.Marking.{marking}
use Rattle.net.specs.Model.{net}
use Rattle.net.proofs.Tests.{told-fed}
use Rattle.net.proofs.plan.Plan.is_fed.Goals as goal

pub returns-clause-value : goal.returns-clause-value
returns-clause-value c =
    let n = net c.args.self.now in
    let m = marking c.args.counts.now in
    let fed : MatchBool c.is_some_and.result (Fed n m c.args.t) (Fed n m c.args.t → ⊥) = search rules in
    told-fed c.is_some_and.result n m c.args.t fed
