use Rattle.std.proofs.Common.{◌*◌, ◌/◌, get_or, rules}
use Rattle.net.specs.Divisors.{unit_of}
use Rattle.net.specs.Marking.{marking}
use Rattle.net.specs.Model.{net}
use Rattle.net.proofs.Gcds.{unit-is}
use Rattle.weigh.specs.Weights.{weights_of}
use Rattle.weigh.proofs.Laws.{keeps-useful}
use Rattle.weigh.proofs.weighing.Weighing.useful_sum.Goals as goal

pub returns-clause-value : goal.returns-clause-value
returns-clause-value c =
    let n = net c.args.plan.now in
    c.sum_with.ensures (λ p. unit_of n p * (get_or (marking c.args.counts.now) p 0 / unit_of n p)) (λ p whole told. search rules)

pub returns-clause-kept : goal.returns-clause-kept
returns-clause-kept c = keeps-useful (net c.args.plan.now) (weights_of c.args.self.now) (unit-is (net c.args.plan.now))
