use Rattle.std.proofs.Common.{get_or, rules}
use Rattle.net.specs.Marking.{marking}
use Rattle.weigh.specs.Weights.{weights_of}
use Rattle.weigh.proofs.Laws.{keeps-weighed}
use Rattle.weigh.proofs.weighing.Weighing.weighed_sum.Goals as goal

pub returns-clause-value : goal.returns-clause-value
returns-clause-value c = c.sum_with.ensures (λ p. get_or (marking c.args.counts.now) p 0) (λ p n told. search rules)

pub returns-clause-kept : goal.returns-clause-kept
returns-clause-kept c = keeps-weighed (weights_of c.args.self.now)
