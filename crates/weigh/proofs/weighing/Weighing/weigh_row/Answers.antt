use Rattle.std.proofs.Common.{get_or, rules}
use Rattle.weigh.proofs.weighing.Weighing.weigh_row.Goals as goal

pub returns : goal.returns
returns c = c.sum_with.ensures (λ p. get_or c.args.row.now p 0) (λ p n told. search rules)
