use Rattle.std.proofs.Common.{◌∙◌, arith}
use Rattle.net.specs.Model.{net}
use Rattle.units.proofs.Scaled.{counts-long}
use Rattle.units.proofs.units_board.UnitsBoardReadBoard.count.Goals as goal

pub returns-in_err-parts : goal.returns-in_err-parts
returns-in_err-parts g c =
    let self = c.args.self.now in
    let below = self.below.now in
    let long = counts-long (net self.plan.now) (g.B.Board.limits below) (g.B.ReadBoard.counts below) self.rests in
    rw c.from_residual.ensures (omega (arith, long, c.in_err-parts.ensures))

pub returns : goal.returns
returns g c =
    let self = c.args.self.now in
    let below = self.below.now in
    let parts = c.in_ok-parts.ensures in
    let long = counts-long (net self.plan.now) (g.B.Board.limits below) (g.B.ReadBoard.counts below) self.rests in (
      omega (arith, long, parts.there),
      rw parts.split.same at c.whole.ensures ∙ parts.split.whole,
    )
