use Rattle.std.proofs.Common.{arith}
use Rattle.net.specs.Model.{net}
use Rattle.units.proofs.Scaled.{counts-long}
use Rattle.units.proofs.units_board.UnitsBoardReadBoard.places.Goals as goal

pub returns : goal.returns
returns g c =
    let self = c.args.self.now in
    let below = self.below.now in
    omega (arith, c.places.ensures, counts-long (net self.plan.now) (g.B.Board.limits below) (g.B.ReadBoard.counts below) self.rests)
