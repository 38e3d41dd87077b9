use Rattle.std.proofs.Common.{arith}
use Rattle.net.specs.Model.{net}
use Rattle.units.proofs.Scaled.{paired, limits-long, limits_in_units-at, count-within, none_within}
use Rattle.units.proofs.units_board.UnitsBoardBoard.limit.Goals as goal

pub returns-in_err-unit : goal.returns-in_err-unit
returns-in_err-unit g c =
    let self = c.args.self.now in
    let n = net self.plan.now in
    let limits = g.B.Board.limits self.below.now in
    let counts = g.B.ReadBoard.counts self.below.now in
    let absent = c.in_err-unit.ensures in
    record {
      value = rw c.from_residual.ensures (omega (arith, limits-long n limits, absent.0));
      paired = paired n limits counts self.rests absent.1;
      enough = none_within n limits counts self.rests c.args.p (omega (arith, absent.0, absent.1));
    }

pub returns : goal.returns
returns g c =
    let self = c.args.self.now in
    let n = net self.plan.now in
    let limits = g.B.Board.limits self.below.now in
    let counts = g.B.ReadBoard.counts self.below.now in
    let p = c.args.p in
    let scale = c.in_ok-unit.field-0 in
    let scaled = c.in_ok-unit.ensures in
    let most = rw (scaled.unit, scaled.limit) at c.whole.ensures in
    record {
      value = (
        omega (arith, limits-long n limits, scaled.there),
        omega (arith, most, scaled.unit, scale.positive, limits_in_units-at n limits p scaled.there),
      );
      paired = paired n limits counts self.rests scaled.paired;
      enough = count-within n limits counts self.rests p (omega (arith, scaled.unit, scale.positive)) (omega (arith, scaled.there, scaled.paired)) scaled.there (omega (arith, scaled.limit, scaled.enough));
    }
