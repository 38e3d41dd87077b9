use Rattle.std.proofs.Common.{◌≡◌, ◌<◌, Some, None, refl, ap, arith, ◌/◌, sym, subst}
use Rattle.std.proofs.lemmas.Result.{err_from_is_err_and}
use Rattle.net.specs.Model.{net}
use Rattle.board.specs.Answers.{MayHold}
use Rattle.units.specs.Units.{unit_at, limits_in_units}
use Rattle.units.proofs.Scaled.{counts-long, may-hold, may-below, counts-after}
use Rattle.units.proofs.units_board.UnitsBoardBoard.set.Goals as goal

pub returns-in_err-scale-clause-counts : goal.returns-in_err-scale-clause-counts
returns-in_err-scale-clause-counts g c =
    let self = c.args.self.now in
    let below = self.below.now in
    let found = c.ok_or.ensures.ok_part in
    let was = c.in_err-scale.was in
    let none : c.scale.result ≡ None = cc in
    let absent = rw none at c.scale.ensures in
    let long = counts-long (net self.plan.now) (g.B.Board.limits below) (g.B.ReadBoard.counts below) self.rests in
    let err = err_from_is_err_and c.from_residual.result c.from_residual.ensures.1 in
    rw err.1 (λ may. omega (arith, long, absent.0, absent.1, may.0), refl)

pub returns-in_err-set : goal.returns-in_err-set
returns-in_err-set g c =
    let self = c.args.self.now in
    let n = net self.plan.now in
    let limits = g.B.Board.limits self.below.now in
    let counts = g.B.ReadBoard.counts self.below.now in
    let p = c.args.p in
    let m = c.args.n in
    let scale = c.in_ok-scale.scale in
    let found = c.ok_or.ensures.ok_part in
    let was = c.in_ok-scale.was in
    let some : c.scale.result ≡ Some scale = cc in
    let scaled = rw some at c.scale.ensures in
    let refused = c.in_err-set.ensures in
    let err = err_from_is_err_and c.from_residual-in_err-set.result c.from_residual-in_err-set.ensures.1 in
    record {
      counts = rw err.1 (
        λ may. refused.counts.0 (subst (λ u. MayHold counts limits p (m / u)) (sym scaled.unit) (may-below n limits counts self.rests p m (omega (arith, scaled.unit, scale.positive)) scaled.there may)),
        rw (refused.limits, refused.counts.1) refl,
      );
      limits = ap (limits_in_units n) refused.limits;
      kept = rw (refused.limits, refused.kept) refl;
    }

pub returns : goal.returns
returns g c =
    let self = c.args.self.now in
    let n = net self.plan.now in
    let limits = g.B.Board.limits self.below.now in
    let counts = g.B.ReadBoard.counts self.below.now in
    let p = c.args.p in
    let m = c.args.n in
    let scale = c.in_ok-scale.scale in
    let found = c.ok_or.ensures.ok_part in
    let was = c.in_ok-scale.was in
    let some : c.scale.result ≡ Some scale = cc in
    let scaled = rw some at c.scale.ensures in
    let accepted = c.in_ok-set.ensures in
    let few = g.met.B.ReadBoard.few self.below.now in
    let some_unit : 0 < unit_at n limits p = omega (arith, scaled.unit, scale.positive) in
    record {
      counts = (
        may-hold n limits counts self.rests p m some_unit scaled.there (subst (λ u. MayHold counts limits p (m / u)) scaled.unit accepted.counts.0),
        rw (accepted.limits, accepted.counts.1, scaled.unit) (counts-after n limits counts self.rests p m (omega (arith, scaled.there, scaled.paired)) (omega (arith, scaled.there, scaled.paired)) some_unit),
      );
      limits = ap (limits_in_units n) accepted.limits;
      kept = rw (accepted.limits, accepted.kept) refl;
    }
