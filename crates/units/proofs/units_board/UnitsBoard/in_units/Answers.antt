use Rattle.std.proofs.Common.{◌≡◌, ◌+◌, ◌*◌, ◌%◌, get_or, sym, ◌∙◌, arith}
use Rattle.std.proofs.lemmas.Nat.{mod_below}
use Rattle.net.specs.Model.{net}
use Rattle.units.specs.Units.{unit_at, counts_in_units}
use Rattle.units.proofs.Over.{beyond-single}
use Rattle.units.proofs.Split.{whole-small}
use Rattle.units.proofs.Scaled.{counts_in_units-at}
use Rattle.units.proofs.units_board.UnitsBoard.in_units.Goals as goal

pub returns : goal.returns
returns g c =
    let self = c.args.self.now in
    let n = net self.plan.now in
    let limits = g.B.Board.limits self.below.now in
    let counts = g.B.ReadBoard.counts self.below.now in
    let p = c.args.p in
    let rest = get_or self.rests p 0 in
    let unit = unit_at n limits p in
    let scale = c.in_ok-scale.scale in
    let full = c.in_ok-full.full in
    let scaled = c.in_ok-scale.ensures in
    let here = c.in_ok-full.ensures in
    let count = counts_in_units-at n limits counts self.rests p here.0 in
    let less = mod_below rest scale.unit scale.positive in
    let whole : full * scale.unit + rest % scale.unit ≡ get_or (counts_in_units n limits counts self.rests) p 0 = rw (scaled.unit, here.1) (sym count) in
    record {
      there = here.0;
      split = record {
        same = scaled.unit;
        whole = rw (← scaled.unit) whole;
        rest = omega (arith, less, scaled.unit);
      };
      full = here.1;
      single = λ beyond. scaled.unit ∙ beyond-single self.plan.now limits p beyond;
      small = rw (← whole) (whole-small full (rest % scale.unit) scale.unit scale.limit (omega (arith, here.1, scaled.enough)) less scale.fits);
    }
