use Rattle.std.proofs.Common.{ap}
use Rattle.net.specs.Model.{net}
use Rattle.planrecord.proofs.Booked.{booked, refused}
use Rattle.planrecord.proofs.stock.stock_record.Goals as goal

pub returns-in-Ok-clause-stock : goal.returns-in-Ok-clause-stock
returns-in-Ok-clause-stock g c =
    let first = c.args.board.now in
    let last = c.set.new.self in
    let limits = g.B.Board.limits first.below.now in
    let set = c.in-Ok.ensures in
    record {
      limit = c.limit_at-limit.ensures.value;
      parts = booked (net first.plan.now) limits _ (g.B.ReadBoard.counts last.below.now) last.rests c.args.p c.args.count c.limit_at-limit.ensures.paired _ _ c.in_units-parts.result
          (ap (λ frame. frame.plan) set.kept) (ap (λ frame. frame.limits) set.kept) set.counts.0 set.counts.1 c.in_units-parts.ensures;
    }

pub returns-in-Err-clause-stock : goal.returns-in-Err-clause-stock
returns-in-Err-clause-stock g c =
    let first = c.args.board.now in
    record {
      limit = c.limit_at-limit.ensures.value;
      parts = refused (net first.plan.now) (g.B.Board.limits first.below.now) _ (g.B.ReadBoard.counts first.below.now) first.rests c.args.p c.args.count c.limit_at-limit.ensures.paired
          c.in-Err.ensures.counts.0;
    }
