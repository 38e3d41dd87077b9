use Rattle.std.proofs.Common.{length}
use Rattle.net.proofs.Rows.{noughts-after}
use Rattle.net.proofs.plan.arcs.padded.Goals as goal

pub returns : goal.returns
returns c k = rw c.copy_from_slice.ensures.after (noughts-after c.args.rows.now (length c.args.rows.now) 512 k)
