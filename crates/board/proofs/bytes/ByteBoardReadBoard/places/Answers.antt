use Rattle.std.proofs.Common.{arith}
use Rattle.board.proofs.OnBytes.{counts-long}
use Rattle.board.proofs.bytes.ByteBoardReadBoard.places.Goals as goal

pub returns : goal.returns
returns c = omega (arith, counts-long c.args.self.now.bytes.now)
