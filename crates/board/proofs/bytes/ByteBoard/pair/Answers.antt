use Rattle.std.proofs.Common.{arith}
use Rattle.board.proofs.OnBytes.{counts-long, pair-spelled}
use Rattle.board.proofs.bytes.ByteBoard.pair.Goals as goal

pub returns : goal.returns
returns c = let long = counts-long c.args.self.now.bytes.now in grind (arith, pair-spelled)
