use Rattle.std.proofs.Common.{◌<◌, length, refl, arith, length-set, length-take}
use Rattle.std.proofs.lemmas.List.{drop-set-lt}
use Rattle.std.proofs.Math.Seq.{take-set-lt}
use Rattle.board.specs.Numbers.{number_counts}
use Rattle.board.proofs.EvenLimits.{even-holds}
use Rattle.board.proofs.numbers.NumberBoardBoard.set.Goals as goal

pub returns : goal.returns
returns c =
    let numbers = c.args.self.now.numbers.now in
    let p = c.args.p in
    let n = c.args.n in
    let there : p < length (number_counts numbers) = omega arith in
    let among : p < 16 = omega (arith, length-take 16 numbers) in
    let written = take-set-lt 16 numbers p n among in
    record {
      counts = (even-holds (number_counts numbers) 4294967295 p n there (omega arith), written);
      limits = rw written (simp length-set);
      kept = rw (drop-set-lt 16 numbers p n among) refl;
    }
