use Rattle.std.proofs.Common.{◌≡◌, ℕ, ◌<◌, length, get_or}
use Rattle.board.proofs.reading.copied.Given as goal

abbrev pub invariant-loop-p : goal.invariant-loop-p
invariant-loop-p g l =
    (length l.number-items ≡ l.places)
    × ((k : ℕ) → k < l.p → get_or l.number-items k 0 ≡ get_or (g.B.ReadBoard.counts l.board) k 0)
