use Rattle.std.proofs.Common.{◌≡◌, ℕ, ◌+◌, ◌*◌, ◌<◌, length, get_or}
use Rattle.sheet.proofs.words.read_words.Given as goal

abbrev pub invariant-loop-k : goal.invariant-loop-k
invariant-loop-k g l =
    (length l.words ≡ length l.initial.words)
    × ((j : ℕ) (none : _) → j < l.k → get_or l.words j none ≡ g.W.Word.spelled l.bytes (l.at + g.W.Word.WIDTH * j))
