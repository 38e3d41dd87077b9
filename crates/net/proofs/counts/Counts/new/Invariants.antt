use Rattle.std.proofs.Common.{◌≡◌, ℕ, ◌<◌, ◌≤◌, length, get_or}
use Rattle.net.proofs.counts.Counts.new.Given as goal

abbrev pub invariant-loop-p : goal.invariant-loop-p
invariant-loop-p l =
    (length l.held ≡ 16)
    × ((k : ℕ) → k < l.p → get_or l.held k 0 ≡ get_or l.numbers k 0)
    × ((k : ℕ) → l.p ≤ k → get_or l.held k 0 ≡ 0)
