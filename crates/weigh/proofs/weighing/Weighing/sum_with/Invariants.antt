use Rattle.std.proofs.Common.{◌≡◌, ℕ, ◌*◌, ◌^◌, ◌≤◌, get_or}
use Rattle.net.specs.Sums.{sum_below}
use Rattle.weigh.specs.Weights.{weights_of}
use Rattle.weigh.proofs.weighing.Weighing.sum_with.Given as goal

-- a weight is below 2 ^ 16 and a number below 2 ^ 32
abbrev pub invariant-loop-p : goal.invariant-loop-p
invariant-loop-p g l = record {
  value : (numbers : ℕ → ℕ) → ((p n : ℕ) → goal.F-post g l.number_at p n → n ≡ numbers p) → l.sum ≡ sum_below l.p (λ p. get_or (weights_of l.self) p 0 * numbers p);
  small : l.sum ≤ l.p * 2 ^ 48;
}
