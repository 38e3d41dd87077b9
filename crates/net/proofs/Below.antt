-- What a value made turn by turn keeps of each turn.
use Rattle.std.proofs.Common.{ℕ, zero, suc, ◌<◌, arith, below_more}

-- `Holds k j` is what the value after k turns says of turn j: where turn j makes it hold and later turns keep it, it holds of every turn
pub each_below : (Holds : ℕ → ℕ → Type 0) → ((k : ℕ) → Holds (suc k) k) → ((k j : ℕ) → Holds k j → Holds (suc k) j) → (k j : ℕ) → j < k → Holds k j
each_below Holds made kept zero j below = absurd (omega arith)
each_below Holds made kept (suc k) j below =
    below_more (Holds (suc k)) k (λ i h. kept k i (each_below Holds made kept k i h)) (made k) j (omega arith)
