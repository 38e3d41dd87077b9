-- What a weighing stands for.
use Rattle.std.specs.Prelude.{ℕ, ◌<◌, ◌≤◌, List, length, take, slice_index}
use Rattle.weigh.specs.declared.weighing.Weighing.{Weighing}

abbrev pub weights_of : Weighing → List ℕ
weights_of w = take w.len w.weights

-- numbers that a weighing can be made of
abbrev pub AreWeights : List ℕ → Type 0
AreWeights ws = (1 ≤ length ws) × (length ws ≤ 16) × ((p : ℕ) → p < length ws → (1 ≤ slice_index ws p) × (slice_index ws p ≤ 1000))
