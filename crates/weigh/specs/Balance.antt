-- When a weighing balances a plan (a conservative vector of the net), and what that is worth.
use Rattle.std.specs.Prelude.{◌≡◌, ℕ, ◌*◌, ◌<◌, List, length, ◌≢◌, slice_index}
use Rattle.net.specs.Net.{Net, Fires}
use Rattle.net.specs.Sums.{sum_below}
use Rattle.weigh.specs.Sums.{weighed, useful}

-- move t takes nothing and gives nothing
abbrev pub Idle : Net → ℕ → Type 0
Idle n t = (p : ℕ) → p < n.places → (n.takes t p ≡ 0) × (n.gives t p ≡ 0)

-- the weight of what a move takes, and of what it gives
abbrev pub taken_weight : Net → List ℕ → ℕ → ℕ
taken_weight n ws t = sum_below (length ws) (λ p. slice_index ws p * n.takes t p)

abbrev pub given_weight : Net → List ℕ → ℕ → ℕ
given_weight n ws t = sum_below (length ws) (λ p. slice_index ws p * n.gives t p)

-- move t is not idle, and takes another weight than it gives
abbrev pub IsUneven : Net → List ℕ → ℕ → Type 0
IsUneven n ws t = (t < n.moves) × (Idle n t → ⊥) × (taken_weight n ws t ≢ given_weight n ws t)

-- a weight for each place, and every move that is not idle takes and gives the same weight
abbrev pub Balances : Net → List ℕ → Type 0
Balances n ws = (length ws ≡ n.places) × ((t : ℕ) → t < n.moves → (Idle n t → ⊥) → taken_weight n ws t ≡ given_weight n ws t)

-- firing keeps the weighed sum, in every net that these weights balance and from all counts
abbrev pub FiringKeepsWeighed : List ℕ → Type 0
FiringKeepsWeighed ws = (n : Net) → Balances n ws → (t : ℕ) (before after : List ℕ) → Fires n t before after → weighed ws after ≡ weighed ws before

-- and it keeps the useful sum
abbrev pub FiringKeepsUseful : Net → List ℕ → Type 0
FiringKeepsUseful n ws = Balances n ws → (t : ℕ) (before after : List ℕ) → Fires n t before after → useful n ws after ≡ useful n ws before
