-- Weighted nets and their firing rule. Counts (a marking) are a list of numbers; a place that is not in the list holds 0.
use Rattle.std.specs.Prelude.{◌≡◌, ℕ, ◌+◌, ◌<◌, ◌≤◌, List, length, slice_index}

-- A plan as the textbook's net: `takes t p` is the weight of the arc from place p to move (transition) t,
-- `gives t p` that of the arc from move t to place p. A weight of 0 is no arc.
pub record Net : Type 0 where
  pub places : ℕ
  pub moves : ℕ
  pub takes : ℕ → ℕ → ℕ
  pub gives : ℕ → ℕ → ℕ

-- every place holds at least what the move takes there
abbrev pub Covers : Net → List ℕ → ℕ → Type 0
Covers n m t = (p : ℕ) → p < n.places → n.takes t p ≤ slice_index m p

-- move t is fed (enabled)
abbrev pub Fed : Net → List ℕ → ℕ → Type 0
Fed n m t = (t < n.moves) × Covers n m t

-- the counts before and after move t fires: it is fed, and at every place what it takes goes and what it gives comes
pub record Fires (n : Net) (t : ℕ) (before after : List ℕ) : Type 0 where
  pub fed : Fed n before t
  pub size : length after ≡ length before
  pub change : (p : ℕ) → p < n.places → slice_index after p + n.takes t p ≡ slice_index before p + n.gives t p
  pub rest : (p : ℕ) → n.places ≤ p → slice_index after p ≡ slice_index before p
