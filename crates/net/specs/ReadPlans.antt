-- The numbers of places and moves that a read plan remembers.
use Rattle.std.specs.Prelude.{◌≡◌, ℕ}
use Rattle.net.specs.Net.{Net}
use Rattle.net.specs.declared.read_plan.ReadPlan.{ReadPlan}

abbrev pub read_places : ReadPlan → ℕ
read_places state = state.places

abbrev pub read_moves : ReadPlan → ℕ
read_moves state = state.moves

-- a read plan remembers the numbers of a net
pub record Remembers (n : Net) (state : ReadPlan) : Type 0 where
  pub places : read_places state ≡ n.places
  pub moves : read_moves state ≡ n.moves
