-- The unit at a place of a board in units, and what the board below says there.
use Rattle.std.specs.Prelude.{◌≡◌, ℕ, ◌<◌, ◌≤◌, List, length, Some, None, Option, slice_index}
use Rattle.net.specs.Net.{Net}
use Rattle.units.specs.Units.{unit_at}
use Rattle.units.specs.declared.scale.Scale.{Scale}

pub record Scaled (n : Net) (limits counts : List ℕ) (p : ℕ) (scale : Scale) : Type 0 where
  pub there : p < length limits
  pub paired : length limits ≡ length counts
  pub limit : scale.limit ≡ slice_index limits p
  pub enough : slice_index counts p ≤ scale.limit
  pub unit : scale.unit ≡ unit_at n limits p

abbrev pub ScaledAt : Net → List ℕ → List ℕ → ℕ → Option Scale → Type 0
ScaledAt n limits counts p None = (length limits ≤ p) × (length limits ≡ length counts)
ScaledAt n limits counts p (Some scale) = Scaled n limits counts p scale
