-- A count in full units and a loose rest.
use Rattle.std.specs.Prelude.{◌≡◌, ℕ, ◌+◌, ◌*◌, ◌<◌, ◌≤◌, List, length, Some, None, Option, slice_index}
use Rattle.net.specs.Net.{Net}
use Rattle.units.specs.Units.{unit_at, counts_in_units}
use Rattle.units.specs.declared.parts.InUnits.{InUnits}

-- so many full units and a loose rest of less than a unit make the count
pub record SplitsInto (unit count : ℕ) (parts : InUnits) : Type 0 where
  pub same : parts.unit ≡ unit
  pub whole : parts.full * unit + parts.loose ≡ count
  pub rest : parts.loose < unit

-- the parts of the count at place p of a board in units: the board below holds the full units, and beyond the plan the unit is 1
pub record Parts (n : Net) (limits counts rests : List ℕ) (p : ℕ) (parts : InUnits) : Type 0 where
  pub there : p < length counts
  pub split : SplitsInto (unit_at n limits p) (slice_index (counts_in_units n limits counts rests) p) parts
  pub full : parts.full ≡ slice_index counts p
  pub single : n.places ≤ p → parts.unit ≡ 1
  pub small : slice_index (counts_in_units n limits counts rests) p ≤ 4294967295

-- absent if and only if the board below has no such place
abbrev pub PartsAt : Net → List ℕ → List ℕ → List ℕ → ℕ → Option InUnits → Type 0
PartsAt n limits counts rests p None = length counts ≤ p
PartsAt n limits counts rests p (Some parts) = Parts n limits counts rests p parts
