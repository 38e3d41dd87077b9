-- The stock of a place: its count on a board in units of a plan, where the board below has these limits.
use Rattle.std.specs.Prelude.{◌≡◌, ℕ, ◌<◌, ◌≤◌, List, length, Some, None, Option, slice_index}
use Rattle.net.specs.Net.{Net}
use Rattle.units.specs.Units.{unit_at, limits_in_units}
use Rattle.units.specs.Parts.{SplitsInto}
use Rattle.units.specs.declared.parts.InUnits.{InUnits}
use Rattle.planrecord.specs.declared.records.StockRecord.{StockRecord}

-- the parts of the count, absent if and only if there is no such place or the count is past its limit
abbrev pub BooksAs : Net → List ℕ → ℕ → ℕ → Option InUnits → Type 0
BooksAs n limits p count None = p < length limits → slice_index (limits_in_units n limits) p < count
BooksAs n limits p count (Some parts) = (p < length limits) × (count ≤ slice_index (limits_in_units n limits) p) × SplitsInto (unit_at n limits p) count parts

pub record DescribesStock (n : Net) (limits : List ℕ) (p count : ℕ) (stock : StockRecord) : Type 0 where
  pub limit : stock.limit ≡ slice_index (limits_in_units n limits) p
  pub parts : BooksAs n limits p count stock.parts
