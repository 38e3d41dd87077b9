-- The net that a plan stands for.
use Rattle.std.specs.Prelude.{◌≡◌, ℕ, ◌+◌, ◌*◌, ◌<◌, ◌≤◌, cond, List, length, Some, None, Option, nat_lt, slice_index}
use Rattle.std.specs.Borrow.{Bor}
use Rattle.net.specs.Net.{Net}
use Rattle.net.specs.declared.plan.Plan.{Plan}

-- rows of `width` numbers, one after the other, read at row t and column p; a row has nothing past its width
abbrev pub cell_at : ℕ → List ℕ → ℕ → ℕ → ℕ
cell_at width rows t p = cond (nat_lt p width) (slice_index rows (t * width + p)) 0

-- the net that two lists of rows spell, move by move and place by place
abbrev pub spelled : ℕ → ℕ → List ℕ → List ℕ → Net
spelled width height rows rows' = record { places = width; moves = height; takes = cell_at width rows; gives = cell_at width rows' }

abbrev pub net : Plan → Net
net plan = spelled plan.places plan.moves plan.takes plan.gives

-- the numbers of row t, one for each place
abbrev pub IsRow : Net → (ℕ → ℕ → ℕ) → ℕ → List ℕ → Type 0
IsRow n arc t row = (length row ≡ n.places) × ((p : ℕ) → p < n.places → slice_index row p ≡ arc t p)

-- row t, absent if and only if there is no move t
abbrev pub IsRowAt : Net → (ℕ → ℕ → ℕ) → ℕ → Option (Bor (List ℕ)) → Type 0
IsRowAt n arc t None = n.moves ≤ t
IsRowAt n arc t (Some row) = (t < n.moves) × IsRow n arc t row.now

-- every number is at most the largest weight of an arc
abbrev pub Light : List ℕ → Type 0
Light rows = (k : ℕ) → slice_index rows k ≤ 1000

-- the numbers that a plan can be made of
pub record Lawful (width height : ℕ) (rows rows' : List ℕ) : Type 0 where
  pub some_places : 1 ≤ width
  pub few_places : width ≤ 16
  pub some_moves : 1 ≤ height
  pub few_moves : height ≤ 32
  pub takes_long : length rows ≡ height * width
  pub gives_long : length rows' ≡ height * width
  pub takes_light : Light rows
  pub gives_light : Light rows'

-- two nets have the same places, moves and arcs
pub record Same (n n' : Net) : Type 0 where
  pub same_places : n.places ≡ n'.places
  pub same_moves : n.moves ≡ n'.moves
  pub same_takes : (t p : ℕ) → n.takes t p ≡ n'.takes t p
  pub same_gives : (t p : ℕ) → n.gives t p ≡ n'.gives t p
