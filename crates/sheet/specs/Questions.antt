-- The six questions that a sheet is asked, and the spots at which it answers no.
use Rattle.std.specs.Prelude.{◌≡◌, ℕ, ◌*◌, ◌<◌, min, false, ◌⊎◌, List, [], ◌∷◌, length, ◌≢◌, slice_index_or}
use Rattle.sheet.specs.Layout.{word16, word64, places_in, moves_in, first_code, second_code, arcs_in, arc_at, first_at, second_at, number_at, size_of}
use Rattle.clause.specs.Kinds.{code_of, lawful_number, lawful_ceiling}
use Rattle.clause.specs.declared.kind.Kind.{Kind}

-- not from low to high
abbrev pub Outside : ℕ → ℕ → ℕ → Type 0
Outside low high number = (number < low) ⊎ (high < number)

-- 1: there are fewer than 4 bytes
abbrev pub TooShort : List ℕ → ℕ → Type 0
TooShort bytes spot = (length bytes < 4) × (spot ≡ length bytes)

-- 2: the number of places is not 1 to 16, or that of moves not 1 to 32
abbrev pub BadSize : List ℕ → ℕ → Type 0
BadSize bytes spot = ((spot ≡ 0) × Outside 1 16 (places_in bytes)) ⊎ ((spot ≡ 1) × Outside 1 32 (moves_in bytes))

-- 3: the first kind is not 1 to 4, or the second not 0 to 4
abbrev pub BadKind : List ℕ → ℕ → Type 0
BadKind bytes spot = ((spot ≡ 2) × Outside 1 4 (first_code bytes)) ⊎ ((spot ≡ 3) × (4 < second_code bytes))

-- 4: the length is not the one that places and moves ask for
abbrev pub BadLength : List ℕ → ℕ → Type 0
BadLength bytes spot = (spot ≡ min (length bytes) (size_of bytes)) × (length bytes ≢ size_of bytes)

-- 5: a take or a give is above 1,000
abbrev pub BadWeight : List ℕ → ℕ → Type 0
BadWeight bytes spot = (k : ℕ) × (k < 2 * arcs_in bytes) × (spot ≡ arc_at k) × (1000 < word16 bytes (arc_at k))

-- a ceiling or a number that a certificate with this code and start may not have
abbrev pub BadCeiling : List ℕ → ℕ → ℕ → ℕ → Type 0
BadCeiling bytes code start spot = (spot ≡ start) × ((kind : Kind) × (code_of kind ≡ code) × (lawful_ceiling kind (word64 bytes start) ≡ false))

abbrev pub BadNumber : List ℕ → ℕ → ℕ → ℕ → Type 0
BadNumber bytes code start spot = (p : ℕ) × (p < places_in bytes) × (spot ≡ number_at start p)
    × ((kind : Kind) × (code_of kind ≡ code) × (lawful_number kind (word16 bytes (number_at start p)) ≡ false))

abbrev pub BadCertificate : List ℕ → ℕ → ℕ → ℕ → Type 0
BadCertificate bytes code start spot = BadCeiling bytes code start spot ⊎ BadNumber bytes code start spot

-- 6: a field of a certificate is out of range
abbrev pub BadField : List ℕ → ℕ → Type 0
BadField bytes spot = BadCertificate bytes (first_code bytes) (first_at bytes) spot ⊎ BadCertificate bytes (second_code bytes) (second_at bytes) spot

-- there is no question 0, and none after the last
abbrev Unasked : List ℕ → ℕ → Type 0
Unasked bytes spot = ⊥

-- question `asked` gets a no at `spot`
abbrev pub Wrong : List ℕ → ℕ → ℕ → Type 0
Wrong bytes asked spot = slice_index_or (Unasked ∷ TooShort ∷ BadSize ∷ BadKind ∷ BadLength ∷ BadWeight ∷ BadField ∷ []) asked Unasked bytes spot

-- every question gets a yes
abbrev pub Lawful : List ℕ → Type 0
Lawful bytes = (asked spot : ℕ) → Wrong bytes asked spot → ⊥

-- the first question that gets a no, and the lowest spot at which it does
pub record FirstWrong (bytes : List ℕ) (asked spot : ℕ) : Type 0 where
  pub wrong : Wrong bytes asked spot
  pub before : (sooner : ℕ) → sooner < asked → (at : ℕ) → Wrong bytes sooner at → ⊥
  pub lowest : (lower : ℕ) → lower < spot → Wrong bytes asked lower → ⊥
