-- What is known of a sheet's bytes at each stage of reading them.
use Rattle.std.specs.Prelude.{◌≡◌, ℕ, ◌*◌, ◌<◌, ◌≤◌, true, false, List, length}
use Rattle.clause.specs.Kinds.{code_of, lawful_number, lawful_ceiling}
use Rattle.clause.specs.declared.kind.Kind.{Kind}
use Rattle.refusal.specs.declared.refusals.SheetRefusal.{SheetRefusal}
use Rattle.refusal.specs.Refusals.{answer_of_sheet}
use Rattle.sheet.specs.Layout.{word16, word64, places_in, moves_in, first_code, second_code, arcs_in, arc_at, number_at, size_of}
use Rattle.sheet.specs.Questions.{FirstWrong}
use Rattle.sheet.specs.declared.header.Header.{Header}

-- the bytes are refused with this refusal
abbrev pub Refused : List ℕ → SheetRefusal → Type 0
Refused bytes refusal = FirstWrong bytes (answer_of_sheet refusal).number (answer_of_sheet refusal).spot

-- the first four questions got a yes
pub record HeaderRead (bytes : List ℕ) (header : Header) : Type 0 where
  pub long : 4 ≤ length bytes
  pub places : header.places ≡ places_in bytes
  pub some_places : 1 ≤ places_in bytes
  pub few_places : places_in bytes ≤ 16
  pub moves : header.moves ≡ moves_in bytes
  pub some_moves : 1 ≤ moves_in bytes
  pub few_moves : moves_in bytes ≤ 32
  pub first : code_of header.first ≡ first_code bytes
  pub first_used : 1 ≤ first_code bytes
  pub second : code_of header.second ≡ second_code bytes
  pub size : length bytes ≡ size_of bytes

-- the fifth question: every take and give is light; or the first that is not
abbrev pub ArcsLight : List ℕ → Type 0
ArcsLight bytes = (k : ℕ) → k < 2 * arcs_in bytes → word16 bytes (arc_at k) ≤ 1000

pub record FirstHeavy (bytes : List ℕ) (offset : ℕ) : Type 0 where
  pub index : ℕ
  pub at : offset ≡ arc_at index
  pub within : index < 2 * arcs_in bytes
  pub heavy : 1000 < word16 bytes (arc_at index)
  pub before : (k : ℕ) → k < index → word16 bytes (arc_at k) ≤ 1000

-- the sixth question of one certificate: its fields are lawful; or the first that is not
pub record FieldsLawful (bytes : List ℕ) (kind : Kind) (start : ℕ) : Type 0 where
  pub ceiling : lawful_ceiling kind (word64 bytes start) ≡ true
  pub numbers : (p : ℕ) → p < places_in bytes → lawful_number kind (word16 bytes (number_at start p)) ≡ true

pub data FirstUnlawful (bytes : List ℕ) (kind : Kind) (start offset : ℕ) : Type 0 where
  ceiling : offset ≡ start → lawful_ceiling kind (word64 bytes start) ≡ false → FirstUnlawful bytes kind start offset
  number : (p : ℕ) → offset ≡ number_at start p → p < places_in bytes → lawful_number kind (word16 bytes (number_at start p)) ≡ false
      → lawful_ceiling kind (word64 bytes start) ≡ true → ((k : ℕ) → k < p → lawful_number kind (word16 bytes (number_at start k)) ≡ true)
      → FirstUnlawful bytes kind start offset

-- the refusal names the first take or give that is too large
abbrev pub WeightRefused : List ℕ → SheetRefusal → Type 0
WeightRefused bytes refusal = ((answer_of_sheet refusal).number ≡ 5) × FirstHeavy bytes (answer_of_sheet refusal).spot

-- the refusal names the first unlawful field of this certificate
abbrev pub FieldRefused : List ℕ → Kind → ℕ → SheetRefusal → Type 0
FieldRefused bytes kind start refusal = ((answer_of_sheet refusal).number ≡ 6) × FirstUnlawful bytes kind start (answer_of_sheet refusal).spot
