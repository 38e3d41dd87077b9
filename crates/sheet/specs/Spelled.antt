-- The plan, counts and certificates that the bytes of a sheet spell, and what reading must answer.
use Rattle.std.specs.Prelude.{◌≡◌, ℕ, ◌+◌, ◌*◌, ◌<◌, List, length, Ok, Err, Result, ◌≢◌, slice_index}
use Rattle.net.specs.Net.{Net}
use Rattle.net.specs.Model.{net}
use Rattle.net.specs.Marking.{marking}
use Rattle.net.specs.ReadPlans.{read_places, read_moves}
use Rattle.clause.specs.Certificates.{Values, values_of}
use Rattle.refusal.specs.declared.refusals.Refusal.{Refusal}
use Rattle.refusal.specs.Refusals.{answer_of}
use Rattle.sheet.specs.Layout.{word16, word32, word64, places_in, moves_in, first_code, second_code, arcs_in, arc_at, count_at, first_at, second_at, number_at}
use Rattle.sheet.specs.Questions.{Lawful, FirstWrong}
use Rattle.sheet.specs.declared.sheets.Sheet.{Sheet}

pub record SpellsNet (bytes : List ℕ) (n : Net) : Type 0 where
  pub places : n.places ≡ places_in bytes
  pub moves : n.moves ≡ moves_in bytes
  pub takes : (t p : ℕ) → t < moves_in bytes → p < places_in bytes → n.takes t p ≡ word16 bytes (arc_at (t * places_in bytes + p))
  pub gives : (t p : ℕ) → t < moves_in bytes → p < places_in bytes → n.gives t p ≡ word16 bytes (arc_at (arcs_in bytes + (t * places_in bytes + p)))

abbrev pub SpellsCounts : List ℕ → List ℕ → Type 0
SpellsCounts bytes m = (length m ≡ places_in bytes) × ((p : ℕ) → p < places_in bytes → slice_index m p ≡ word32 bytes (count_at bytes p))

-- a blank has no numbers of its own: its fields are noughts
pub record SpellsCertificate (bytes : List ℕ) (code start : ℕ) (values : Values) : Type 0 where
  pub kind : values.code ≡ code
  pub ceiling : values.ceiling ≡ word64 bytes start
  pub size : (code ≢ 0) → length values.numbers ≡ places_in bytes
  pub numbers : (p : ℕ) → p < places_in bytes → slice_index values.numbers p ≡ word16 bytes (number_at start p)

pub record Spells (bytes : List ℕ) (sheet : Sheet) : Type 0 where
  pub state : (read_places sheet.state ≡ places_in bytes) × (read_moves sheet.state ≡ moves_in bytes)
  pub plan : SpellsNet bytes (net sheet.plan)
  pub counts : SpellsCounts bytes (marking sheet.counts)
  pub first : SpellsCertificate bytes (first_code bytes) (first_at bytes) (values_of sheet.first)
  pub second : SpellsCertificate bytes (second_code bytes) (second_at bytes) (values_of sheet.second)

-- what reading the bytes must answer
abbrev pub IsReading : List ℕ → Result Sheet Refusal → Type 0
IsReading bytes (Ok sheet) = Lawful bytes × Spells bytes sheet
IsReading bytes (Err refusal) = FirstWrong bytes (answer_of refusal).number (answer_of refusal).spot
