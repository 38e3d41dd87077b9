-- The number, slot, spot and layer of each refusal.
use Rattle.std.specs.Prelude.{ℕ, List, ◌++◌, codes, decimal}
use Rattle.refusal.specs.declared.refusals.Layer.{Layer}
use Rattle.refusal.specs.declared.refusals.Layer.TheVariants.{Sheet as sheet_layer}
use Rattle.refusal.specs.declared.refusals.SheetRefusal.{SheetRefusal}
use Rattle.refusal.specs.declared.refusals.SheetRefusal.TheVariants.{Short, Size, Kind, Length, Weight, Field}
use Rattle.refusal.specs.declared.refusals.Refusal.{Refusal}
use Rattle.refusal.specs.declared.refusals.Refusal.TheVariants.{Sheet}

-- number: which question got a no; slot: of the certificate that is untrue or unfit, 0 for none; spot: where
pub record Answer : Type 0 where
  pub number : ℕ
  pub slot : ℕ
  pub spot : ℕ
  pub layer : Layer

abbrev sheet_answer : ℕ → ℕ → Answer
sheet_answer question at = record { number = question; slot = 0; spot = at; layer = sheet_layer }

abbrev pub answer_of_sheet : SheetRefusal → Answer
answer_of_sheet (Short length) = sheet_answer 1 length
answer_of_sheet (Size offset) = sheet_answer 2 offset
answer_of_sheet (Kind offset) = sheet_answer 3 offset
answer_of_sheet (Length smaller) = sheet_answer 4 smaller
answer_of_sheet (Weight offset) = sheet_answer 5 offset
answer_of_sheet (Field offset) = sheet_answer 6 offset

abbrev pub answer_of : Refusal → Answer
answer_of (Sheet refusal) = answer_of_sheet refusal

-- the words of a refusal: 'no', its number, slot and spot
abbrev pub printed : Answer → List ℕ
printed answer = codes "no " ++ (decimal answer.number ++ (codes " " ++ (decimal answer.slot ++ (codes " " ++ decimal answer.spot))))
