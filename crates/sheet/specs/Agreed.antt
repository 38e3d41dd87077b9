-- When two answers of reading are the same answer.
use Rattle.std.specs.Prelude.{◌≡◌, ℕ, List, Ok, Err, Result}
use Rattle.net.specs.Model.{net, Same}
use Rattle.net.specs.Marking.{marking}
use Rattle.net.specs.ReadPlans.{read_places, read_moves}
use Rattle.clause.specs.Certificates.{values_of}
use Rattle.refusal.specs.declared.refusals.Refusal.{Refusal}
use Rattle.refusal.specs.Refusals.{answer_of}
use Rattle.sheet.specs.Spelled.{IsReading}
use Rattle.sheet.specs.declared.sheets.Sheet.{Sheet}

pub record SameSheet (one other : Sheet) : Type 0 where
  pub places : read_places one.state ≡ read_places other.state
  pub moves : read_moves one.state ≡ read_moves other.state
  pub plan : Same (net one.plan) (net other.plan)
  pub counts : marking one.counts ≡ marking other.counts
  pub first : values_of one.first ≡ values_of other.first
  pub second : values_of one.second ≡ values_of other.second

-- the same sheet, or the same refusal
abbrev pub SameAnswer : Result Sheet Refusal → Result Sheet Refusal → Type 0
SameAnswer (Ok one) (Ok other) = SameSheet one other
SameAnswer (Ok one) (Err refusal) = ⊥
SameAnswer (Err refusal) (Ok other) = ⊥
SameAnswer (Err one) (Err other) = answer_of one ≡ answer_of other

-- any other reader that keeps the contract gives this answer
abbrev pub OnlyReading : List ℕ → Result Sheet Refusal → Type 0
OnlyReading bytes answer = (other : Result Sheet Refusal) → IsReading bytes other → SameAnswer answer other
