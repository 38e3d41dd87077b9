-- What a record says of the bytes of a sheet.
use Rattle.std.specs.Prelude.{◌≡◌, ℕ, ◌<◌, List, replicate, Some, None, Ok, Err, Option, Result, MatchOption, slice_index, slice_index_or}
use Rattle.net.specs.Net.{Net}
use Rattle.net.specs.Divisors.{IsUnit}
use Rattle.net.specs.Takes.{NoTaker, IsLeastTake, IsLargestTake}
use Rattle.net.specs.Fed.{IsFedWord, fed_move_count}
use Rattle.net.specs.Model.{net}
use Rattle.net.specs.Marking.{marking}
use Rattle.weigh.specs.Weights.{weights_of}
use Rattle.weigh.specs.Sums.{weighed}
use Rattle.weigh.specs.Judged.{Judged}
use Rattle.weigh.specs.declared.weighing.Weighing.{Weighing}
use Rattle.clause.specs.Certificates.{values_of}
use Rattle.clause.specs.declared.certificate.Certificate.{Certificate}
use Rattle.clause.specs.declared.certificate.Certificate.TheVariants.{Blank, Ceiling, NeverStuck, DeadSet, KeptSet}
use Rattle.refusal.specs.Refusals.{answer_of}
use Rattle.refusal.specs.declared.refusals.Refusal.{Refusal}
use Rattle.sheet.specs.Layout.{first_code, second_code, first_at, second_at}
use Rattle.sheet.specs.Questions.{Lawful, FirstWrong}
use Rattle.sheet.specs.Spelled.{SpellsNet, SpellsCounts, SpellsCertificate}
use Rattle.planrecord.specs.declared.records.PlaceRecord.{PlaceRecord}
use Rattle.planrecord.specs.Stock.{DescribesStock}
use Rattle.planrecord.specs.declared.records.StockRecord.{StockRecord}
use Rattle.planrecord.specs.declared.records.WeighingRecord.{WeighingRecord}
use Rattle.planrecord.specs.declared.records.CertificateRecord.{CertificateRecord}
use Rattle.planrecord.specs.declared.records.PlanRecord.{PlanRecord}

-- what is recorded of place p
pub record DescribesPlace (n : Net) (m : List ℕ) (p : ℕ) (place : PlaceRecord) : Type 0 where
  pub count : place.count ≡ slice_index m p
  pub unit : IsUnit n p place.unit
  pub least : MatchOption place.least (NoTaker n p) (IsLeastTake n p)
  pub largest : MatchOption place.largest (NoTaker n p) (IsLargestTake n p)

-- what is recorded of a weighing
pub record DescribesWeighing (n : Net) (m ws : List ℕ) (weighing : WeighingRecord) : Type 0 where
  pub balance : Judged n ws weighing.balance
  pub sum : weighing.sum ≡ weighed ws m

-- the weighing of a certificate, where its kind has one
abbrev pub weighing_in : Certificate → Option Weighing
weighing_in Blank = None
weighing_in (Ceiling weighing top) = Some weighing
weighing_in (NeverStuck weighing) = Some weighing
weighing_in (DeadSet set) = None
weighing_in (KeptSet set) = None

-- a weighing is recorded if and only if there is one
abbrev pub DescribesWeighingIn : Net → List ℕ → Option Weighing → Option WeighingRecord → Type 0
DescribesWeighingIn n m None None = Unit {0}
DescribesWeighingIn n m None (Some weighing) = ⊥
DescribesWeighingIn n m (Some held) None = ⊥
DescribesWeighingIn n m (Some held) (Some weighing) = DescribesWeighing n m (weights_of held) weighing

abbrev pub DescribesCertificate : Net → List ℕ → CertificateRecord → Type 0
DescribesCertificate n m shown = DescribesWeighingIn n m (weighing_in shown.certificate) shown.weighing

pub record Describes (bytes : List ℕ) (shown : PlanRecord) : Type 0 where
  pub lawful : Lawful bytes
  pub plan : SpellsNet bytes (net shown.plan)
  pub counts : SpellsCounts bytes (marking shown.counts)
  pub places : (p : ℕ) (other : PlaceRecord) → p < 16 → DescribesPlace (net shown.plan) (marking shown.counts) p (slice_index_or shown.places p other)
  -- on a board of 16 places of two bytes each
  pub stock : (p : ℕ) (other : StockRecord) → p < 16 → DescribesStock (net shown.plan) (replicate 16 65535) p (slice_index (marking shown.counts) p) (slice_index_or shown.stock p other)
  pub fed_word : IsFedWord (net shown.plan) (marking shown.counts) shown.fed_word
  pub fed_count : shown.fed_moves ≡ fed_move_count (net shown.plan) (marking shown.counts)
  pub first : SpellsCertificate bytes (first_code bytes) (first_at bytes) (values_of shown.first.certificate)
  pub first_weighing : DescribesCertificate (net shown.plan) (marking shown.counts) shown.first
  pub second : SpellsCertificate bytes (second_code bytes) (second_at bytes) (values_of shown.second.certificate)
  pub second_weighing : DescribesCertificate (net shown.plan) (marking shown.counts) shown.second

-- what describing the bytes must answer
abbrev pub IsDescription : List ℕ → Result PlanRecord Refusal → Type 0
IsDescription bytes (Ok shown) = Describes bytes shown
IsDescription bytes (Err refusal) = FirstWrong bytes (answer_of refusal).number (answer_of refusal).spot
