-- The number of each certificate's kind, its ceiling and its numbers.
use Rattle.std.specs.Prelude.{◌≡◌, ℕ, ◌<◌, ◌≤◌, true, List, [], length, slice_index}
use Rattle.weigh.specs.Weights.{weights_of}
use Rattle.clause.specs.Kinds.{code_of, lawful_number, lawful_ceiling}
use Rattle.clause.specs.Sets.{member_numbers}
use Rattle.clause.specs.declared.kind.Kind.{Kind}
use Rattle.clause.specs.declared.kind.Kind.TheVariants as kinds
use Rattle.clause.specs.declared.certificate.Certificate.{Certificate}
use Rattle.clause.specs.declared.certificate.Certificate.TheVariants.{Blank, Ceiling, NeverStuck, DeadSet, KeptSet}

pub record Values : Type 0 where
  pub code : ℕ
  pub ceiling : ℕ
  pub numbers : List ℕ

abbrev pub values_of : Certificate → Values
values_of Blank = record { code = 0; ceiling = 0; numbers = [] }
values_of (Ceiling weighing top) = record { code = 1; ceiling = top; numbers = weights_of weighing }
values_of (NeverStuck weighing) = record { code = 2; ceiling = 0; numbers = weights_of weighing }
values_of (DeadSet set) = record { code = 3; ceiling = 0; numbers = member_numbers set }
values_of (KeptSet set) = record { code = 4; ceiling = 0; numbers = member_numbers set }

-- fields that a certificate of this kind may have
pub record LawfulFields (kind : Kind) (top : ℕ) (ns : List ℕ) : Type 0 where
  pub some : 1 ≤ length ns
  pub few : length ns ≤ 16
  pub ceiling : lawful_ceiling kind top ≡ true
  pub numbers : (p : ℕ) → p < length ns → lawful_number kind (slice_index ns p) ≡ true

-- the fields as the certificate keeps them: a blank drops its noughts
abbrev kept_numbers : Kind → List ℕ → List ℕ
kept_numbers kinds.Blank ns = []
kept_numbers kinds.Ceiling ns = ns
kept_numbers kinds.NeverStuck ns = ns
kept_numbers kinds.DeadSet ns = ns
kept_numbers kinds.KeptSet ns = ns

abbrev pub kept_values : Kind → ℕ → List ℕ → Values
kept_values kind top ns = record { code = code_of kind; ceiling = top; numbers = kept_numbers kind ns }
