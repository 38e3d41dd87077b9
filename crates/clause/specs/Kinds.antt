-- The code and the name of each kind of certificate, and which numbers and ceilings it may have.
use Rattle.std.specs.Prelude.{◌≡◌, ℕ, ◌<◌, Bool, true, ◌&&◌, ◌==◌, nat_le, List, ◌++◌, codes, decimal, Result, MatchResult}
use Rattle.clause.specs.declared.kind.Kind.{Kind}
use Rattle.clause.specs.declared.kind.Kind.TheVariants.{Blank, Ceiling, NeverStuck, DeadSet, KeptSet}
use Rattle.clause.specs.declared.kind.UnknownKind.{UnknownKind}

abbrev pub code_of : Kind → ℕ
code_of Blank = 0
code_of Ceiling = 1
code_of NeverStuck = 2
code_of DeadSet = 3
code_of KeptSet = 4

-- the kind with this code, or an error that holds a code which no kind has
abbrev pub Decodes : ℕ → Result Kind UnknownKind → Type 0
Decodes code r = MatchResult r (λ kind. code_of kind ≡ code) (λ e. (e.0 ≡ code) × (4 < code))

abbrev pub name_of : Kind → List ℕ
name_of Blank = codes "blank"
name_of Ceiling = codes "ceiling"
name_of NeverStuck = codes "never stuck"
name_of DeadSet = codes "dead set"
name_of KeptSet = codes "kept set"

-- what is said of a code that no kind has
abbrev pub unknown_text : UnknownKind → List ℕ
unknown_text unknown = codes "no kind of certificate has code " ++ decimal unknown.0

-- a weight is 1 to 1,000; 1 puts a place into a set and 0 leaves it out; a blank has noughts alone
abbrev pub lawful_number : Kind → ℕ → Bool
lawful_number Blank number = number == 0
lawful_number Ceiling number = nat_le 1 number && nat_le number 1000
lawful_number NeverStuck number = nat_le 1 number && nat_le number 1000
lawful_number DeadSet number = nat_le number 1
lawful_number KeptSet number = nat_le number 1

-- only a ceiling certificate has a ceiling
abbrev pub lawful_ceiling : Kind → ℕ → Bool
lawful_ceiling Blank top = top == 0
lawful_ceiling Ceiling top = true
lawful_ceiling NeverStuck top = top == 0
lawful_ceiling DeadSet top = top == 0
lawful_ceiling KeptSet top = top == 0
