-- From what is known at each stage of reading to the question that got a no.
use Rattle.std.proofs.Common.{◌≡◌, ℕ, suc, ◌+◌, ◌-◌, ◌*◌, ◌<◌, ◌≤◌, Bool, true, false, List, [], ◌∷◌, length, get_or, sym, refl, ap, ◌∙◌, subst, inl, inr, ⊎_elim, arith, lit≤, below_none, below_more}
use Rattle.std.proofs.lemmas.Bool.{cases_lt, both_ways}
use Rattle.clause.specs.Kinds.{code_of, lawful_number, lawful_ceiling}
use Rattle.clause.specs.declared.kind.Kind.{Kind}
use Rattle.clause.specs.declared.kind.Kind.TheVariants.{Blank, Ceiling, NeverStuck, DeadSet, KeptSet}
use Rattle.sheet.specs.Layout.{word16, word64, places_in, moves_in, first_code, second_code, first_at, second_at, number_at, size_of}
use Rattle.sheet.specs.Questions.{Outside, BadCertificate, Wrong, Lawful}
use Rattle.refusal.specs.declared.refusals.SheetRefusal.{SheetRefusal}
use Rattle.refusal.specs.Refusals.{answer_of_sheet}
use Rattle.sheet.specs.Stages.{Refused, HeaderRead, ArcsLight, FieldsLawful, FirstUnlawful, WeightRefused, FieldRefused, ceiling, number}
use Rattle.sheet.specs.declared.header.Header.{Header}

-- every question before this one got a yes
abbrev pub Passed : List ℕ → ℕ → Type 0
Passed bytes asked = (sooner : ℕ) → sooner < asked → (at : ℕ) → Wrong bytes sooner at → ⊥

-- a question gets a yes where nothing is wrong
abbrev Yes : List ℕ → ℕ → Type 0
Yes bytes asked = (at : ℕ) → Wrong bytes asked at → ⊥

-- within a range is not outside it
pub inside : {low high n : ℕ} → low ≤ n → n ≤ high → Outside low high n → ⊥
inside l h = ⊎_elim (λ below. omega arith) (λ above. omega arith)

-- a code is at most 4
pub code-low : (kind : Kind) → code_of kind ≤ 4
code-low Blank = lit≤ tt
code-low Ceiling = lit≤ tt
code-low NeverStuck = lit≤ tt
code-low DeadSet = lit≤ tt
code-low KeptSet = lit≤ tt

-- the kind of a code
abbrev kind_of : ℕ → Kind
kind_of code = get_or (Blank ∷ Ceiling ∷ NeverStuck ∷ DeadSet ∷ KeptSet ∷ []) code Blank

kind-back : (kind : Kind) → kind_of (code_of kind) ≡ kind
kind-back Blank = refl
kind-back Ceiling = refl
kind-back NeverStuck = refl
kind-back DeadSet = refl
kind-back KeptSet = refl

-- kinds with the same code are the same
pub same_code : (a b : Kind) → code_of a ≡ code_of b → a ≡ b
same_code a b e = sym (kind-back a) ∙ ap kind_of e ∙ kind-back b

-- what a kind passes, no kind of its code fails
passes : (test : Kind → Bool) (kind : Kind) {code : ℕ} → code_of kind ≡ code → test kind ≡ true → ((other : Kind) × (code_of other ≡ code) × (test other ≡ false)) → ⊥
passes test kind is pass fail = both_ways (test kind) (subst (λ k. test k ≡ false) (same_code fail.0 kind (fail.1 ∙ sym is)) fail.2) pass

module _ (bytes : List ℕ) where
  pub passed_none : Passed bytes 1
  passed_none = below_more (Yes bytes) 0 (below_none (Yes bytes)) (λ at none. none)

  pub passed-short : 4 ≤ length bytes → Passed bytes 2
  passed-short long = below_more (Yes bytes) 1 passed_none (λ at w. omega (arith, w.0))

  pub passed-size : Passed bytes 2 → 1 ≤ places_in bytes → places_in bytes ≤ 16 → 1 ≤ moves_in bytes → moves_in bytes ≤ 32 → Passed bytes 3
  passed-size passed p q t u = below_more (Yes bytes) 2 passed (λ at. ⊎_elim (λ w. inside p q w.1) (λ w. inside t u w.1))

  pub passed-kind : Passed bytes 3 → (Outside 1 4 (first_code bytes) → ⊥) → second_code bytes ≤ 4 → Passed bytes 4
  passed-kind passed one two = below_more (Yes bytes) 3 passed (λ at. ⊎_elim (λ w. one w.1) (λ w. omega (arith, w.1)))

  pub passed_length : Passed bytes 4 → length bytes ≡ size_of bytes → Passed bytes 5
  passed_length passed same = below_more (Yes bytes) 4 passed (λ at w. w.1 same)

  pub passed-weight : Passed bytes 5 → ArcsLight bytes → Passed bytes 6
  passed-weight passed light = below_more (Yes bytes) 5 passed (λ at w. omega (arith, light w.0 w.1, w.3))

  pub passed-field : Passed bytes 6 → ((at : ℕ) → BadCertificate bytes (first_code bytes) (first_at bytes) at → ⊥) → ((at : ℕ) → BadCertificate bytes (second_code bytes) (second_at bytes) at → ⊥) → Passed bytes 7
  passed-field passed one two = below_more (Yes bytes) 6 passed (λ at. ⊎_elim (one at) (two at))

  -- the first four questions at once
  pub passed-header : (header : Header) → HeaderRead bytes header → Passed bytes 5
  passed-header header h =
      let two = passed-size (passed-short h.long) h.some_places h.few_places h.some_moves h.few_moves in
      let three = passed-kind two (inside h.first_used (omega (arith, code-low header.first))) (omega (arith, code-low header.second)) in
      passed_length three h.size

  -- there is no question after the sixth
  pub all-passed : Passed bytes 7 → Lawful bytes
  all-passed passed asked spot =
      ⊎_elim
      (λ early. passed asked early spot)
      (λ late w. let e : asked ≡ suc (suc (suc (suc (suc (suc (suc (asked - 7))))))) = omega arith in subst (λ a. Wrong bytes a spot) e w)
      (cases_lt asked 7)

-- no field is bad at a spot where the ceiling is lawful, and so is the number if there is one
not-bad : (bytes : List ℕ) (kind : Kind) {code : ℕ} (start spot : ℕ) → code_of kind ≡ code → lawful_ceiling kind (word64 bytes start) ≡ true
    → ((p : ℕ) → p < places_in bytes → spot ≡ number_at start p → lawful_number kind (word16 bytes (number_at start p)) ≡ true)
    → BadCertificate bytes code start spot → ⊥
not-bad bytes kind start spot is top numbers =
    ⊎_elim
    (λ w. passes (λ k. lawful_ceiling k (word64 bytes start)) kind is top w.1)
    (λ w. passes (λ k. lawful_number k (word16 bytes (number_at start w.0))) kind is (numbers w.0 w.1 w.2) w.3)

-- the fields of one certificate
module _ {bytes : List ℕ} {kind : Kind} {code start : ℕ} (is : code_of kind ≡ code) where
  -- lawful fields are not bad
  pub fields-pass : FieldsLawful bytes kind start → (spot : ℕ) → BadCertificate bytes code start spot → ⊥
  fields-pass lawful spot = not-bad bytes kind start spot is lawful.ceiling (λ p within _. lawful.numbers p within)

  -- the first unlawful field is bad
  pub first-bad : {offset : ℕ} → FirstUnlawful bytes kind start offset → BadCertificate bytes code start offset
  first-bad (ceiling at fails) = inl (at, (kind, is, fails))
  first-bad (number p at within fails _ _) = inr (p, within, at, (kind, is, fails))

  -- no field below it is bad
  pub none_below : {offset : ℕ} → FirstUnlawful bytes kind start offset → (lower : ℕ) → lower < offset → BadCertificate bytes code start lower → ⊥
  none_below (ceiling at fails) lower below = ⊎_elim (λ w. omega (arith, w.0)) (λ w. omega (arith, w.2))
  none_below (number p at within fails top sooner) lower below = not-bad bytes kind start lower is top (λ k _ spot. sooner k (omega arith))

-- a bad field lies within its certificate
bad-within : (bytes : List ℕ) (code start spot : ℕ) → BadCertificate bytes code start spot → (start ≤ spot) × (spot < start + 8 + 2 * places_in bytes)
bad-within bytes code start spot =
    ⊎_elim (λ w. (omega (arith, w.0), omega (arith, w.0))) (λ w. (omega (arith, w.2), omega (arith, w.1, w.2)))

-- the fifth and the sixth question, once the header is read
module _ {bytes : List ℕ} {header : Header} (h : HeaderRead bytes header) where
  -- the first five questions at once
  light-passed : ArcsLight bytes → Passed bytes 6
  light-passed = passed-weight bytes (passed-header bytes header h)

  -- the first heavy arc is the first no
  pub first-heavy : (refusal : SheetRefusal) → WeightRefused bytes refusal → Refused bytes refusal
  first-heavy refusal (asked, f) =
      rw asked (record {
        wrong = (f.index, f.within, f.at, f.heavy);
        before = passed-header bytes header h;
        lowest = λ lower below w. omega (arith, w.2, w.3, f.before w.0 (omega (arith, w.2)));
      })

  -- so is the first unlawful field of the first certificate, which ends before the second starts
  pub first-unlawful : (refusal : SheetRefusal) → ArcsLight bytes → FieldRefused bytes header.first (first_at bytes) refusal → Refused bytes refusal
  first-unlawful refusal light f =
      let bad = first-bad h.first f.1 in
      let end = bad-within bytes (first_code bytes) (first_at bytes) (answer_of_sheet refusal).spot bad in
      rw f.0 (record {
        wrong = inl bad;
        before = light-passed light;
        lowest = λ lower below. ⊎_elim
            (none_below h.first f.1 lower below)
            (λ w. omega (arith, (bad-within bytes (second_code bytes) (second_at bytes) lower w).0));
      })

  -- and that of the second, where the first is lawful
  pub second-unlawful : (refusal : SheetRefusal) → ArcsLight bytes → FieldsLawful bytes header.first (first_at bytes) → FieldRefused bytes header.second (second_at bytes) refusal → Refused bytes refusal
  second-unlawful refusal light first f = rw f.0 (record {
    wrong = inr (first-bad h.second f.1);
    before = light-passed light;
    lowest = λ lower below. ⊎_elim (fields-pass h.first first lower) (none_below h.second f.1 lower below);
  })

  -- every question gets a yes where both are lawful
  pub both-lawful : ArcsLight bytes → FieldsLawful bytes header.first (first_at bytes) → FieldsLawful bytes header.second (second_at bytes) → Lawful bytes
  both-lawful light first second = all-passed bytes (passed-field bytes (light-passed light) (fields-pass h.first first) (fields-pass h.second second))

  -- where the certificates start, by the header
  pub first-start : {start : ℕ} → start ≡ 4 + 4 * (header.moves * header.places) + 4 * header.places → start ≡ first_at bytes
  first-start is = cc

  pub second-start : {start : ℕ} → start ≡ 4 + 4 * (header.moves * header.places) + 4 * header.places + 8 + 2 * header.places → start ≡ second_at bytes
  second-start is = cc
