-- Two answers that keep the contract of reading are the same answer.
use Rattle.std.proofs.Common.{◌≡◌, ℕ, ◌+◌, ◌*◌, ◌<◌, ◌≤◌, ◌⊎◌, List, [], length, get_or, Ok, Err, Result, sym, refl, ap, ◌∙◌, subst, inl, inr, ⊎_elim, arith}
use Rattle.std.proofs.lemmas.List.{ext_get_or}
use Rattle.std.proofs.lemmas.Bool.{cases_lt, cases_eq}
use Rattle.net.specs.Model.{net, Same, cell_at}
use Rattle.net.specs.Marking.{marking}
use Rattle.net.specs.declared.plan.Plan.{Plan}
use Rattle.net.proofs.Rows.{arc-past, arc-none}
use Rattle.clause.specs.Certificates.{Values, values_of}
use Rattle.clause.specs.declared.certificate.Certificate.{Certificate}
use Rattle.clause.specs.declared.certificate.Certificate.TheVariants.{Blank, Ceiling, NeverStuck, DeadSet, KeptSet}
use Rattle.refusal.specs.Refusals.{Answer, answer_of}
use Rattle.refusal.specs.declared.refusals.Layer.TheVariants.{Sheet as sheet_layer}
use Rattle.refusal.specs.declared.refusals.Refusal.{Refusal}
use Rattle.refusal.specs.declared.refusals.Refusal.TheVariants.{Sheet as refused}
use Rattle.refusal.specs.declared.refusals.SheetRefusal.TheVariants.{Short, Size, Kind, Length, Weight, Field}
use Rattle.sheet.specs.Layout.{word16, word32, places_in, moves_in, first_code, second_code, arcs_in, arc_at, count_at, first_at, second_at, number_at}
use Rattle.sheet.specs.Questions.{Wrong, Lawful, FirstWrong}
use Rattle.sheet.specs.Spelled.{SpellsNet, SpellsCertificate, Spells, IsReading}
use Rattle.sheet.specs.Agreed.{SameSheet, SameAnswer}
use Rattle.sheet.specs.declared.sheets.Sheet.{Sheet}

-- no other first no asks later, or lies higher
not-later : {bytes : List ℕ} {a s b t : ℕ} → FirstWrong bytes a s → FirstWrong bytes b t → a < b → ⊥
not-later {a} {s} one other sooner = other.before a sooner s one.wrong

not-higher : {bytes : List ℕ} {a s b t : ℕ} → FirstWrong bytes a s → FirstWrong bytes b t → a ≡ b → s < t → ⊥
not-higher {bytes} {s} one other same lower = other.lowest s lower (subst (λ x. Wrong bytes x s) same one.wrong)

-- there is one first no
same-no : {bytes : List ℕ} {a s b t : ℕ} → FirstWrong bytes a s → FirstWrong bytes b t → (a ≡ b) × (s ≡ t)
same-no {a} {b} one other =
    let sooner = not-later one other in
    let later = not-later other one in
    let same : a ≡ b = omega arith in
    let lower = not-higher one other same in
    let higher = not-higher other one (sym same) in
    (same, omega arith)

-- lawful bytes have none
none-wrong : (bytes : List ℕ) {a s : ℕ} → Lawful bytes → FirstWrong bytes a s → ⊥
none-wrong bytes {a} {s} lawful first = lawful a s first.wrong

-- the answer of a sheet's refusal, by its number and spot
answer : ℕ → ℕ → Answer
answer asked at = record { number = asked; slot = 0; spot = at; layer = sheet_layer }

answer-parts : (refusal : Refusal) → answer_of refusal ≡ answer (answer_of refusal).number (answer_of refusal).spot
unfolding answer
answer-parts (refused (Short n)) = refl
answer-parts (refused (Size n)) = refl
answer-parts (refused (Kind n)) = refl
answer-parts (refused (Length n)) = refl
answer-parts (refused (Weight n)) = refl
answer-parts (refused (Field n)) = refl

-- refusals with the same number and spot have the same answer
same-refusals : (one other : Refusal) → (answer_of one).number ≡ (answer_of other).number → (answer_of one).spot ≡ (answer_of other).spot → answer_of one ≡ answer_of other
same-refusals one other numbers spots =
    answer-parts one
    ∙ ap (λ asked. answer asked (answer_of one).spot) numbers
    ∙ ap (answer (answer_of other).number) spots
    ∙ sym (answer-parts other)

-- numbers that are spelled by the same words are the same
same-words : (n : ℕ) (word : ℕ → ℕ) (xs ys : List ℕ) → length xs ≡ n → length ys ≡ n
    → ((p : ℕ) → p < n → get_or xs p 0 ≡ word p) → ((p : ℕ) → p < n → get_or ys p 0 ≡ word p) → xs ≡ ys
same-words n word xs ys long long' reads reads' =
    ext_get_or 0 xs ys (long ∙ sym long') (λ p h. let inside : p < n = omega arith in reads p inside ∙ sym (reads' p inside))

-- arcs that are these words, and 0 at a move or a place that is not there
record Arcs (moves places : ℕ) (word arc : ℕ → ℕ → ℕ) : Type 0 where
  inside : (t p : ℕ) → t < moves → p < places → arc t p ≡ word t p
  beyond : (t p : ℕ) → (moves ≤ t) ⊎ (places ≤ p) → arc t p ≡ 0

-- such arcs are the same
same-arcs : {moves places : ℕ} {word f g : ℕ → ℕ → ℕ} → Arcs moves places word f → Arcs moves places word g → (t p : ℕ) → f t p ≡ g t p
same-arcs {moves} {places} {f} {g} one other t p =
    let neither : (moves ≤ t) ⊎ (places ≤ p) → f t p ≡ g t p = λ past. one.beyond t p past ∙ sym (other.beyond t p past) in
    ⊎_elim
    (λ moved. ⊎_elim (λ placed. one.inside t p moved placed ∙ sym (other.inside t p moved placed)) (λ past. neither (inr past)) (cases_lt p places))
    (λ past. neither (inl past))
    (cases_lt t moves)

-- rows that are 0 past the last one have such arcs
row-arcs : (width height : ℕ) (rows : List ℕ) {moves places : ℕ} {word : ℕ → ℕ → ℕ} → width ≡ places → height ≡ moves → ((k : ℕ) → height * width ≤ k → get_or rows k 0 ≡ 0)
    → ((t p : ℕ) → t < moves → p < places → cell_at width rows t p ≡ word t p) → Arcs moves places word (cell_at width rows)
row-arcs width height rows wide high blank reads = record {
  inside = reads;
  beyond = λ t p. ⊎_elim (λ past. arc-none width height rows blank t p (omega arith)) (λ past. arc-past width rows t p (omega arith));
}

-- a blank has no numbers
blank-numbers : (c : Certificate) → (values_of c).code ≡ 0 → (values_of c).numbers ≡ []
blank-numbers Blank e = refl
blank-numbers (Ceiling _ _) e = absurd (omega arith)
blank-numbers (NeverStuck _) e = absurd (omega arith)
blank-numbers (DeadSet _) e = absurd (omega arith)
blank-numbers (KeptSet _) e = absurd (omega arith)

-- values with the same parts are the same
same_parts : (v w : Values) → v.code ≡ w.code → v.ceiling ≡ w.ceiling → v.numbers ≡ w.numbers → v ≡ w
same_parts v w kinds tops lists =
    ap (λ k. record { code = k; ceiling = v.ceiling; numbers = v.numbers }) kinds
    ∙ ap (λ top. record { code = w.code; ceiling = top; numbers = v.numbers }) tops
    ∙ ap (λ xs. record { code = w.code; ceiling = w.ceiling; numbers = xs }) lists

module _ (bytes : List ℕ) where
  -- the arcs of a plan that the bytes spell
  takes-arcs : (plan : Plan) → SpellsNet bytes (net plan) → Arcs (moves_in bytes) (places_in bytes) (λ t p. word16 bytes (arc_at (t * places_in bytes + p))) (net plan).takes
  takes-arcs plan s = row-arcs plan.places plan.moves plan.takes s.places s.moves (λ k h. (plan.blank k h).0) s.takes

  gives-arcs : (plan : Plan) → SpellsNet bytes (net plan) → Arcs (moves_in bytes) (places_in bytes) (λ t p. word16 bytes (arc_at (arcs_in bytes + (t * places_in bytes + p)))) (net plan).gives
  gives-arcs plan s = row-arcs plan.places plan.moves plan.gives s.places s.moves (λ k h. (plan.blank k h).1) s.gives

  -- the bytes spell one plan
  same-plans : (one other : Plan) → SpellsNet bytes (net one) → SpellsNet bytes (net other) → Same (net one) (net other)
  same-plans one other s s' = record {
    same_places = s.places ∙ sym s'.places;
    same_moves = s.moves ∙ sym s'.moves;
    same_takes = same-arcs (takes-arcs one s) (takes-arcs other s');
    same_gives = same-arcs (gives-arcs one s) (gives-arcs other s');
  }

  -- one certificate of a code at a start
  same-certificates : (code start : ℕ) (one other : Certificate) → SpellsCertificate bytes code start (values_of one) → SpellsCertificate bytes code start (values_of other) → values_of one ≡ values_of other
  same-certificates code start one other s s' =
      same_parts (values_of one) (values_of other)
      (s.kind ∙ sym s'.kind)
      (s.ceiling ∙ sym s'.ceiling)
      (⊎_elim
      (λ blank. blank-numbers one (s.kind ∙ blank) ∙ sym (blank-numbers other (s'.kind ∙ blank)))
      (λ used. same-words (places_in bytes) (λ p. word16 bytes (number_at start p)) (values_of one).numbers (values_of other).numbers (s.size used) (s'.size used) s.numbers s'.numbers)
      (cases_eq code 0))

  -- one sheet
  same-sheets : (one other : Sheet) → Spells bytes one → Spells bytes other → SameSheet one other
  same-sheets one other s s' = record {
    places = s.state.0 ∙ sym s'.state.0;
    moves = s.state.1 ∙ sym s'.state.1;
    plan = same-plans one.plan other.plan s.plan s'.plan;
    counts = same-words (places_in bytes) (λ p. word32 bytes (count_at bytes p)) (marking one.counts) (marking other.counts) s.counts.0 s'.counts.0 s.counts.1 s'.counts.1;
    first = same-certificates (first_code bytes) (first_at bytes) one.first other.first s.first s'.first;
    second = same-certificates (second_code bytes) (second_at bytes) one.second other.second s.second s'.second;
  }

  -- there is one answer
  pub same-answers : (one other : Result Sheet Refusal) → IsReading bytes one → IsReading bytes other → SameAnswer one other
  same-answers (Ok one) (Ok other) r r' = same-sheets one other r.1 r'.1
  same-answers (Ok one) (Err refusal) r r' = none-wrong bytes r.0 r'
  same-answers (Err refusal) (Ok other) r r' = none-wrong bytes r'.0 r
  same-answers (Err one) (Err other) r r' = let same = same-no r r' in same-refusals one other same.0 same.1
