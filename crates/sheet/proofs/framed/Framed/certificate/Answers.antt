use Rattle.std.proofs.Common.{◌≡◌, ℕ, ◌<◌, true, List, length, get_or, sym, refl, ◌∙◌, rules, arith}
use Rattle.std.proofs.lemmas.Bool.{eqb-true}
use Rattle.std.proofs.lemmas.Option.{MatchOption-at_some}
use Rattle.clause.specs.Kinds.{code_of, lawful_number, lawful_ceiling}
use Rattle.clause.specs.Certificates.{kept_values}
use Rattle.clause.specs.declared.kind.Kind.{Kind}
use Rattle.clause.specs.declared.kind.Kind.TheVariants.{Blank, Ceiling, NeverStuck, DeadSet, KeptSet}
use Rattle.sheet.specs.Layout.{word16, word64, places_in, number_at}
use Rattle.sheet.specs.Stages.{number}
use Rattle.sheet.proofs.Slices.{Reads}
use Rattle.sheet.proofs.framed.Framed.certificate.Goals as goal
use Rattle.sheet.proofs.framed.Framed.certificate.Goals.{After-read_words}

-- the numbers that a certificate keeps read as those that it was given: those that a blank drops are noughts
kept-numbers : (kind : Kind) (top : ℕ) (ns : List ℕ) → ((p : ℕ) → p < length ns → lawful_number kind (get_or ns p 0) ≡ true)
    → ((code_of kind ≡ 0 → ⊥) → length (kept_values kind top ns).numbers ≡ length ns) × ((p : ℕ) → p < length ns → get_or (kept_values kind top ns).numbers p 0 ≡ get_or ns p 0)
kept-numbers Blank top ns lawful = ((λ used. absurd (used refl)), λ p h. sym (eqb-true (get_or ns p 0) 0 (lawful p h)))
kept-numbers Ceiling top ns lawful = ((λ used. refl), λ p h. refl)
kept-numbers NeverStuck top ns lawful = ((λ used. refl), λ p h. refl)
kept-numbers DeadSet top ns lawful = ((λ used. refl), λ p h. refl)
kept-numbers KeptSet top ns lawful = ((λ used. refl), λ p h. refl)

-- the numbers and the ceiling of the certificate, as they are read
numbers-read : (c : After-read_words) → Reads (places_in c.args.self.now.bytes.now) (λ p. word16 c.args.self.now.bytes.now (number_at c.args.start p)) c.read_words.new.words
numbers-read c =
    let is : c.args.self.now.header.places ≡ places_in c.args.self.now.bytes.now = c.args.self.now.read.places in
    let long : length c.read_words.new.words ≡ c.args.self.now.header.places = search rules in
    record { long = long ∙ is; each = λ p inside. c.read_words.ensures.each p 0 (omega (arith, long, c.read_words.ensures.long, is)) }

ceiling-lawful : (c : After-read_words) → lawful_ceiling c.args.kind (word64 c.args.self.now.bytes.now c.args.start) ≡ true
ceiling-lawful c = rw c.read-ceiling.ensures at (sym c.if-not-admits_ceiling.ensures)

pub returns-in-Some : goal.returns-in-Some
returns-in-Some c =
    let before = (goal.at.returns-in-Some c).After-read_words in
    let reads = numbers-read before in
    let found = c.in-Some.ensures in
    let within : c.in-Some.p < places_in c.args.self.now.bytes.now = omega (arith, reads.long) in
    (refl, number c.in-Some.p refl within (rw (reads.each _ within) at found.1) (ceiling-lawful before) (λ k h. rw (reads.each k (omega arith)) at (found.2 k h)))

pub returns : goal.returns
returns c =
    let before = (goal.at.returns c).After-read_words in
    let reads = numbers-read before in
    let made = MatchOption-at_some _ _ c.unwrap.result c.unwrap.ensures c.new.ensures in
    let kept = kept-numbers c.args.kind c.read-ceiling.result c.read_words.new.words made.0.numbers in (
      record { ceiling = ceiling-lawful before; numbers = λ p h. rw (reads.each p h) at (made.0.numbers p (omega (arith, reads.long))) },
      rw made.1 (record {
        kind = refl;
        ceiling = c.read-ceiling.ensures;
        size = λ used. kept.0 used ∙ reads.long;
        numbers = λ p h. kept.1 p (omega (arith, reads.long)) ∙ reads.each p h;
      }),
    )
