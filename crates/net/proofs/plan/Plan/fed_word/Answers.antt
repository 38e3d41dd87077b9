use Rattle.std.proofs.Common.{◌≡◌, ℕ, ◌+◌, ◌^◌, ◌<◌, Bool, true, false, cond, sym, refl, ap, ◌∙◌, ⊎_elim, arith, lit<, below_more}
use lib.Count.{ones}
use Rattle.std.proofs.lemmas.Nat.{pow-add}
use Rattle.std.proofs.lemmas.Bool.{cases_lt}
use Rattle.net.specs.Fed.{bit, is_fed}
use Rattle.net.specs.Sums.{how_many}
use Rattle.net.specs.Marking.{marking}
use Rattle.net.specs.Model.{net}
use Rattle.net.proofs.Tests.{not-fed}
use Rattle.net.proofs.Words.{or-top, ones-top, bit-low, bit-top, bit_past, how_many-more}
use Rattle.net.proofs.plan.Plan.fed_word.Goals as goal
use Rattle.net.proofs.plan.Plan.fed_word.Goals.{then-is_fed, else-is_fed}

-- a word of the first t tests
Spells : (ℕ → Bool) → ℕ → ℕ → Type 0
Spells f t word = (word < 2 ^ t) × ((k : ℕ) → k < t → bit word k ≡ cond (f k) 1 0) × (ones word ≡ how_many t f)

spells_one : (f : ℕ → Bool) (t word : ℕ) → f t ≡ true → Spells f t word → Spells f (t + 1) (2 ^ t + word)
unfolding Spells
spells_one f t word set-bit (small, low, many) = (
  omega (arith, pow-add 2 t 1),
  below_more _ _ (λ k h. bit-low word t k h ∙ low k h) (bit-top word t small ∙ sym (ap (λ b. cond b 1 0) set-bit)),
  ones-top word t small ∙ ap (λ n. n + 1) many ∙ sym (how_many-more t f ∙ ap (λ b. how_many t f + cond b 1 0) set-bit),
)

spells-none : (f : ℕ → Bool) (t word : ℕ) → f t ≡ false → Spells f t word → Spells f (t + 1) word
unfolding Spells
spells-none f t word clear (small, low, many) = (
  omega (arith, pow-add 2 t 1),
  below_more _ _ low (bit_past word t t small (omega arith) ∙ sym (ap (λ b. cond b 1 0) clear)),
  (let e = how_many-more t f ∙ ap (λ b. how_many t f + cond b 1 0) clear in omega arith),
)

pub loop-t-init : goal.loop-t-init
unfolding ones how_many
loop-t-init c = (lit< tt, λ k h. absurd (omega arith), refl)

pub loop-t-preserved : goal.loop-t-preserved
unfolding Spells
loop-t-preserved c =
    let f = is_fed (net c.args.self.now) (marking c.args.counts.now) in
    let t = c.loop-t.t in
    let word = c.loop-t.word in
    elim c.if-is_fed.branch [
      | then-is_fed w ↦
          let e : c.if-is_fed.word ≡ 2 ^ t + word = w.word-is ∙ or-top word t (omega arith) c.loop-t.invariant.0 in
          rw e (spells_one f t word (sym c.is_fed.ensures.value ∙ w.if-is_fed.true) c.loop-t.invariant)
      | else-is_fed w ↦ rw w.word-is (spells-none f t word (sym c.is_fed.ensures.value ∙ w.if-is_fed.false) c.loop-t.invariant)
    ]

pub returns : goal.returns
returns c =
    let n = net c.args.self.now in
    let m = marking c.args.counts.now in
    let small = c.loop-t.invariant.0 in
    let low = c.loop-t.invariant.1 in
    let many = c.loop-t.invariant.2 in
    let end : c.loop-t.t ≡ n.moves = omega arith in
    record {
      bits = λ t. ⊎_elim
          (λ below. low t (omega arith))
          (λ past. bit_past c.loop-t.word c.loop-t.t t small (omega arith)
          ∙ sym (ap (λ b. cond b 1 0) (not-fed n m t (λ f. omega (arith, f.0)))))
          (cases_lt t n.moves);
      ones = many ∙ ap (λ k. how_many k (is_fed n m)) end;
    }
