use Rattle.std.proofs.Common.{◌≡◌, ℕ, ◌*◌, ◌<◌, not, eqb, List, length, get_or, IsTrue, ◌↔◌, refl, sym, ap, ◌∙◌, ⊎_elim, arith}
use Rattle.std.proofs.lemmas.Bool.{false≢true, cases_eq, eq-eqb, ne_eqb}
use Rattle.net.specs.Net.{Net}
use Rattle.net.specs.Sums.{sum_below}
use Rattle.net.specs.Model.{net, IsRow}
use Rattle.weigh.specs.Sums.{weighed}
use Rattle.weigh.specs.Weights.{weights_of}
use Rattle.weigh.specs.Balance.{IsUneven, taken_weight, given_weight}
use Rattle.weigh.proofs.Sums.{sum_below-same}
use Rattle.weigh.proofs.Laws.{idle-even}
use Rattle.weigh.proofs.Weights.{weights-long}
use Rattle.weigh.proofs.weighing.Weighing.is_uneven.Goals as goal

module _ (n : Net) (ws : List ℕ) (long : length ws ≡ n.places) (t : ℕ) where
  -- the weight of a row is that of the arcs it has
  row-weight : (arc : ℕ → ℕ → ℕ) (row : List ℕ) → IsRow n arc t row → weighed ws row ≡ sum_below (length ws) (λ p. get_or ws p 0 * arc t p)
  row-weight arc row is = sum_below-same (length ws) _ _ (λ p below. ap (λ x. get_or ws p 0 * x) (is.1 p (omega arith)))

  -- whether the two weights differ says whether the move tips
  differ-tips : (a b : ℕ) → t < n.moves → a ≡ taken_weight n ws t → b ≡ given_weight n ws t → IsTrue (not (eqb a b)) ↔ IsUneven n ws t
  differ-tips a b below taken given =
      ⊎_elim
      (λ same. rw (eq-eqb a b same) ((λ no. absurd (false≢true no)), λ tips. absurd (tips.2 (sym taken ∙ same ∙ given))))
      (λ differ. rw (ne_eqb a b differ) ((λ yes. (below, (λ idle. differ (taken ∙ idle-even n ws long t idle ∙ sym given)), λ same. differ (taken ∙ same ∙ sym given))), λ tips. refl))
      (cases_eq a b)

pub returns : goal.returns
returns c =
    let w = c.args.self.now in
    let n = net c.args.plan.now in
    let t = c.args.t in
    let takes = c.in-Some-Some.ensures in
    let gives = c.in-Some-Some.ensures' in
    let long : length (weights_of w) ≡ n.places = weights-long w ∙ c.requires in
    differ-tips n (weights_of w) long t c.weigh_row.result c.weigh_row-2.result takes.0
    (c.weigh_row.ensures ∙ row-weight n (weights_of w) long t n.takes _ takes.1)
    (c.weigh_row-2.ensures ∙ row-weight n (weights_of w) long t n.gives _ gives.1)
