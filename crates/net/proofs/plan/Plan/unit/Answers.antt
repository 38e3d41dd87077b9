use Rattle.std.proofs.Common.{◌≡◌, ℕ, max, sym, refl, ap, ◌∙◌, subst, arith}
use Rattle.net.specs.Divisors.{gcd_of, gcd_of_arcs, unit_of, IsUnit, IsGcd}
use Rattle.net.specs.Model.{net}
use Rattle.net.proofs.Gcds.{gcd-is, gcd-unique, arcs-fold, unit-is, unit-max}
use Rattle.net.proofs.plan.Plan.unit.Goals as goal

-- what the code finds is the defined divisor
found : (a b a' b' r : ℕ) → IsGcd a b r → a ≡ a' → b ≡ b' → r ≡ gcd_of a' b'
found a b a' b' r is ea eb = gcd-unique a b r (gcd_of a b) is (gcd-is a b) ∙ ap (λ x. gcd_of x b) ea ∙ ap (gcd_of a') eb

pub loop-t-init : goal.loop-t-init
unfolding gcd_of_arcs
loop-t-init c = refl

pub loop-t-preserved : goal.loop-t-preserved
loop-t-preserved c =
    let n = net c.args.self.now in
    let p = c.args.p in
    let t = c.loop-t.t in
    let taken = found _ _ (gcd_of_arcs n p t) (n.takes t p) c.gcd-taken.result c.gcd-taken.ensures c.loop-t.invariant (c.from.ensures ∙ c.take.ensures.value) in
    found _ _ (gcd_of (gcd_of_arcs n p t) (n.takes t p)) (n.gives t p) c.gcd-common.result c.gcd-common.ensures taken (c.from-in-loop-t.ensures ∙ c.give.ensures.value)
    ∙ sym (arcs-fold n p t)

pub returns : goal.returns
returns c =
    let n = net c.args.self.now in
    let p = c.args.p in
    let end : c.loop-t.t ≡ n.moves = omega arith in
    let e : c.max.result ≡ unit_of n p = c.max.ensures ∙ ap (λ g. max g 1) (c.loop-t.invariant ∙ ap (gcd_of_arcs n p) end) ∙ sym (unit-max n p) in
    record { value = e; unit = subst (λ u. IsUnit n p u) (sym e) (unit-is n p) }
