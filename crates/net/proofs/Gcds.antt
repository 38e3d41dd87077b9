-- Euclid's algorithm finds the greatest common divisor, and so the unit of a place.
use Rattle.std.proofs.Common.{◌≡◌, ℕ, zero, suc, ◌+◌, ◌%◌, ◌<◌, ◌≤◌, max, eqb, refl, le_refl, add-one, arith, lit<}
use Prim.Native.Nat.{◌∣◌}
use native.Mathlib.Nat.{dvd_refl, dvd-zero, dvd_trans, dvd_antisymm, dvd-mod_iff, eq-zero_of_zero-dvd, one-dvd}
use Rattle.std.proofs.lemmas.Nat.{mod_below}
use Rattle.std.proofs.lemmas.Bool.{eqb-true, eqb-false, cond_both}
use Rattle.net.specs.Net.{Net}
use Rattle.net.specs.Divisors.{euclid, gcd_of, gcd_of_arcs, unit_of, IsGcd, Isolated, IsUnit}
use Rattle.net.proofs.Below.{each_below}

-- with 0 every number is its own greatest common divisor
pub gcd-zero : (a b : ℕ) → b ≡ 0 → IsGcd a b a
gcd-zero a b none = (dvd_refl a, rw none (dvd-zero a), λ d h _. h)

-- a step of Euclid's keeps the greatest common divisor
pub gcd-step : (a b g : ℕ) → IsGcd b (a % b) g → IsGcd a b g
gcd-step a b g h = ((dvd-mod_iff g h.0).0 h.1, h.0, λ d p q. h.2 d q ((dvd-mod_iff d q).1 p))

-- b steps are enough
euclid-is : (steps a b : ℕ) → b ≤ steps → IsGcd a b (euclid steps a b)
unfolding euclid
euclid-is zero a b enough = gcd-zero a b (omega arith)
euclid-is (suc steps) a b enough =
    cond_both (eqb b 0) a (euclid steps b (a % b)) (IsGcd a b)
    (λ yes. gcd-zero a b (eqb-true b 0 yes))
    (λ no.
    let apart = eqb-false b 0 no in
    let some : 0 < b = omega arith in
    gcd-step a b _ (euclid-is steps b (a % b) (omega (arith, mod_below a b some))))

-- gcd_of is the greatest common divisor
pub gcd-is : (a b : ℕ) → IsGcd a b (gcd_of a b)
unfolding gcd_of
gcd-is a b = euclid-is b a b (le_refl b)

-- two numbers have one greatest common divisor
pub gcd-unique : (a b g h : ℕ) → IsGcd a b g → IsGcd a b h → g ≡ h
gcd-unique a b g h one other = dvd_antisymm (other.2 g one.0 one.1) (one.2 h other.0 other.1)

module _ (n : Net) (p : ℕ) where
  -- d divides what move t takes and gives
  abbrev Divides : ℕ → ℕ → Type 0
  Divides d t = (d ∣ n.takes t p) × (d ∣ n.gives t p)

  -- the divisor of one more move divides the one before, and the move's arcs
  arcs-more : (k : ℕ) → (gcd_of_arcs n p (suc k) ∣ gcd_of_arcs n p k) × Divides (gcd_of_arcs n p (suc k)) k
  unfolding gcd_of_arcs
  arcs-more k =
      let inner = gcd-is (gcd_of_arcs n p k) (n.takes k p) in
      let outer = gcd-is (gcd_of (gcd_of_arcs n p k) (n.takes k p)) (n.gives k p) in
      (dvd_trans _ outer.0 inner.0, (dvd_trans _ outer.0 inner.1, outer.1))

  -- it divides the arcs of each of the moves
  arcs-divide : (k t : ℕ) → t < k → Divides (gcd_of_arcs n p k) t
  arcs-divide =
      each_below (λ k t. Divides (gcd_of_arcs n p k) t)
      (λ k. (arcs-more k).1)
      (λ k t h. (dvd_trans _ (arcs-more k).0 h.0, dvd_trans _ (arcs-more k).0 h.1))

  -- whatever divides the arcs of each of the moves divides it
  arcs-greatest : (d k : ℕ) → ((t : ℕ) → t < k → Divides d t) → d ∣ gcd_of_arcs n p k
  unfolding gcd_of_arcs
  arcs-greatest d zero each = dvd-zero d
  arcs-greatest d (suc k) each =
      let last = each k (omega arith) in
      let inner = (gcd-is (gcd_of_arcs n p k) (n.takes k p)).2 d (arcs-greatest d k (λ t h. each t (omega arith))) last.0 in
      (gcd-is (gcd_of (gcd_of_arcs n p k) (n.takes k p)) (n.gives k p)).2 d inner last.1

  -- where it is 0, the place has no arc
  zero-isolated : gcd_of_arcs n p n.moves ≡ 0 → Isolated n p
  zero-isolated none t below =
      let h = rw none at (arcs-divide n.moves t below) in
      (eq-zero_of_zero-dvd h.0, eq-zero_of_zero-dvd h.1)

  -- where the place has no arc, it is 0
  isolated-zero : Isolated n p → gcd_of_arcs n p n.moves ≡ 0
  isolated-zero alone =
      eq-zero_of_zero-dvd (arcs-greatest 0 n.moves (λ t below. (rw (alone t below).0 (dvd-zero 0), rw (alone t below).1 (dvd-zero 0))))

  -- unit_of is the unit
  pub unit-is : IsUnit n p (unit_of n p)
  unfolding unit_of
  unit-is =
      let all = gcd_of_arcs n p n.moves in
      cond_both (eqb all 0) 1 all (IsUnit n p)
      (λ yes. record {
        positive = lit< tt;
        divides = λ t _. (one-dvd _, one-dvd _);
        greatest = λ some d _. absurd (some (zero-isolated (eqb-true all 0 yes)));
        alone = λ _. refl;
      })
      (λ no. let some = eqb-false all 0 no in record {
        positive = omega arith;
        divides = arcs-divide n.moves;
        greatest = λ _ d h. arcs-greatest d n.moves h;
        alone = λ isolated. absurd (some (isolated-zero isolated));
      })

  -- one more move in the fold
  pub arcs-fold : (t : ℕ) → gcd_of_arcs n p (t + 1) ≡ gcd_of (gcd_of (gcd_of_arcs n p t) (n.takes t p)) (n.gives t p)
  unfolding gcd_of_arcs
  arcs-fold t = rw add-one

  -- the unit is the divisor of all arcs, or 1 where that is 0
  pub unit-max : unit_of n p ≡ max (gcd_of_arcs n p n.moves) 1
  unfolding unit_of
  unit-max =
      let all = gcd_of_arcs n p n.moves in
      cond_both (eqb all 0) 1 all (λ u. u ≡ max all 1)
      (λ yes. let none = eqb-true all 0 yes in omega arith)
      (λ no. let some = eqb-false all 0 no in omega arith)
