-- What holds of each element of an array that calls at its indices made, where each call keeps a fact about the state that it starts from.
use Rattle.std.proofs.Common.{◌≡◌, ℕ, zero, suc, ◌+◌, ◌<◌, ◌≤◌, List, get_or, sym, subst, ⊎_elim, arith}
use Rattle.std.proofs.lemmas.Bool.{cases_lt}
use denote.Param.Members.{Mut, Called}
use Rattle.std.specs.Array.{IsFromFnResultFrom, IsFromFnResult}

module _ {F B : Type 0} (g : Mut F (ℕ × Unit {0}) B) (Kept : F → Type 0) (P : ℕ → B → Type 0)
    (step : (i : ℕ) (p q : F) (y : B) → Called g p (i, tt) y q → Kept p → Kept q × P i y) (ys : List B) where
  made-from : (n i : ℕ) (f : F) → IsFromFnResultFrom g f ys i n → Kept f → (k : ℕ) (d : B) → i ≤ k → k < i + n → P k (get_or ys k d)
  made-from zero i f calls kept k d low high = absurd (omega arith)
  made-from (suc n) i f calls kept k d low high =
      let next = step i f calls.0 calls.1 calls.3 kept in
      ⊎_elim
      (λ past. made-from n (i + 1) calls.0 calls.4 next.0 k d (omega arith) (omega arith))
      (λ here. let at : i ≡ k = omega arith in subst (λ j. P j (get_or ys j d)) at (subst (P i) (sym (calls.2.1 d)) next.1))
      (cases_lt i k)

  pub made-each : (n : ℕ) (f : F) → IsFromFnResult g f ys n → Kept f → (k : ℕ) (d : B) → k < n → P k (get_or ys k d)
  made-each n f made kept k d h = made-from n 0 f made.each kept k d (omega arith) (omega arith)
