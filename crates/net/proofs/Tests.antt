-- What the test of every number below a bound says, and what the test that a move is fed says.
use Rattle.std.proofs.Common.{◌≡◌, ℕ, ◌<◌, ◌≤◌, Bool, true, false, leb, List, get_or, Decides, MatchBool, sym, refl, ⊎_elim}
use mathlib.Core.Bool.{and_comm}
use Rattle.std.proofs.lemmas.Bool.{leb-true, le-leb, cases_Bool}
use Rattle.std.proofs.lemmas.Bool.Decides.{Decides-and, Decides-ltb, Decides-below_and}
use Rattle.net.specs.Sums.{every}
use Rattle.net.specs.Net.{Net, Fed}
use Rattle.net.specs.Fed.{is_fed}

-- where f tells P, the test of all numbers below k tells P of all of them
every-decides : (k : ℕ) (f : ℕ → Bool) (P : ℕ → Type 0) → ((j : ℕ) → Decides (f j) (P j)) → Decides (every k f) ((j : ℕ) → j < k → P j)
unfolding every
every-decides k f P each = Decides-below_and f P (λ n. every n f) each refl (λ n. and_comm (every n f) (f n)) k

-- the test that a move is fed tells that it is
fed-decides : (n : Net) (m : List ℕ) (t : ℕ) → Decides (is_fed n m t) (Fed n m t)
fed-decides n m t =
    let enough : (p : ℕ) → Decides (leb (n.takes t p) (get_or m p 0)) (n.takes t p ≤ get_or m p 0) = λ p. (leb-true _ _, le-leb _ _) in
    Decides-and _ _ (Decides-ltb t n.moves) (every-decides n.places _ _ enough)

-- a move that passes the test is fed
pub fed-tests : (n : Net) (m : List ℕ) (t : ℕ) → is_fed n m t ≡ true → Fed n m t
fed-tests n m t = (fed-decides n m t).0

-- a move that is fed passes the test
pub tests-fed : (n : Net) (m : List ℕ) (t : ℕ) → Fed n m t → is_fed n m t ≡ true
tests-fed n m t = (fed-decides n m t).1

-- a move that is not fed fails its test
pub not-fed : (n : Net) (m : List ℕ) (t : ℕ) → (Fed n m t → ⊥) → is_fed n m t ≡ false
not-fed n m t no-feed = ⊎_elim (λ yes-fed. absurd (no-feed (fed-tests n m t yes-fed))) (λ e. e) (cases_Bool (is_fed n m t))

-- whatever tells whether a move is fed is its test
pub told-fed : (b : Bool) (n : Net) (m : List ℕ) (t : ℕ) → MatchBool b (Fed n m t) (Fed n m t → ⊥) → b ≡ is_fed n m t
told-fed true n m t fed = sym (tests-fed n m t fed)
told-fed false n m t unfed = sym (not-fed n m t unfed)
