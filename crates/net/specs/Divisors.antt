-- The unit of a place: the greatest common divisor of the weights of its arcs.
use Rattle.std.specs.Prelude.{◌≡◌, ℕ, zero, suc, ◌%◌, ◌<◌, cond, ◌==◌}
use Rattle.std.specs.Int.{◌∣◌}
use Rattle.net.specs.Net.{Net}

-- Euclid's algorithm in at most as many steps as the first argument says
unfoldable pub euclid : ℕ → ℕ → ℕ → ℕ
euclid zero a b = a
euclid (suc steps) a b = cond (b == 0) a (euclid steps b (a % b))

-- the greatest common divisor: the second number falls with each step, so b steps are enough
unfoldable pub gcd_of : ℕ → ℕ → ℕ
gcd_of a b = euclid b a b

-- the greatest common divisor of what the first `count` moves take and give at place p; an arc that is not there changes nothing
unfoldable pub gcd_of_arcs : Net → ℕ → ℕ → ℕ
gcd_of_arcs n p zero = 0
gcd_of_arcs n p (suc t) = gcd_of (gcd_of (gcd_of_arcs n p t) (n.takes t p)) (n.gives t p)

-- the unit of place p; 1 where the place has no arc
unfoldable pub unit_of : Net → ℕ → ℕ
unit_of n p = cond (gcd_of_arcs n p n.moves == 0) 1 (gcd_of_arcs n p n.moves)

-- g divides both, and whatever divides both divides g
abbrev pub IsGcd : ℕ → ℕ → ℕ → Type 0
IsGcd a b g = (g ∣ a) × (g ∣ b) × ((d : ℕ) → d ∣ a → d ∣ b → d ∣ g)

-- d divides every arc of place p
abbrev pub DividesArcs : Net → ℕ → ℕ → Type 0
DividesArcs n p d = (t : ℕ) → t < n.moves → (d ∣ n.takes t p) × (d ∣ n.gives t p)

-- place p has no arc
abbrev pub Isolated : Net → ℕ → Type 0
Isolated n p = (t : ℕ) → t < n.moves → (n.takes t p ≡ 0) × (n.gives t p ≡ 0)

-- what makes u the unit of place p
pub record IsUnit (n : Net) (p u : ℕ) : Type 0 where
  pub positive : 0 < u
  pub divides : DividesArcs n p u
  pub greatest : (Isolated n p → ⊥) → (d : ℕ) → DividesArcs n p d → d ∣ u
  pub alone : Isolated n p → u ≡ 1
