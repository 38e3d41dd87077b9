-- The unit over a limit of the board below.
use Rattle.std.proofs.Common.{◌≡◌, ℕ, ◌+◌, ◌*◌, ◌≤◌, leb, List, get_or, refl}
use Rattle.std.proofs.lemmas.Bool.{cond_both}
use Rattle.net.specs.Divisors.{unit_of}
use Rattle.net.specs.Model.{net}
use Rattle.net.specs.declared.plan.Plan.{Plan}
use Rattle.net.proofs.Gcds.{unit-is}
use Rattle.net.proofs.Rows.{arc-past}
use Rattle.units.specs.Units.{unit_at}

-- beyond the plan the unit is 1
pub beyond-single : (plan : Plan) (limits : List ℕ) (p : ℕ) → plan.places ≤ p → unit_at (net plan) limits p ≡ 1
beyond-single plan limits p beyond =
    let alone : unit_of (net plan) p ≡ 1 =
    (unit-is (net plan) p).alone (λ t below. (arc-past plan.places plan.takes t p beyond, arc-past plan.places plan.gives t p beyond)) in
    cond_both (leb ((get_or limits p 0 + 1) * unit_of (net plan) p) 4294967296) (unit_of (net plan) p) 1 (λ unit. unit ≡ 1) (λ yes-fits. alone) (λ no-fit. refl)
