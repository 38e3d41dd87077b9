-- A weighing has a weight for each of its places.
use Rattle.std.proofs.Common.{◌≡◌, ◌-◌, ◌<◌, length, ⊎_elim, arith}
use Rattle.std.proofs.lemmas.List.{length-take-le, get_or_past}
use Rattle.std.proofs.lemmas.Bool.{cases_lt}
use Rattle.weigh.specs.declared.weighing.Weighing.{Weighing}
use Rattle.weigh.specs.Weights.{weights_of}

-- the last weight is not 0, so the list does not end before it
pub weights-long : (w : Weighing) → length (weights_of w) ≡ w.len
weights-long w =
    let last = w.len - 1 in
    let below : last < w.len = omega arith in
    length-take-le w.len w.weights
    (⊎_elim
    (λ short. absurd (omega (arith, w.range last below, get_or_past w.weights last 0 (omega arith))))
    (λ enough. enough)
    (cases_lt (length w.weights) w.len))
