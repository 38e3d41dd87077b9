use Rattle.std.proofs.Common.{◌≡◌, ◌*◌, ◌≤◌, length, get_or, sym, ap, mul-le-mul, arith}
use Rattle.weigh.specs.Weights.{weights_of}
use Rattle.weigh.proofs.Sums.{sum_below-none, sum_below-more}
use Rattle.weigh.proofs.weighing.Weighing.sum_with.Goals as goal

pub loop-p-init : goal.loop-p-init
loop-p-init g c = record { value = λ numbers gives. sym (sum_below-none _); small = omega arith }

pub loop-p-preserved : goal.loop-p-preserved
loop-p-preserved g c =
    let ws = weights_of c.args.self.now in
    let p = c.loop-p.p in
    let weight : c.from.result ≤ 65535 = omega arith in
    let number : c.from-in-loop-p.result ≤ 4294967295 = omega arith in
    record {
      value = λ numbers gives.
          let here : c.from.result * c.from-in-loop-p.result ≡ get_or ws p 0 * numbers p = cc (gives p c.number_at.result c.number_at.ensures) in
          omega (arith, here, c.loop-p.invariant.value numbers gives, sum_below-more p (λ p. get_or ws p 0 * numbers p));
      small = omega (arith, mul-le-mul weight number);
    }

pub returns : goal.returns
returns g c numbers gives =
    let ws = weights_of c.args.self.now in
    let end : c.loop-p.p ≡ length ws = omega (arith, ap length c.weights-weight-items.ensures) in
    rw (← end) (c.loop-p.invariant.value numbers gives)
