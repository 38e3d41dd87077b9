use Rattle.std.proofs.Common.{⊎_elim, arith, rules}
use Rattle.std.proofs.lemmas.Bool.{cases_eq}
use Rattle.net.specs.Model.{net}
use Rattle.weigh.specs.Weights.{weights_of}
use Rattle.weigh.specs.Balance.{IsUneven}
use Rattle.weigh.proofs.Finding.{lowest-from_find}
use Rattle.weigh.proofs.Weights.{weights-long}
use Rattle.weigh.proofs.weighing.Weighing.balance.Goals as goal

pub returns-in-Some : goal.returns-in-Some
returns-in-Some c =
    let found = lowest-from_find _ (IsUneven (net c.args.plan.now) (weights_of c.args.self.now)) _ _ c.find.result c.find.ensures.ran (λ y b q call. (search rules, grind arith)) in
    let lowest = rw c.in-Some.is at found in
    (omega (arith, weights-long c.args.self.now), search rules)

pub returns-in-None : goal.returns-in-None
returns-in-None c =
    let found = lowest-from_find _ (IsUneven (net c.args.plan.now) (weights_of c.args.self.now)) _ _ c.find.result c.find.ensures.ran (λ y b q call. (search rules, grind arith)) in
    let none = rw c.in-None.is at found in (
      omega (arith, weights-long c.args.self.now),
      λ t below busy. ⊎_elim (λ same. same) (λ differ. absurd (none t (omega arith) (below, busy, differ))) (cases_eq _ _),
    )
