use Rattle.std.proofs.Common.{◌≡◌, refl, rules}
use Rattle.net.specs.Model.{net}
use Rattle.net.specs.Marking.{marking}
use Rattle.planrecord.specs.Records.{DescribesPlace}
use Rattle.planrecord.proofs.Made.{made-each}
use Rattle.planrecord.proofs.filed.Filed.places.Goals as goal

pub returns : goal.returns
returns c =
    let filed = c.args.self.now in
    made-each _ (λ f. f.0.now ≡ filed) (DescribesPlace (net filed.plan.now) (marking filed.counts.now)) (λ i p q y call kept. search rules) c.from_fn.result 16 _ c.from_fn.ensures.items refl
