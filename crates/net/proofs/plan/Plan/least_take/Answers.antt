use Rattle.std.proofs.Common.{rules, ◌≡◌, ◌<◌, MatchOption, ◌∙◌, arith}
use borrow.Author.Tests.{tests}
use Rattle.std.proofs.lemmas.Iterator.{YieldsList-from_range}
use Rattle.std.proofs.lemmas.Iterator.Consumers.{fold_from_yields_List}
use Rattle.net.specs.Model.{net}
use Rattle.net.specs.Takes.{lesser_take, least_take, IsLeastTake}
use Rattle.net.proofs.Takers.{least-found, least-none, least-is, kept-take}
use Rattle.net.proofs.plan.Plan.least_take.Goals as goal

pub returns : goal.returns
returns c =
    let n = net c.args.self.now in
    let p = c.args.p in
    let least = c.fold-least.result in
    let folded =
    fold_from_yields_List _ (λ a t. lesser_take a (n.takes t p)) 0 least c.fold-least.ensures.ran
    (YieldsList-from_range 0 n.moves n.moves (cc) (omega arith)) (λ a x b q k. search rules)
    in
    let kept : MatchOption c.filter.result (least ≡ 0) (λ k. (k ≡ least) × (0 < least)) = search (rules, tests) in
    kept-take n p least (least_take n p) (IsLeastTake n p) (least-none n p) (least-is n p) c.filter.result (folded ∙ least-found n p n.moves) kept
