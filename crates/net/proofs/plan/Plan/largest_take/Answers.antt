use Rattle.std.proofs.Common.{rules, ◌≡◌, ◌<◌, max, MatchOption, ◌∙◌, arith}
use borrow.Author.Tests.{tests}
use Rattle.std.proofs.lemmas.Iterator.{YieldsList-from_range}
use Rattle.std.proofs.lemmas.Iterator.Consumers.{fold_from_yields_List}
use Rattle.net.specs.Model.{net}
use Rattle.net.specs.Takes.{largest_take, IsLargestTake}
use Rattle.net.proofs.Takers.{largest-found, largest-none, largest-is, kept-take}
use Rattle.net.proofs.plan.Plan.largest_take.Goals as goal

pub returns : goal.returns
returns c =
    let n = net c.args.self.now in
    let p = c.args.p in
    let largest = c.fold-largest.result in
    let folded =
    fold_from_yields_List _ (λ a t. max a (n.takes t p)) 0 largest c.fold-largest.ensures.ran
    (YieldsList-from_range 0 n.moves n.moves (cc) (omega arith)) (λ a x b q k. search rules)
    in
    let kept : MatchOption c.filter.result (largest ≡ 0) (λ k. (k ≡ largest) × (0 < largest)) = search (rules, tests) in
    kept-take n p largest (largest_take n p) (IsLargestTake n p) (largest-none n p) (largest-is n p) c.filter.result (folded ∙ largest-found n p n.moves) kept
