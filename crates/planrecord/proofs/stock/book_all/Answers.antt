use Rattle.std.proofs.Common.{◌≡◌, get_or, refl, rules}
use Rattle.net.specs.Model.{net}
use Rattle.net.specs.Marking.{marking}
use Rattle.planrecord.specs.Stock.{DescribesStock}
use Rattle.planrecord.proofs.Made.{made-each}
use Rattle.planrecord.proofs.stock.book_all.Goals as goal

pub returns : goal.returns
returns g c =
    let n = net c.args.board.now.plan.now in
    let limits = g.B.Board.limits c.args.board.now.below.now in
    let counts = c.args.counts.now in
    made-each _
    (λ f. (net f.0.now.plan.now ≡ n) × (g.B.Board.limits f.0.now.below.now ≡ limits) × (f.1.now ≡ counts))
    (λ p stock. DescribesStock n limits p (get_or (marking counts) p 0) stock)
    (λ i p q y call kept. search rules) c.from_fn.result 16 _ c.from_fn.ensures.items (refl, refl, refl)
