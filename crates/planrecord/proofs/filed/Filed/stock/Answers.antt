use Rattle.std.proofs.Common.{◌≡◌, replicate, ap, ◌∙◌}
use Rattle.net.specs.Model.{net}
use Rattle.planrecord.proofs.filed.Filed.stock.Goals as goal

pub returns : goal.returns
returns c p other below =
    let plan = ap net c.new-board.ensures.plan in
    let bytes : c.new-board.result.below.now.bytes.now ≡ replicate 32 0 = ap (λ low. low.bytes.now) c.new-board.ensures.below ∙ c.new-low.ensures.value in
    rw (plan, bytes) at (c.book_all.ensures p other below)
