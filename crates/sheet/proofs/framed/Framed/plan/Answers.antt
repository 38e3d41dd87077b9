use Rattle.std.proofs.Common.{◌≡◌, ◌+◌, ◌*◌, length, refl, ap, ◌∙◌, rules, arith}
use Rattle.std.proofs.lemmas.Option.{MatchOption-at_some}
use Rattle.net.specs.Model.{net}
use Rattle.sheet.specs.Layout.{word16, arcs_in, arc_at}
use Rattle.sheet.proofs.Slices.{Reads}
use Rattle.sheet.proofs.Arcs.{arcs-of, Rows, heavy-arc, light-arcs, spells-net}
use Rattle.sheet.proofs.framed.Framed.plan.Goals as goal
use Rattle.sheet.proofs.framed.Framed.plan.Goals.{After-split_at}

-- the arcs that are read, and their halves
rows-read : (c : After-split_at) → Rows c.args.self.now.bytes.now c.read_words.new.words c.split_at.result.0.now c.split_at.result.1.now
rows-read c =
    let bytes = c.args.self.now.bytes.now in
    let h = c.args.self.now.read in
    let count = c.arcs-count.result in
    let is : count ≡ arcs_in bytes = c.arcs-count.ensures.value ∙ arcs-of h in
    let long : length c.read_words.new.words ≡ 2 * count = search rules in
    let all : Reads (2 * arcs_in bytes) (λ k. word16 bytes (arc_at k)) c.read_words.new.words =
    record { long = omega (arith, long); each = λ k inside. c.read_words.ensures.each k 0 (omega (arith, long, c.read_words.ensures.long)) } in
    let halves = c.split_at.ensures in
    record {
      all = all;
      takes = record { long = halves.front_len ∙ is; each = λ k inside. halves.by_index.1 k 0 (omega arith) ∙ all.each k (omega arith) };
      gives = record {
        long = omega (arith, halves.back_len, all.long);
        each = λ k inside. halves.by_index.2 k 0 ∙ all.each (count + k) (omega arith) ∙ ap (λ n. word16 bytes (arc_at (n + k))) is;
      };
    }

pub returns-in-Some : goal.returns-in-Some
returns-in-Some c = (refl, heavy-arc c.args.self.now.read (rows-read (goal.at.returns-in-Some c).After-split_at) c.in-Some.k _ (omega arith) c.in-Some.ensures)

pub returns : goal.returns
returns c =
    let rows = rows-read (goal.at.returns c).After-split_at in
    let plan = MatchOption-at_some _ _ c.unwrap.result c.unwrap.ensures c.new.ensures in
    (light-arcs c.args.self.now.read rows c.in_default.ensures, spells-net c.args.self.now.read rows (net c.unwrap.result) plan.1)
