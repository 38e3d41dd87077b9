use Rattle.std.proofs.Common.{◌∙◌}
use Rattle.std.proofs.lemmas.Result.{err_from_is_err_and}
use Rattle.sheet.proofs.Asked.{first-heavy, first-unlawful, second-unlawful, both-lawful, first-start, second-start}
use Rattle.sheet.proofs.reading.read_fields.Goals as goal

pub returns-in_err-plan : goal.returns-in_err-plan
returns-in_err-plan c =
    let exit = err_from_is_err_and c.from_residual-in_err-plan.result c.from_residual-in_err-plan.ensures.1 in
    rw (exit.1, exit.2, ← c.in_ok-framed.ensures) (first-heavy c.in_ok-framed.framed.read _ c.in_err-plan.ensures)

pub returns-in_err-first : goal.returns-in_err-first
returns-in_err-first c =
    let h = c.in_ok-framed.framed.read in
    let exit = err_from_is_err_and c.from_residual-in_err-first.result c.from_residual-in_err-first.ensures.1 in
    rw (exit.1, exit.2, ← c.in_ok-framed.ensures)
    (first-unlawful h _ c.in_ok-plan.ensures.0 (rw (first-start h c.first_at.ensures) at c.in_err-first.ensures))

pub returns-in_err-second : goal.returns-in_err-second
returns-in_err-second c =
    let h = c.in_ok-framed.framed.read in
    let exit = err_from_is_err_and c.from_residual-in_err-second.result c.from_residual-in_err-second.ensures.1 in
    rw (exit.1, exit.2, ← c.in_ok-framed.ensures)
    (second-unlawful h _ c.in_ok-plan.ensures.0
    (rw (first-start h c.first_at.ensures) at c.in_ok-first.ensures.0)
    (rw (second-start h c.second_at.ensures) at c.in_err-second.ensures))

pub returns : goal.returns
returns c =
    let h = c.in_ok-framed.framed.read in
    let plan = c.in_ok-plan.ensures in
    let first = rw (first-start h c.first_at.ensures) at c.in_ok-first.ensures in
    let second = rw (second-start h c.second_at.ensures) at c.in_ok-second.ensures in
    rw (← c.in_ok-framed.ensures) (
      both-lawful h plan.0 first.0 second.0,
      record {
        state = (c.from.ensures.places ∙ plan.1.places, c.from.ensures.moves ∙ plan.1.moves);
        plan = plan.1;
        counts = c.counts-counts.ensures;
        first = rw h.first at first.1;
        second = rw h.second at second.1;
      },
    )
