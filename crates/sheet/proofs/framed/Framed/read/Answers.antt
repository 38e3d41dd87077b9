use Rattle.std.proofs.Common.{◌≡◌, ◌<◌, ◌≤◌, sym, refl, ◌∙◌, inl, inr, ⊎_elim, arith, rules}
use Rattle.std.proofs.lemmas.Result.{err_from_is_err_and}
use Rattle.sheet.specs.Layout.{first_code, second_code, size_of}
use Rattle.sheet.specs.Questions.{Outside}
use Rattle.clause.specs.Kinds.{code_of}
use Rattle.refusal.specs.declared.refusals.SheetRefusal.TheVariants.{Kind}
use Rattle.sheet.proofs.Asked.{Passed, passed-short, passed-size, passed-kind, inside, code-low}
use Rattle.sheet.proofs.framed.Framed.read.Goals as goal
use Rattle.sheet.proofs.framed.Framed.read.Goals.{After-first_kind, In_ok-first}

-- the first two questions got a yes
sized : (c : After-first_kind) → Passed c.args.bytes.now 3
sized c = passed-size c.args.bytes.now (passed-short c.args.bytes.now c.in-len4-up.len_at_least) (search rules) (search rules) (search rules) (search rules)

-- the first kind is in range
first-lawful : (c : In_ok-first) → Outside 1 4 (first_code c.args.bytes.now) → ⊥
first-lawful c =
    let found : (code_of c.in_ok-first.first ≡ first_code c.args.bytes.now) × (1 ≤ first_code c.args.bytes.now) = search rules in
    inside (omega arith) (omega (arith, code-low c.in_ok-first.first))

pub returns-in_err-first : goal.returns-in_err-first
returns-in_err-first c =
    let exit = err_from_is_err_and c.from_residual.result c.from_residual.ensures.1 in
    let bad : Outside 1 4 (first_code c.args.bytes.now) × (c.in_err-first.field-0.0 ≡ Kind 2) = search rules in
    rw (exit.1, exit.2, bad.1) (record {
      wrong = inl (refl, bad.0);
      before = sized (goal.at.returns-in_err-first c).After-first_kind;
      lowest = λ lower h. ⊎_elim (λ w. omega (arith, w.0)) (λ w. omega (arith, w.0));
    })

pub returns-in_err-second : goal.returns-in_err-second
returns-in_err-second c =
    let at = goal.at.returns-in_err-second c in
    let exit = err_from_is_err_and c.from_residual-in_err-second.result c.from_residual-in_err-second.ensures.1 in
    let bad : (4 < second_code c.args.bytes.now) × (c.in_err-second.field-0.0 ≡ Kind 3) = search rules in
    rw (exit.1, exit.2, bad.1) (record {
      wrong = inr (refl, bad.0);
      before = sized at.After-first_kind;
      lowest = λ lower h. ⊎_elim (λ w. first-lawful at.In_ok-first w.1) (λ w. omega (arith, w.0));
    })

pub returns-then-bytes-size : goal.returns-then-bytes-size
returns-then-bytes-size c =
    let bytes = c.args.bytes.now in
    let at = goal.at.returns-then-bytes-size c in
    let size : c.size-size.result ≡ size_of bytes = cc in
    record {
      wrong = (rw (← size) c.min.ensures, λ same. c.if-bytes-size.true (same ∙ sym size));
      before = passed-kind bytes (sized at.After-first_kind) (first-lawful at.In_ok-first) (let found : code_of c.in_ok-second.second ≡ second_code bytes = search rules in omega (arith, code-low c.in_ok-second.second));
      lowest = λ lower h w. omega (arith, w.0);
    }
