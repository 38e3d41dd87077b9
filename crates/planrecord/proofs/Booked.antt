-- The parts of a count that was booked.
use Rattle.std.proofs.Common.{◌≡◌, ℕ, List, length, get_or, set, Some, None, Option, ap, ◌∙◌, subst, ⊎_elim, arith, length-set}
use Rattle.std.proofs.lemmas.Bool.{cases_lt}
use Rattle.std.proofs.lemmas.List.{get_or-set_same}
use Rattle.net.specs.Net.{Net}
use Rattle.board.specs.Answers.{MayHold}
use Rattle.units.specs.Units.{unit_at, counts_in_units, limits_in_units}
use Rattle.units.specs.Parts.{SplitsInto, PartsAt}
use Rattle.units.specs.declared.parts.InUnits.{InUnits}
use Rattle.units.proofs.Scaled.{counts-long, limits-long}
use Rattle.planrecord.specs.Stock.{BooksAs}

module _ (n : Net) (limits before counts rests : List ℕ) (p count : ℕ) (paired : length (limits_in_units n limits) ≡ length before) where
  accepted : (parts : Option InUnits)
      → MayHold before (limits_in_units n limits) p count
      → counts_in_units n limits counts rests ≡ set before p count
      → PartsAt n limits counts rests p parts
      → BooksAs n limits p count parts
  accepted None may written past = absurd (omega (arith, may.0, ap length written, length-set before p count, counts-long n limits counts rests))
  accepted (Some parts) may written here =
      let held : get_or (counts_in_units n limits counts rests) p 0 ≡ count =
      ap (λ after. get_or after p 0) written ∙ get_or-set_same before p count 0 may.0 in (
        omega (arith, may.0, limits-long n limits),
        may.1,
        subst (λ k. SplitsInto (unit_at n limits p) k parts) held here.split,
      )

  -- the same on a board that kept its plan and the limits of the board below
  pub booked : (n' : Net) (limits' : List ℕ) (parts : Option InUnits)
      → n' ≡ n
      → limits' ≡ limits
      → MayHold before (limits_in_units n limits) p count
      → counts_in_units n' limits' counts rests ≡ set before p count
      → PartsAt n' limits' counts rests p parts
      → BooksAs n limits p count parts
  booked n' limits' parts same_plan same_limits may written here =
      accepted parts may (rw (same_plan, same_limits) at written) (rw (same_plan, same_limits) at here)

  -- a count that was refused is past the limit, where there is such a place
  pub refused : (MayHold before (limits_in_units n limits) p count → ⊥) → BooksAs n limits p count None
  refused none there =
      ⊎_elim
      (λ large. large)
      (λ small. absurd (none (omega (arith, limits-long n limits), omega arith)))
      (cases_lt (get_or (limits_in_units n limits) p 0) count)
