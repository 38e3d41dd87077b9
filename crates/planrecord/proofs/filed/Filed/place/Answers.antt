use Rattle.std.proofs.Common.{Some, None, Option, MatchOption}
use Rattle.planrecord.proofs.filed.Filed.place.Goals as goal

-- the second of two facts about what is there
second-fact : {X : Type 0} (o : Option X) (P : Type 0) (Q R : X → Type 0) → MatchOption o P (λ x. Q x × R x) → MatchOption o P R
second-fact None P Q R absent = absent
second-fact (Some x) P Q R both = both.1

pub returns : goal.returns
returns c = record {
  count = c.held.ensures;
  unit = c.unit.ensures.unit;
  least = second-fact c.least_take.result _ _ _ c.least_take.ensures;
  largest = second-fact c.largest_take.result _ _ _ c.largest_take.ensures;
}
