-- The takes and the gives of a sheet, read as one list.
use Rattle.std.proofs.Common.{◌≡◌, ℕ, ◌+◌, ◌*◌, ◌<◌, ◌≤◌, List, length, get_or, ap, ◌∙◌, arith}
use Rattle.net.specs.Net.{Net}
use Rattle.net.specs.Model.{cell_at, spelled, Same}
use Rattle.net.proofs.Rows.{row_within, arc-in}
use Rattle.sheet.specs.Layout.{word16, places_in, moves_in, arcs_in, arc_at}
use Rattle.sheet.specs.Spelled.{SpellsNet}
use Rattle.sheet.specs.Stages.{HeaderRead, ArcsLight, FirstHeavy}
use Rattle.sheet.specs.declared.header.Header.{Header}
use Rattle.sheet.proofs.Slices.{Reads}

-- the header's numbers of moves and places give the number of arcs
pub arcs-of : {bytes : List ℕ} {header : Header} → HeaderRead bytes header → header.moves * header.places ≡ arcs_in bytes
arcs-of h = cc

-- what row t has at place p
entry_read : (bytes : List ℕ) {f : ℕ → ℕ} {rows : List ℕ} → Reads (arcs_in bytes) f rows → (width : ℕ) → width ≡ places_in bytes
    → (t p : ℕ) → t < moves_in bytes → p < places_in bytes → cell_at width rows t p ≡ f (t * places_in bytes + p)
entry_read bytes {rows} reads width is t p ht hp =
    ap (λ w. cell_at w rows t p) is ∙ arc-in (places_in bytes) rows t p hp ∙ reads.each (t * places_in bytes + p) (omega (arith, row_within t (places_in bytes) (moves_in bytes) ht))

-- all arcs of the bytes, and their takes and gives apart
pub record Rows (bytes arcs ts gs : List ℕ) : Type 0 where
  pub all : Reads (2 * arcs_in bytes) (λ k. word16 bytes (arc_at k)) arcs
  pub takes : Reads (arcs_in bytes) (λ k. word16 bytes (arc_at k)) ts
  pub gives : Reads (arcs_in bytes) (λ k. word16 bytes (arc_at (arcs_in bytes + k))) gs

module _ {bytes arcs ts gs : List ℕ} {header : Header} (h : HeaderRead bytes header) (rows : Rows bytes arcs ts gs) where
  -- the first heavy number is the first heavy arc
  pub heavy-arc : (k offset : ℕ) → offset ≡ 4 + 2 * k → (k < length arcs) × (1000 < get_or arcs k 0) × ((j : ℕ) → j < k → get_or arcs j 0 ≤ 1000) → FirstHeavy bytes offset
  heavy-arc k offset is found =
      let within : k < 2 * arcs_in bytes = omega (arith, rows.all.long) in
      record {
        index = k;
        at = omega arith;
        within = within;
        heavy = omega (arith, rows.all.each k within);
        before = λ j sooner. omega (arith, rows.all.each j (omega arith), found.2 j sooner);
      }

  -- where no number is heavy, no arc is, and the takes and gives are rows of a plan
  module _ (light : (k : ℕ) → k < length arcs → get_or arcs k 0 ≤ 1000) where
    pub light-arcs : ArcsLight bytes
    light-arcs k within = omega (arith, rows.all.each k within, light k (omega (arith, rows.all.long)))

  -- a plan of these rows is the plan that the bytes spell
  pub spells-net : (n : Net) → Same n (spelled header.places header.moves ts gs) → SpellsNet bytes n
  spells-net n same = record {
    places = same.same_places ∙ h.places;
    moves = same.same_moves ∙ h.moves;
    takes = λ t p ht hp. same.same_takes t p ∙ entry_read bytes rows.takes header.places h.places t p ht hp;
    gives = λ t p ht hp. same.same_gives t p ∙ entry_read bytes rows.gives header.places h.places t p ht hp;
  }
