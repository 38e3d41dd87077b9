-- The counts and limits of a board in units, place by place and after a write.
use Rattle.std.proofs.Common.{◌≡◌, ℕ, ◌/◌, ◌%◌, ◌<◌, ◌≤◌, ◌≢◌, List, length, get_or, set, sym, ◌∙◌, mul-le-mul_right, arith, length-set}
use Rattle.std.proofs.lemmas.List.{get_or_past, get_or-set_same, get_or-set_other}
use Rattle.std.proofs.lemmas.List.FromFn.{length-map-range_with_len, get_or-map-range_with_len, fill_by_all}
use Rattle.std.proofs.lemmas.Nat.{mod_below}
use Rattle.net.specs.Net.{Net}
use Rattle.units.specs.Units.{unit_at, count_at, counts_in_units, limit_at, limits_in_units}
use Rattle.board.specs.Answers.{MayHold}
use Rattle.units.proofs.Split.{split, fits-units, fits_below}

module _ (n : Net) (limits : List ℕ) where
  pub limits-long : length (limits_in_units n limits) ≡ length limits
  limits-long = length-map-range_with_len (limit_at n limits) 0 (length limits)

  pub limits_in_units-at : (p : ℕ) → p < length limits → get_or (limits_in_units n limits) p 0 ≡ limit_at n limits p
  limits_in_units-at p there = get_or-map-range_with_len (limit_at n limits) 0 (length limits) p p 0 there (omega arith)

module _ (n : Net) (limits counts rests : List ℕ) where
  pub counts-long : length (counts_in_units n limits counts rests) ≡ length counts
  counts-long = length-map-range_with_len (count_at n limits counts rests) 0 (length counts)

  pub counts_in_units-at : (p : ℕ) → p < length counts → get_or (counts_in_units n limits counts rests) p 0 ≡ count_at n limits counts rests p
  counts_in_units-at p there = get_or-map-range_with_len (count_at n limits counts rests) 0 (length counts) p p 0 there (omega arith)

  -- a count is within the limit, where the count below is
  pub count-within : (p : ℕ) → 0 < unit_at n limits p → p < length counts → p < length limits → get_or counts p 0 ≤ get_or limits p 0
      → get_or (counts_in_units n limits counts rests) p 0 ≤ get_or (limits_in_units n limits) p 0
  count-within p some there bounded few =
      let unit = unit_at n limits p in
      omega (arith, counts_in_units-at p there, limits_in_units-at n limits p bounded, mod_below (get_or rests p 0) unit some, mul-le-mul_right unit few)

  -- a place that is not there holds nothing
  pub none_within : (p : ℕ) → length counts ≤ p → get_or (counts_in_units n limits counts rests) p 0 ≤ get_or (limits_in_units n limits) p 0
  none_within p past = omega (arith, get_or_past (counts_in_units n limits counts rests) p 0 (omega (arith, counts-long)))

  pub paired : length limits ≡ length counts → length (limits_in_units n limits) ≡ length (counts_in_units n limits counts rests)
  paired same = limits-long n limits ∙ same ∙ sym counts-long

  -- a place may hold m in units if and only if the place below may hold the full units of m
  pub may-hold : (p m : ℕ) → 0 < unit_at n limits p → p < length limits → MayHold counts limits p (m / unit_at n limits p) → MayHold (counts_in_units n limits counts rests) (limits_in_units n limits) p m
  may-hold p m some bounded (there, few) =
      (omega (arith, counts-long), omega (arith, limits_in_units-at n limits p bounded, fits-units m (unit_at n limits p) some (get_or limits p 0) few))

  pub may-below : (p m : ℕ) → 0 < unit_at n limits p → p < length limits → MayHold (counts_in_units n limits counts rests) (limits_in_units n limits) p m → MayHold counts limits p (m / unit_at n limits p)
  may-below p m some bounded (there, small) =
      (omega (arith, counts-long), fits_below m (unit_at n limits p) some (get_or limits p 0) (omega (arith, limits_in_units-at n limits p bounded)))

  -- setting place p to m: so many full units below, and the rest
  module _ (p m : ℕ) (there : p < length counts) (kept : p < length rests) (some : 0 < unit_at n limits p) where
    abbrev after : ℕ → ℕ
    after = count_at n limits (set counts p (m / unit_at n limits p)) (set rests p (m % unit_at n limits p))

    after-here : after p ≡ m
    after-here = let whole = split m (unit_at n limits p) some in grind (arith, get_or-set_same)

    after-elsewhere : (k : ℕ) → k ≢ p → after k ≡ count_at n limits counts rests k
    after-elsewhere k ne = grind (arith, get_or-set_other)

    after-each : (k : ℕ) → k < length (set counts p (m / unit_at n limits p)) → get_or (set (counts_in_units n limits counts rests) p m) k 0 ≡ after k
    after-each k below = grind (arith, get_or-set_same, get_or-set_other, length-set, counts-long, counts_in_units-at k, after-here, after-elsewhere k)

    pub counts-after : counts_in_units n limits (set counts p (m / unit_at n limits p)) (set rests p (m % unit_at n limits p)) ≡ set (counts_in_units n limits counts rests) p m
    counts-after = sym (fill_by_all after (set (counts_in_units n limits counts rests) p m) (length (set counts p (m / unit_at n limits p))) 0
        (length-set (counts_in_units n limits counts rests) p m ∙ counts-long ∙ sym (length-set counts p (m / unit_at n limits p))) after-each)
