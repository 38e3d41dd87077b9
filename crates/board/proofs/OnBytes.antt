-- A board on bytes.
use Rattle.std.proofs.Common.{◌≡◌, ℕ, zero, suc, [], ◌∷◌, refl, take, ◌+◌, ◌*◌, ◌/◌, ◌%◌, ◌<◌, ◌≤◌, ◌≢◌, List, length, get_or, drop, set, sym, ap, ◌∙◌, arith, length-set, drop-drop, add-one, get_or-take, get_or-drop}
use Rattle.std.proofs.lemmas.List.{get_or-set_same, get_or-set_other, drop-set-lt}
use Rattle.std.proofs.lemmas.List.FromFn.{length-map-range_with_len, get_or-map-range_with_len, fill_by_all}
use Rattle.std.specs.Simd.{first_chunks}
use borrow.Rule.Slice.PartMut.{put_mid}
use Rattle.board.specs.Bytes.{pair_at, pairs_in, byte_counts, byte_limits, bytes_past}

-- one count for each pair
pub counts-long : (bytes : List ℕ) → length (byte_counts bytes) ≡ pairs_in bytes
counts-long bytes = length-map-range_with_len (pair_at bytes) 0 (pairs_in bytes)

-- the bytes of a pair are there
pub pair-within : (bytes : List ℕ) (p : ℕ) → p < length (byte_counts bytes) → 2 * p + 1 < length bytes
pair-within bytes p there = omega (arith, counts-long bytes)

-- the count at a place
pub count_at : (bytes : List ℕ) (p : ℕ) → p < length (byte_counts bytes) → pair_at bytes p ≡ get_or (byte_counts bytes) p 0
count_at bytes p there = sym (get_or-map-range_with_len (pair_at bytes) 0 (pairs_in bytes) p p 0 (omega (arith, counts-long bytes)) (omega arith))

-- a write of two bytes
pub two-written : (at k : ℕ) (xs : List ℕ) (low high : ℕ) → k ≡ 2 → at + 1 < length xs → put_mid at k xs (low ∷ high ∷ []) ≡ set (set xs at low) (at + 1) high
two-written at k [] low high two within = absurd (omega arith)
two-written zero k (x ∷ []) low high two within = absurd (omega arith)
two-written zero k (x ∷ y ∷ xs) low high two within = rw two refl
two-written (suc at) k (x ∷ xs) low high two within = rw add-one (ap (λ ys. x ∷ ys) (rw add-one at (two-written at k xs low high two (omega arith))))

-- the pairs of bytes
chunk_at : (k i : ℕ) (xs none : List ℕ) → i < k → get_or (first_chunks 2 k xs) i none ≡ take 2 (drop (2 * i) xs)
chunk_at zero i xs none below = absurd (omega arith)
chunk_at (suc k) zero xs none below = refl
chunk_at (suc k) (suc i) xs none below = chunk_at k i (drop 2 xs) none (omega arith) ∙ ap (λ ys. take 2 ys) (drop-drop (2 * i) 2 xs ∙ ap (λ m. drop m xs) (omega arith))

pub pair-spelled : (bytes : List ℕ) (p : ℕ) (pair : List ℕ) → p < length (byte_counts bytes) → pair ≡ get_or (first_chunks 2 (pairs_in bytes) bytes) p pair
    → get_or pair 0 0 + get_or pair 1 0 * 256 ≡ get_or (byte_counts bytes) p 0
pair-spelled bytes p pair there is =
    let two : pair ≡ take 2 (drop (2 * p) bytes) = is ∙ chunk_at (pairs_in bytes) p bytes pair (omega (arith, counts-long bytes)) in
    let after = drop (2 * p) bytes in
    rw two (grind (arith, count_at bytes p there, get_or-take 2 after 0 0, get_or-take 2 after 1 0, get_or-drop (2 * p) bytes 0 0, get_or-drop (2 * p) bytes 1 0))

-- the two bytes of a number
pub spelled : (n : ℕ) → n ≤ 65535 → n % 256 + (n / 256 % 256) * 256 ≡ n
spelled n small = omega arith

module _ (bytes : List ℕ) (p : ℕ) (there : p < length (byte_counts bytes)) (low high : ℕ) where
  -- the bytes after those of place p are written
  abbrev written : List ℕ
  written = set (set bytes (2 * p) low) (2 * p + 1) high

  pairs-after : pairs_in written ≡ pairs_in bytes
  pairs-after = simp length-set

  pair-here : pair_at written p ≡ low + high * 256
  pair-here = let within = pair-within bytes p there in grind (arith, get_or-set_same, get_or-set_other, length-set)

  pair-elsewhere : (k : ℕ) → k ≢ p → pair_at written k ≡ pair_at bytes k
  pair-elsewhere k ne = grind (arith, get_or-set_other)

  pair-after : (k : ℕ) → k < pairs_in written → get_or (set (byte_counts bytes) p (low + high * 256)) k 0 ≡ pair_at written k
  pair-after k below = grind (arith, get_or-set_same, get_or-set_other, count_at bytes k, counts-long bytes, pairs-after, pair-here, pair-elsewhere k)

  pub counts-after : byte_counts written ≡ set (byte_counts bytes) p (low + high * 256)
  counts-after = sym (fill_by_all (pair_at written) (set (byte_counts bytes) p (low + high * 256)) (pairs_in written) 0
      (length-set (byte_counts bytes) p (low + high * 256) ∙ counts-long bytes ∙ sym pairs-after) pair-after)

  pub limits-after : byte_limits written ≡ byte_limits bytes
  limits-after = rw counts-after (simp length-set)

  pub past_after : bytes_past written ≡ bytes_past bytes
  past_after =
      let most = 2 * pairs_in bytes in
      let long = counts-long bytes in
      ap (λ k. drop (2 * k) written) pairs-after
      ∙ drop-set-lt most (set bytes (2 * p) low) (2 * p + 1) high (omega arith)
      ∙ drop-set-lt most bytes (2 * p) low (omega arith)
