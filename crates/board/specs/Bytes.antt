-- The counts and limits of a board on bytes: a place for each of the first 16 pairs, low byte first. An odd last byte is in no pair.
use Rattle.std.specs.Prelude.{ℕ, ◌+◌, ◌*◌, ◌/◌, min, List, map, length, drop, slice_index}
use Rattle.std.specs.List.{range_with_len}
use Rattle.board.specs.Limits.{even_limits}

abbrev pub pairs_in : List ℕ → ℕ
pairs_in bytes = min (length bytes / 2) 16

abbrev pub pair_at : List ℕ → ℕ → ℕ
pair_at bytes p = slice_index bytes (2 * p) + slice_index bytes (2 * p + 1) * 256

abbrev pub byte_counts : List ℕ → List ℕ
byte_counts bytes = map (pair_at bytes) (range_with_len 0 (pairs_in bytes))

abbrev pub byte_limits : List ℕ → List ℕ
byte_limits bytes = even_limits 65535 (byte_counts bytes)

-- the bytes that are of no count
abbrev pub bytes_past : List ℕ → List ℕ
bytes_past bytes = drop (2 * pairs_in bytes) bytes
