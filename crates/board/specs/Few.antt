-- No board has more than 16 places.
use Rattle.std.specs.Prelude.{ℕ, ◌≤◌, List, length}
use Rattle.std.proofs.Common.{arith, length-take}
use Rattle.std.proofs.lemmas.List.FromFn.{length-map-range_with_len}
use Rattle.net.specs.Marking.{marking}
use Rattle.net.specs.declared.counts.Counts.{Counts}
use Rattle.board.specs.Numbers.{number_counts}
use Rattle.board.specs.Bytes.{byte_counts, pair_at, pairs_in}

pub marking-few : (counts : Counts) → length (marking counts) ≤ 16
marking-few counts = omega (arith, length-take counts.len counts.held, counts.few)

pub numbers-few : (numbers : List ℕ) → length (number_counts numbers) ≤ 16
numbers-few numbers = omega (arith, length-take 16 numbers)

pub bytes-few : (bytes : List ℕ) → length (byte_counts bytes) ≤ 16
bytes-few bytes = omega (arith, length-map-range_with_len (pair_at bytes) 0 (pairs_in bytes))
