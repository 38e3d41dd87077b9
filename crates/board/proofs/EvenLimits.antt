-- What a board with one limit for all places answers.
use Rattle.std.proofs.Common.{◌≡◌, ℕ, ◌<◌, ◌≤◌, List, length, get_or, arith}
use lib.ListN.{length-replicate}
use Rattle.std.proofs.lemmas.List.{get_or-replicate}
use Rattle.board.specs.Answers.{MayHold}
use Rattle.board.specs.Limits.{even_limits}

-- there are as many limits as counts
pub even-paired : (counts : List ℕ) (most : ℕ) → length (even_limits most counts) ≡ length counts
even-paired counts most = length-replicate (length counts) most

module _ (counts : List ℕ) (most p : ℕ) where
  -- the limit at a place
  pub even-at : p < length counts → get_or (even_limits most counts) p 0 ≡ most
  even-at there = get_or-replicate (length counts) p most 0 there

  -- what a place may hold
  pub even-holds : (n : ℕ) → p < length counts → n ≤ most → MayHold counts (even_limits most counts) p n
  even-holds n there small = (there, omega (arith, even-at there))
