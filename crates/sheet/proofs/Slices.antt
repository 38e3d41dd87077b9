-- The numbers of a sheet as the lists that are read from it.
use Rattle.std.proofs.Common.{◌≡◌, ℕ, ◌<◌, List, length, get_or}

-- n numbers, those that f gives
pub record Reads (n : ℕ) (f : ℕ → ℕ) (numbers : List ℕ) : Type 0 where
  pub long : length numbers ≡ n
  pub each : (k : ℕ) → k < n → get_or numbers k 0 ≡ f k
