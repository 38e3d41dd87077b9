-- Boards on which every place has the same limit.
use Rattle.std.specs.Prelude.{ℕ, List, length, replicate}

abbrev pub even_limits : ℕ → List ℕ → List ℕ
even_limits most counts = replicate (length counts) most
