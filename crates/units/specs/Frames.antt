-- What a board in units has beside its counts: the plan, which board is below it, and what that one has beside its counts.
use Rattle.std.specs.Prelude.{ℕ, List}
use Rattle.net.specs.Net.{Net}

pub record UnitsFrame (Below : Type 0) : Type 0 where
  pub plan : Net
  pub board : ℕ
  pub limits : List ℕ
  pub below : Below
