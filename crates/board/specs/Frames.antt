-- What a board on lent memory has beside its counts: which memory it is, and the part of it that holds no count.
use Rattle.std.specs.Prelude.{ℕ, List}

pub record LentFrame : Type 0 where
  pub memory : ℕ
  pub past : List ℕ
