-- What a value of counts stands for.
use Rattle.std.specs.Prelude.{ℕ, List, take}
use Rattle.net.specs.declared.counts.Counts.{Counts}

abbrev pub marking : Counts → List ℕ
marking counts = take counts.len counts.held
