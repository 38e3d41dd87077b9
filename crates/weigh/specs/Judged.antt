-- What each judgment of a weighing over a net says.
use Rattle.std.specs.Prelude.{◌≡◌, ℕ, List, length, ◌++◌, codes, decimal, Result, Ok, Err}
use Rattle.net.specs.Net.{Net}
use Rattle.net.specs.Sums.{Lowest}
use Rattle.weigh.specs.Balance.{Balances, IsUneven}
use Rattle.weigh.specs.declared.imbalance.Imbalance.{Imbalance}
use Rattle.weigh.specs.declared.imbalance.Imbalance.TheVariants.{OtherPlaces, Uneven}

abbrev pub Judged : Net → List ℕ → Result (Unit {0}) Imbalance → Type 0
Judged n ws (Ok done) = Balances n ws
Judged n ws (Err OtherPlaces) = length ws ≡ n.places → ⊥
Judged n ws (Err (Uneven t)) = (length ws ≡ n.places) × Lowest (IsUneven n ws) t

-- what is said of a weighing that does not balance
abbrev pub told : Imbalance → List ℕ
told OtherPlaces = codes "it has another number of places"
told (Uneven t) = codes "move " ++ (decimal t ++ codes " takes another weight than it gives")
