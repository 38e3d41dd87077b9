-- The nets of the example plans, move by move and place by place.
use Rattle.std.specs.Prelude.{[], ◌∷◌}
use Rattle.net.specs.Net.{Net}
use Rattle.net.specs.Model.{spelled}

-- move 0 takes 4 at place 0 and gives 2 at place 1; move 1 takes 6 and gives 3; move 2 takes 1 at place 1 and gives 2 at place 0
abbrev pub net_of_three_moves : Net
net_of_three_moves = spelled 2 3 (4 ∷ 0 ∷ 6 ∷ 0 ∷ 0 ∷ 1 ∷ []) (0 ∷ 2 ∷ 0 ∷ 3 ∷ 2 ∷ 0 ∷ [])

-- move 0 takes 12 at place 0 and gives 1 at place 1; move 1 the reverse
abbrev pub net_of_two_moves : Net
net_of_two_moves = spelled 2 2 (12 ∷ 0 ∷ 0 ∷ 1 ∷ []) (0 ∷ 1 ∷ 12 ∷ 0 ∷ [])
