-- What a set of places stands for: for each place whether it is in the set.
use Rattle.std.specs.Prelude.{ℕ, ◌<◌, ◌≤◌, Bool, cond, List, map, length, take, slice_index}
use Rattle.clause.specs.declared.place_set.PlaceSet.{PlaceSet}

abbrev pub members_of : PlaceSet → List Bool
members_of set = take set.len set.members

-- the number of a place in a sheet: 1 puts it into the set
abbrev pub member_number : Bool → ℕ
member_number b = cond b 1 0

abbrev pub member_numbers : PlaceSet → List ℕ
member_numbers set = map member_number (members_of set)

-- numbers that a set can be made of
abbrev pub AreMembers : List ℕ → Type 0
AreMembers ns = (1 ≤ length ns) × (length ns ≤ 16) × ((p : ℕ) → p < length ns → slice_index ns p ≤ 1)
