-- A board in units: the board below counts full units, and the units board keeps a rest at each place.
use Rattle.std.specs.Prelude.{ℕ, ◌+◌, ◌-◌, ◌*◌, ◌%◌, cond, List, map, length, nat_le, slice_index}
use Rattle.std.specs.List.{range_with_len}
use Rattle.net.specs.Net.{Net}
use Rattle.net.specs.Divisors.{unit_of}

-- a unit over a limit of the board below: 1 if the counts of limit + 1 units would pass 32 bits
abbrev pub unit_over_limit : ℕ → ℕ → ℕ
unit_over_limit limit unit = cond (nat_le ((limit + 1) * unit) 4294967296) unit 1

-- the unit at place p, from the plan's unit there and the limits of the board below
abbrev pub unit_at : Net → List ℕ → ℕ → ℕ
unit_at n limits p = unit_over_limit (slice_index limits p) (unit_of n p)

-- the count at place p: the full units, and the rest modulo the unit
abbrev pub count_at : Net → List ℕ → List ℕ → List ℕ → ℕ → ℕ
count_at n limits counts rests p = slice_index counts p * unit_at n limits p + slice_index rests p % unit_at n limits p

abbrev pub counts_in_units : Net → List ℕ → List ℕ → List ℕ → List ℕ
counts_in_units n limits counts rests = map (count_at n limits counts rests) (range_with_len 0 (length counts))

-- the limit at place p: as many units as the board below may hold, and a rest of one less than a unit
abbrev pub limit_at : Net → List ℕ → ℕ → ℕ
limit_at n limits p = slice_index limits p * unit_at n limits p + unit_at n limits p - 1

abbrev pub limits_in_units : Net → List ℕ → List ℕ
limits_in_units n limits = map (limit_at n limits) (range_with_len 0 (length limits))
