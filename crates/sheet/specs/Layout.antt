-- Where the fields of a sheet lie. Numbers are low byte first; a byte past the end reads as 0.
use Rattle.std.specs.Prelude.{ℕ, ◌+◌, ◌*◌, List, slice_index}

abbrev pub byte_at : List ℕ → ℕ → ℕ
byte_at bytes at = slice_index bytes at

abbrev pub word16 : List ℕ → ℕ → ℕ
word16 bytes at = byte_at bytes at + byte_at bytes (at + 1) * 256

abbrev pub word32 : List ℕ → ℕ → ℕ
word32 bytes at = word16 bytes at + word16 bytes (at + 2) * 65536

abbrev pub word64 : List ℕ → ℕ → ℕ
word64 bytes at = word32 bytes at + word32 bytes (at + 4) * 4294967296

-- the first four bytes: the numbers of places and moves, and the kinds of the two certificates
abbrev pub places_in : List ℕ → ℕ
places_in bytes = byte_at bytes 0

abbrev pub moves_in : List ℕ → ℕ
moves_in bytes = byte_at bytes 1

abbrev pub first_code : List ℕ → ℕ
first_code bytes = byte_at bytes 2

abbrev pub second_code : List ℕ → ℕ
second_code bytes = byte_at bytes 3

-- how many takes there are, and how many gives
abbrev pub arcs_in : List ℕ → ℕ
arcs_in bytes = moves_in bytes * places_in bytes

-- all takes and then all gives, 16 bits each, move by move and place by place: arc k, takes first
abbrev pub arc_at : ℕ → ℕ
arc_at k = 4 + 2 * k

-- then the counts, 32 bits each
abbrev pub count_at : List ℕ → ℕ → ℕ
count_at bytes p = 4 + 4 * arcs_in bytes + 4 * p

-- then the certificates, each a ceiling of 64 bits and a number of 16 bits for each place
abbrev pub first_at : List ℕ → ℕ
first_at bytes = 4 + 4 * arcs_in bytes + 4 * places_in bytes

abbrev pub second_at : List ℕ → ℕ
second_at bytes = first_at bytes + 8 + 2 * places_in bytes

abbrev pub number_at : ℕ → ℕ → ℕ
number_at start p = start + 8 + 2 * p

-- the length that the numbers of places and moves ask for
abbrev pub size_of : List ℕ → ℕ
size_of bytes = 20 + 8 * places_in bytes + 4 * arcs_in bytes
