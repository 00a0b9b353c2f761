-- The form of an item as a device writes it.
use Rattle.std.specs.Prelude.{ℕ, ◌+◌, ◌-◌, ◌%◌, ◌/◌, Bool, true, false, List, ◌∷◌, length, take, drop, set, replicate, slice_index, slice_index_or, not, nat_lt, ◌==◌, ◌&&◌, ◌||◌, if◌then◌else◌}
use Rattle.std.specs.List.{list_all}

-- the first byte of a definition has bit 6 and not bit 7; one of a data message with a compressed timestamp has bit 7; another one is the
-- local number, and bits 4 and 5 are reserved
abbrev pub begins_definition : List ℕ → Bool
begins_definition bytes = not (nat_lt (slice_index bytes 0) 64) && nat_lt (slice_index bytes 0) 128

abbrev pub begins_compressed : List ℕ → Bool
begins_compressed bytes = not (nat_lt (slice_index bytes 0) 128)

abbrev pub begins_reserved : List ℕ → Bool
begins_reserved bytes = not (nat_lt (slice_index bytes 0) 16) && nat_lt (slice_index bytes 0) 128

-- an item without a reserved bit; the second byte of a definition is 0
abbrev pub begins_item : List ℕ → Bool
begins_item bytes =
    if nat_lt (length bytes) 2 then true
    else nat_lt (slice_index bytes 0) 16 || begins_compressed bytes
    || (not (nat_lt (slice_index bytes 0) 64) && (slice_index bytes 1 == 0))

-- four bytes or more of an erased or unwritten stretch: all 0, or all 255
abbrev pub blank : List ℕ → Bool
blank bytes =
    ((slice_index bytes 0 == 0) || (slice_index bytes 0 == 255)) && not (nat_lt (length bytes) 4)
    && list_all (λ byte. byte == slice_index bytes 0) bytes

-- so many bytes in a row that are all 0, or all 255, are a stretch that nobody wrote, such as a sector; one more is a byte of an item beside
-- it
abbrev pub stretch : ℕ
stretch = 8

abbrev pub begins_unwritten : List ℕ → Bool
begins_unwritten bytes = not (nat_lt (length bytes) (stretch + 1)) && blank (take (stretch + 1) bytes)

-- an item of so many bytes at the front runs into such a stretch: its last byte is as those after it
abbrev pub runs_into_unwritten : List ℕ → ℕ → Bool
runs_into_unwritten bytes size = begins_unwritten (drop (size - 1) bytes)

-- the byte at a place comes out of one: it is as those before it
abbrev pub comes_from_unwritten : List ℕ → ℕ → Bool
comes_from_unwritten bytes place = not (nat_lt place stretch) && begins_unwritten (drop (place - stretch) bytes)

-- the number of bytes of one value of a base type, or 0 if the type is not known; bit 7 is left out by some devices
abbrev pub unit_by : ℕ → ℕ
unit_by base =
    if (base == 0) || (base == 1) || (base == 2) || (base == 7) || (base == 10) || (base == 13) then 1
    else if (base == 3) || (base == 4) || (base == 11) then 2
    else if (base == 5) || (base == 6) || (base == 8) || (base == 12) then 4
    else if (base == 9) || (base == 14) || (base == 15) || (base == 16) then 8
    else 0

abbrev pub unit_of : ℕ → ℕ
unit_of base = unit_by (base % 32)

-- a field has one or more values of a base type that is known
abbrev pub is_sized : ℕ → ℕ → Bool
is_sized unit size = not (unit == 0) && not (size == 0) && (size % unit == 0)

-- so many fields, of three bytes each: each is sized, and no number is there twice, nor is one that was seen before
abbrev pub are_usual : ℕ → List Bool → List ℕ → Bool
are_usual count seen (number ∷ size ∷ base ∷ fields) =
    (count == 0)
    || (is_sized (unit_of base) size && not (slice_index_or seen number false)
    && are_usual (count - 1) (set seen number true) fields)
are_usual count seen fields = count == 0

-- a definition that a device writes: reserved bits and bytes are 0, the architecture is 0 or 1, the message has a number, and its fields
-- are usual, at least one
abbrev pub is_usual : List ℕ → Bool
is_usual bytes =
    not (nat_lt (length bytes) 6) && (slice_index bytes 0 / 16 % 2 == 0) && (slice_index bytes 1 == 0)
    && nat_lt (slice_index bytes 2) 2 && not ((slice_index bytes 3 == 255) && (slice_index bytes 4 == 255))
    && nat_lt 0 (slice_index bytes 5) && are_usual (slice_index bytes 5) (replicate 256 false) (drop 6 bytes)
