-- What a power cut leaves for given choice bytes. They choose each file's length and each byte that is not kept.
use Rattle.std.specs.Prelude.{ℕ, zero, suc, ◌+◌, ◌-◌, ◌*◌, ◌%◌, Bool, true, ◌&&◌, ◌||◌, nat_lt, nat_le, if◌then◌else◌, List, [], ◌∷◌, map, drop, slice_index}
use Rattle.std.specs.List.{range_with_len}
use Rattle.fit_disk.specs.Stored.{Stored, at_rest}
use Rattle.fit_disk.specs.State.{State}

-- the first four choice bytes as a number, little-endian; missing ones are 0
abbrev pub chosen_number : List ℕ → ℕ
chosen_number choices =
    slice_index choices 0 + 256 * slice_index choices 1 + 65536 * slice_index choices 2
    + 16777216 * slice_index choices 3

-- whether the place is before or after the range
abbrev pub is_beside : ℕ → ℕ × ℕ → Bool
is_beside place range = nat_lt place range.0 || nat_le (range.0 + range.1) place

-- whether the place is in none of the ranges
abbrev pub is_outside : ℕ → List (ℕ × ℕ) → Bool
is_outside place [] = true
is_outside place (range ∷ ranges) = is_beside place range && is_outside place ranges

-- whether a byte is kept: its place is below the least length, and nothing was written there
abbrev pub is_kept : ℕ → List (ℕ × ℕ) → ℕ → Bool
is_kept least written place = nat_lt place least && is_outside place written

-- how many of the first so many places are not kept
abbrev pub free_below : ℕ → List (ℕ × ℕ) → ℕ → ℕ
free_below least written zero = 0
free_below least written (suc place) =
    free_below least written place + (if is_kept least written place then 0 else 1)

-- the length that the first four choice bytes choose
abbrev pub length_chosen : ℕ → ℕ → List ℕ → ℕ
length_chosen least greatest choices = least + chosen_number choices % (greatest - least + 1)

-- the byte at a place: if it is kept, the one before the power cut, else the next choice byte
abbrev pub byte_by : ℕ → List (ℕ × ℕ) → List ℕ → List ℕ → ℕ → ℕ
byte_by least written before choices place =
    if is_kept least written place
    then slice_index before place else slice_index choices (4 + free_below least written place)

-- what is left of a file for these choice bytes
abbrev pub left_by : Stored → List ℕ → List ℕ
left_by file choices =
    map (byte_by file.least file.written file.synced choices)
    (range_with_len 0 (length_chosen file.least file.greatest choices))

-- how many choice bytes a file takes, including missing ones
abbrev pub taken_by : Stored → List ℕ → ℕ
taken_by file choices =
    4 + free_below file.least file.written (length_chosen file.least file.greatest choices)

-- both files after a power cut: the data file takes its choice bytes first, then the journal the next ones
abbrev pub cycled : List ℕ → State → State
cycled choices state = record {
  data_file = at_rest (left_by state.data_file choices);
  journal_file =
      at_rest (left_by state.journal_file (drop (taken_by state.data_file choices) choices));
}

-- how many choice bytes both files take, including missing ones
abbrev pub taken_in : List ℕ → State → ℕ
taken_in choices state =
    taken_by state.data_file choices + taken_by state.journal_file
    (drop (taken_by state.data_file choices) choices)
