-- Who makes the developer data of each index of a joined file, and which index the data of a part has there (FIT protocol, "Developer
-- data").
use Rattle.std.specs.Prelude.{ℕ, Bool, true, List, [], ◌∷◌, replicate, fold, find, unwrap_or, Option, Some, None, is_some, bytes_eq, slice_index_or, slice_set, ◌==◌, ◌&&◌, if◌then◌else◌}
use Rattle.std.specs.List.{range_with_len}
use Rattle.fit_base.specs.declared.base.BaseType.TheVariants.{Uint8}
use Rattle.fit_base.specs.Base.{base_type}
use Rattle.fit_base.specs.Value.{Values, Numbers, size_by}
use Rattle.fit_grammar.specs.Format.Message.{Message, MessageField}
use Rattle.fit_grammar.specs.Format.OneValue.{value_of}

-- ---- makers

-- what a message developer_data_id names: the application that makes the data, and its developer
pub record Maker : Type 0 where
  pub application : List ℕ
  pub developer : List ℕ

-- a type whose values have one byte
abbrev pub is_single : ℕ → Bool
is_single base = size_by (base_type base) == 1

-- the bytes of a field of such a type
abbrev pub bytes_by : Bool → Values → List ℕ
bytes_by true (Numbers bytes) = bytes
bytes_by _ _ = []

abbrev pub bytes_in : MessageField → List ℕ
bytes_in field = bytes_by (is_single field.base) field.values

-- the bytes of the first field of this number
abbrev pub id_in : ℕ → List MessageField → List ℕ
id_in number [] = []
id_in number (field ∷ fields) = if field.number == number then bytes_in field else id_in number fields

-- by its fields application_id and developer_id
abbrev pub maker_of : Message → Maker
maker_of m = record { application = id_in 1 m.fields; developer = id_in 0 m.fields }

abbrev pub is_same : Maker → Maker → Bool
is_same one other = bytes_eq one.application other.application && bytes_eq one.developer other.developer

-- ---- the indices of a joined file

-- no index has a maker yet
abbrev pub no_makers : List (Option Maker)
no_makers = replicate 256 None

-- an index is open to a maker if it is free, or has the same one
abbrev pub is_open_by : Maker → Option Maker → Bool
is_open_by maker None = true
is_open_by maker (Some other) = is_same other maker

abbrev pub is_open : List (Option Maker) → Maker → ℕ → Bool
is_open makers maker index = is_open_by maker (slice_index_or makers index None)

-- the first that is, from 0 to 254; 255 is invalid
abbrev pub first_open : List (Option Maker) → Maker → Option ℕ
first_open makers maker = find (is_open makers maker) (range_with_len 0 255)

-- An index stays if it is open to its maker. Else it becomes the first that is, and if none is, it stays.
abbrev pub index_for : List (Option Maker) → Maker → ℕ → ℕ
index_for makers maker index =
    if is_open makers maker index then index else unwrap_or (first_open makers maker) index

-- ---- the indices of a part

-- the makers of the indices of the joined file, and for each index that the part declares, its index there
pub record Indices : Type 0 where
  pub makers : List (Option Maker)
  pub given : List (Option ℕ)

-- the index that a message developer_data_id declares in its field developer_data_index
abbrev pub index_declared : Message → Option ℕ
index_declared m = if m.global == 207 then value_of Uint8 3 m else None

-- after the declaration of an index; the first one of an index in a part counts
abbrev pub given_at : Indices → Maker → ℕ → ℕ → Indices
given_at s maker index new =
    record { makers = slice_set s.makers new (Some maker); given = slice_set s.given index (Some new) }

abbrev pub declared_by : Indices → Maker → ℕ → Indices
declared_by s maker index =
    if is_some (slice_index_or s.given index None) then s
    else given_at s maker index (index_for s.makers maker index)

abbrev pub declared_if : Indices → Maker → Option ℕ → Indices
declared_if s maker None = s
declared_if s maker (Some index) = declared_by s maker index

-- after one more message
abbrev pub declared_after : Indices → Message → Indices
declared_after s m = declared_if s (maker_of m) (index_declared m)

-- after a part, by its messages in their order; before it, none of its indices is declared
abbrev pub declared_past : List (Option Maker) → List Message → Indices
declared_past makers messages =
    fold declared_after (record { makers = makers; given = replicate 256 None }) messages

-- the index in the joined file; one that the part does not declare stays
abbrev pub index_in : List (Option ℕ) → ℕ → ℕ
index_in given index = unwrap_or (slice_index_or given index None) index
