-- The plain form of a file: the same messages, and no item with a compressed timestamp. Each message that had one has its time
-- as field 253 in front, under a definition of the same local number.
use Rattle.std.specs.Prelude.{◌≡◌, ℕ, ◌+◌, ◌<◌, List, [], ◌∷◌, ◌++◌, length, reverse, replicate, slice_set, slice_index_or, Bool, true, false, ◌||◌, nat_lt, if◌then◌else◌, Option, Some, None, is_some}
use Rattle.std.specs.List.{list_any}
use Rattle.fit_base.specs.declared.order.Arch.{Arch}
use Rattle.fit_base.specs.declared.order.Arch.TheVariants.{Little, Big}
use Rattle.fit_grammar.specs.declared.definition.FieldDefinition.{FieldDefinition}
use Rattle.fit_grammar.specs.declared.definition.Definition.{Definition}
use Rattle.fit_grammar.specs.Format.Item.{Item, Defines, Data, item_size}
use Rattle.fit_grammar.specs.Format.Records.{data_size}
use Rattle.fit_grammar.specs.Format.Encoding.{four_bytes}
use Rattle.fit_grammar.specs.declared.plain.fault.PlainFault.{PlainFault}
use Rattle.fit_grammar.specs.declared.plain.fault.PlainFaultKind.{PlainFaultKind}
use Rattle.fit_grammar.specs.declared.plain.fault.PlainFaultKind.TheVariants.{TooLong, Memory}
use Rattle.fit_grammar.specs.Format.File.{FileValue}
use Rattle.fit_grammar.specs.Format.Refusal.{Front, IsFront, front_bytes, front_end}
use Rattle.fit_grammar.specs.Calls.Places.{place_read}
use Rattle.fit_grammar.specs.Calls.LentItem.{LentItem, DefinesHere, DataHere, LentData, item_lent, items_lent}

-- ---- a message

-- field 253, of base type uint32
abbrev pub time_definition : FieldDefinition
time_definition = record { number = 253; size = 4; base = 0x86 }

-- a definition, with the time in front or not
abbrev pub timed_definition : Bool → Definition → Definition
timed_definition false d = d
timed_definition true d =
    record d { fields = record { items = time_definition ∷ d.fields.items } }

-- the four bytes of a time
abbrev pub time_bytes : Arch → ℕ → List ℕ
time_bytes Little time = four_bytes time
time_bytes Big time = reverse (four_bytes time)

abbrev pub time_front : Arch → Option ℕ → List ℕ
time_front arch None = []
time_front arch (Some time) = time_bytes arch time

-- the definition of a message's plain form, its content, and its item
abbrev pub plain_definition : LentData → Definition
plain_definition m = timed_definition (is_some m.time) m.definition

abbrev pub plain_content : LentData → List ℕ
plain_content m = time_front m.definition.arch m.time ++ m.content

abbrev pub plain_data : LentData → Item
plain_data m = Data m.local None (plain_content m)

-- ---- the items of a file

-- for each local number, whether the last definition written has the time in front
abbrev pub is_timed : List Bool → ℕ → Bool
is_timed timed local = slice_index_or timed local false

-- at the start, none has
abbrev pub none_timed : List Bool
none_timed = replicate 16 false

-- the definition that is written before a message: none if the last one written already fits the message
abbrev pub definitions_before : Bool → Bool → Definition → List Item
definitions_before true true d = []
definitions_before false false d = []
definitions_before has needs d = Defines (timed_definition needs d) ∷ []

-- what is written for an item
abbrev pub plain_item : List Bool → LentItem → List Item
plain_item timed (DefinesHere d) = Defines d ∷ []
plain_item timed (DataHere m) =
    definitions_before (is_timed timed m.local) (is_some m.time) m.definition ++ plain_data m ∷ []

-- the flags of the local numbers after it
abbrev pub timed_after : List Bool → LentItem → List Bool
timed_after timed (DefinesHere d) = slice_set timed d.local false
timed_after timed (DataHere m) = slice_set timed m.local (is_some m.time)

abbrev pub plain_after : List Bool → List LentItem → List Item
plain_after timed [] = []
plain_after timed (item ∷ items) =
    plain_item timed item ++ plain_after (timed_after timed item) items

-- the plain form of a row of items
abbrev pub plain_items : List Item → List Item
plain_items items = plain_after none_timed (items_lent items)

-- the plain form of a file
abbrev pub plain_of : FileValue → FileValue
plain_of v = record { frame = v.frame; items = plain_items v.items }

-- an item that has no compressed timestamp
abbrev pub IsPlain : Item → Type 0
IsPlain (Defines d) = Unit {0}
IsPlain (Data local offset content) = offset ≡ None

-- ---- why a file has no plain form

-- a definition of 256 fields or more
abbrev pub has_too_many_fields : Item → Bool
has_too_many_fields (Defines d) = nat_lt 255 (length d.fields.items)
has_too_many_fields (Data local offset content) = false

-- after so many bytes, with these items the records would exceed 4,294,967,295 bytes, or a definition would have 256 fields
abbrev pub is_too_long : ℕ → List Item → Bool
is_too_long size items =
    list_any has_too_many_fields items || nat_lt 4294967295 (size + data_size items)

-- the place of the first item that is too long, from this place on, after so many bytes of plain items
abbrev pub too_long_after : List Bool → ℕ → ℕ → List LentItem → Option ℕ
too_long_after timed size place [] = None
too_long_after timed size place (item ∷ items) =
    if is_too_long size (plain_item timed item) then Some place
    else too_long_after (timed_after timed item) (size + data_size (plain_item timed item))
    (place + item_size (item_lent item)) items

-- the same for a whole file; the place is an offset from its front
abbrev pub too_long_at : FileValue → Option ℕ
too_long_at v = too_long_after none_timed 0 v.frame.header_size (items_lent v.items)

-- an item of the file is written at this place, after the items `before`
pub record IsItemPlace (v : FileValue) (place : ℕ) : Type 0 where
  pub before : List Item
  pub item : Item
  pub after : List Item
  pub items_are : v.items ≡ before ++ item ∷ after
  pub place_is : place ≡ v.frame.header_size + data_size before

-- the item written at `written` was at `place` in the bytes that were read
pub record StoodAt (bytes : List ℕ) (v : FileValue) (written place : ℕ) : Type 0 where
  pub is_item : IsItemPlace v written
  pub front : Front
  pub rest : List ℕ
  pub is_front : IsFront front
  pub joined : bytes ≡ front_bytes front ++ rest
  pub items_are : front.items ≡ is_item.before
  pub place_is : place ≡ front_end front

-- The item written at this place is refused: it is the first that is too long, or there was no memory for it and no item up to
-- it is too long.
abbrev pub IsRefusedAt : FileValue → PlainFaultKind → ℕ → Type 0
IsRefusedAt v TooLong written = too_long_at v ≡ Some written
IsRefusedAt v Memory written = (at : ℕ) → too_long_at v ≡ Some at → written < at

-- a fault of a file, with its place in the bytes that the file was read from
pub record IsPlainFault (v : FileValue) (longer : List ℕ) (fault : PlainFault) : Type 0 where
  pub written : ℕ
  pub is_item : IsItemPlace v written
  pub refused : IsRefusedAt v fault.kind written
  pub place_is : fault.place ≡ place_read longer written

-- a fault of the file that these bytes are
pub record IsPlainFaultOf (bytes : List ℕ) (v : FileValue) (fault : PlainFault) : Type 0 where
  pub written : ℕ
  pub refused : IsRefusedAt v fault.kind written
  pub stood : StoodAt bytes v written fault.place
