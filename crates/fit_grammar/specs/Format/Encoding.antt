-- The bytes that items and files are written as: every reserved bit and byte is 0, an architecture byte is 0 or 1, developer
-- fields are announced if and only if there are any, and a header of 14 bytes has its checksum.
use Rattle.std.specs.Prelude.{ℕ, ◌+◌, ◌*◌, ◌/◌, ◌%◌, ◌<◌, ◌==◌, if◌then◌else◌, Bool, true, false, List, [], ◌∷◌, ◌++◌, length, flat_map, Option, Some, None}
use Rattle.fit_base.specs.declared.order.Arch.{Arch}
use Rattle.fit_base.specs.declared.order.Arch.TheVariants.{Little, Big}
use Rattle.fit_base.specs.Checksum.{crc}
use Rattle.fit_grammar.specs.declared.file.frame.Frame.{Frame}
use Rattle.fit_grammar.specs.Format.Item.{Item, Defines, Data, field_bytes, developer_part, has_any}
use Rattle.fit_grammar.specs.Format.Records.{data_size}
use Rattle.fit_grammar.specs.Format.File.{FileValue, mark}

-- the architecture byte
abbrev pub arch_byte : Arch → ℕ
arch_byte Little = 0
arch_byte Big = 1

-- a number of two bytes
abbrev pub two_bytes : Arch → ℕ → List ℕ
two_bytes Little n = n % 256 ∷ n / 256 ∷ []
two_bytes Big n = n / 256 ∷ n % 256 ∷ []

-- the first byte of a definition, with developer fields announced or not
abbrev pub definition_byte : ℕ → Bool → ℕ
definition_byte local false = 64 + local
definition_byte local true = 96 + local

-- the first byte of a data message
abbrev pub data_byte : ℕ → Option ℕ → ℕ
data_byte local None = local
data_byte local (Some offset) = 128 + 32 * local + offset

abbrev pub encoded_item : Item → List ℕ
encoded_item (Defines d) =
    definition_byte d.local (has_any d.developer.items) ∷ 0 ∷ arch_byte d.arch ∷
    (two_bytes d.arch d.global ++ length d.fields.items
    ∷ (flat_map field_bytes d.fields.items
    ++ developer_part (has_any d.developer.items) d.developer.items))
encoded_item (Data local offset content) = data_byte local offset ∷ content

-- the numbers of the first byte fit into their bits
abbrev pub HasEncoding : Item → Type 0
HasEncoding (Defines d) = d.local < 16
HasEncoding (Data local None content) = local < 16
HasEncoding (Data local (Some offset) content) = (local < 4) × (offset < 32)

abbrev pub encoded_items : List Item → List ℕ
encoded_items items = flat_map encoded_item items

-- a number of four bytes, low byte first
abbrev pub four_bytes : ℕ → List ℕ
four_bytes n = n % 256 ∷ n / 256 % 256 ∷ n / 65536 % 256 ∷ n / 16777216 ∷ []

-- the bytes of a header before its checksum
abbrev pub header_front : Frame → ℕ → List ℕ
header_front frame size =
    frame.header_size ∷ frame.protocol ∷ (two_bytes Little frame.profile ++ four_bytes size ++ mark)

-- bytes with their checksum after them, low byte first
abbrev pub with_checksum : List ℕ → List ℕ
with_checksum bytes = bytes ++ two_bytes Little (crc bytes)

-- the header over this many bytes of records; one of 14 bytes has its checksum
abbrev pub encoded_header : Frame → ℕ → List ℕ
encoded_header frame size =
    if frame.header_size == 14
    then with_checksum (header_front frame size) else header_front frame size

-- the file: header, records and closing checksum
abbrev pub encoded : FileValue → List ℕ
encoded v = with_checksum (encoded_header v.frame (data_size v.items) ++ encoded_items v.items)
