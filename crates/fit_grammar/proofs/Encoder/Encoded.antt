-- The encoded file is a file: for the law of that name. And its parts, as they are written one after another: for `put_framed`.
use Rattle.std.proofs.Common.{◌≡◌, ℕ, ◌+◌, ◌/◌, ◌%◌, ◌<◌, List, [], ◌∷◌, ◌++◌, length, refl, sym, ap, subst, ◌∙◌, arith, inl, inr}
use Rattle.std.specs.Prelude.{flat_map}
use Rattle.std.proofs.lemmas.List.{length-append}
use Rattle.std.proofs.lemmas.List.Sums.{sum_by-cons}
use Rattle.fit_base.specs.declared.order.Arch.{Arch}
use Rattle.fit_base.specs.declared.order.Arch.TheVariants.{Little, Big}
use Rattle.fit_base.specs.Number.{low_first}
use Rattle.fit_base.specs.Checksum.{crc, crc_from}
use Rattle.fit_grammar.specs.declared.file.frame.Frame.{Frame}
use Rattle.fit_grammar.specs.Format.Item.{Item, Defines, Data, item_size, field_bytes, developer_part, has_any}
use Rattle.fit_grammar.specs.Format.Records.{RecordsAfter, Records, data_size}
use Rattle.fit_grammar.specs.Format.Encoding.{two_bytes, four_bytes, encoded_item, encoded_items, header_front, with_checksum, encoded_header, encoded}
use Rattle.fit_grammar.specs.Format.File.{FileValue, FileOf, IsFrame, ChecksHeader, IsHeader, IsClosing}
use Rattle.fit_grammar.specs.Calls.Framed.{framed}
use Rattle.fit_grammar.specs.Calls.Possible.{AllCanFollow, CanBeFile}
use Rattle.fit_grammar.proofs.OneItem.Spelling.{fields_length, part_length}
use Rattle.fit_grammar.proofs.Encoder.Encoding.{encoded_spells}

two_length : (a : Arch) (n : ℕ) → length (two_bytes a n) ≡ 2
two_length Little n = refl
two_length Big n = refl

-- an item is written in as many bytes as its size
pub encoded_item-length : (item : Item) → length (encoded_item item) ≡ item_size item
encoded_item-length (Defines d) =
    let fields = flat_map field_bytes d.fields.items in
    let part = developer_part (has_any d.developer.items) d.developer.items in
    omega (
      arith,
      fields_length d.fields.items,
      part_length (has_any d.developer.items) d.developer.items,
      two_length d.arch d.global,
      length-append (two_bytes d.arch d.global) (length d.fields.items ∷ (fields ++ part)),
      length-append fields part,
    )
encoded_item-length (Data local offset content) = omega arith

pub encoded_items-length : (items : List Item) → length (encoded_items items) ≡ data_size items
encoded_items-length [] = refl
encoded_items-length (item ∷ items) =
    let one = encoded_item-length item in
    let others = encoded_items-length items in
    omega (arith, length-append (encoded_item item) (encoded_items items), sum_by-cons item_size item items)

-- the encoded items are records
pub encoded_records : (before items : List Item) → AllCanFollow before items → RecordsAfter before (encoded_items items) items
encoded_records before [] h = refl
encoded_records before (item ∷ items) h = (
  encoded_items items,
  record { own = encoded_item item; joined = refl; spelled = encoded_spells item h.0.encodable; defined = h.0.defined },
  encoded_records (before ++ item ∷ []) items h.1,
)

two_again : (n : ℕ) → low_first (two_bytes Little n) ≡ n
two_again n = omega arith

pub four_again : (n : ℕ) → low_first (four_bytes n) ≡ n
four_again n = omega arith

-- twelve bytes, and after them nothing or their checksum
header_by : (frame : Frame) (size : ℕ) (after : List ℕ) → IsFrame frame → length after + 12 ≡ frame.header_size
    → (frame.header_size ≡ 14 → ChecksHeader (header_front frame size ++ after))
    → IsHeader (header_front frame size ++ after) frame size
header_by frame size after is_frame whole checked =
    record {
      is_frame = is_frame;
      whole = omega (arith, whole);
      header_size = refl;
      protocol = refl;
      profile = two_again frame.profile;
      data_size = four_again size;
      marked = refl;
      checked = checked;
    }

header_12 : (frame : Frame) (size : ℕ) → IsFrame frame → frame.header_size ≡ 12 → IsHeader (header_front frame size) frame size
header_12 frame size is_frame short =
    header_by frame size [] is_frame (sym short) (λ long. absurd (omega arith))

header_14 : (frame : Frame) (size : ℕ) → IsFrame frame → frame.header_size ≡ 14
    → IsHeader (with_checksum (header_front frame size)) frame size
header_14 frame size is_frame long =
    let own = two_bytes Little (crc (header_front frame size)) in
    header_by frame size own is_frame (sym long) (λ _. inr (two_again (crc (header_front frame size))))

pub encoded_header_12 : (frame : Frame) (size : ℕ) → frame.header_size ≡ 12 → encoded_header frame size ≡ header_front frame size
encoded_header_12 frame size short = rw short refl

pub encoded_header_14 : (frame : Frame) (size : ℕ) → frame.header_size ≡ 14
    → encoded_header frame size ≡ with_checksum (header_front frame size)
encoded_header_14 frame size long = rw long refl

-- a header and its checksum, as they are written one after the other
pub header_joined : (frame : Frame) (size : ℕ) (front own : List ℕ) → frame.header_size ≡ 14
    → front ≡ header_front frame size → own ≡ two_bytes Little (crc front)
    → front ++ own ≡ encoded_header frame size
header_joined frame size front own long e f =
    ap (λ (l : List ℕ). front ++ l) f ∙ ap with_checksum e ∙ sym (encoded_header_14 frame size long)

two_whole : (n : ℕ) → n < 65536 → n % 256 ∷ n / 256 % 256 ∷ [] ≡ two_bytes Little n
two_whole n small = let e : n / 256 % 256 ≡ n / 256 = omega arith in rw e refl

-- the two bytes of a register that covers some bytes are their checksum
pub checksum_bytes : (before closing : List ℕ) (value register start : ℕ)
    → closing ≡ value % 256 ∷ value / 256 % 256 ∷ [] → value < 65536 → value ≡ register
    → register ≡ crc_from start before → start ≡ 0 → closing ≡ two_bytes Little (crc before)
checksum_bytes before closing value register start e small read over none =
    e ∙ two_whole value small ∙ ap (λ (n : ℕ). two_bytes Little n) (read ∙ over ∙ ap (λ (n : ℕ). crc_from n before) none)

-- the records of a file, as it is written
pub framed_items : (v : FileValue) (frame : Frame) (records : List ℕ) → frame ≡ v.frame → records ≡ encoded_items v.items
    → framed frame records ≡ encoded v
framed_items v frame records f r =
    ap (λ (fr : Frame). framed fr records) f ∙ ap (framed v.frame) r
    ∙ ap (λ (n : ℕ). with_checksum (encoded_header v.frame n ++ encoded_items v.items)) (encoded_items-length v.items)

pub encoded_is_header : (frame : Frame) (size : ℕ) → IsFrame frame → IsHeader (encoded_header frame size) frame size
encoded_is_header frame size is_frame =
    elim is_frame.size [
      | inl short ↦
          subst (λ (h : List ℕ). IsHeader h frame size) (sym (encoded_header_12 frame size short)) (header_12 frame size is_frame short)
      | inr long ↦
          subst (λ (h : List ℕ). IsHeader h frame size) (sym (encoded_header_14 frame size long)) (header_14 frame size is_frame long)
    ]

-- the closing checksum after header and records
closing_of : (before : List ℕ) → IsClosing before (two_bytes Little (crc before))
closing_of before = record { whole = refl; right = two_again (crc before) }

-- the file of some records is a file of their items
pub framed_is_file : (frame : Frame) (records : List ℕ) (items : List Item) → IsFrame frame → Records records items
    → FileOf (framed frame records) (record { frame = frame; items = items })
framed_is_file frame records items is_frame are_records =
    let header = encoded_header frame (length records) in
    record {
      header = header;
      records = records;
      closing = two_bytes Little (crc (header ++ records));
      joined = refl;
      is_header = encoded_is_header frame (length records) is_frame;
      are_records = are_records;
      is_closing = closing_of (header ++ records);
    }

pub encoded_is_file : (v : FileValue) → CanBeFile v → FileOf (encoded v) v
encoded_is_file v h =
    subst (λ (bytes : List ℕ). FileOf bytes v) (framed_items v v.frame (encoded_items v.items) refl refl)
    (framed_is_file v.frame (encoded_items v.items) v.items h.is_frame (encoded_records [] v.items h.items_follow))
