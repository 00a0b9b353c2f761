-- The bytes of a plain form whose times are moved: for `shift_plain`.
use Rattle.std.proofs.Common.{◌≡◌, ℕ, ◌+◌, ◌-◌, ◌/◌, ◌%◌, ◌<◌, List, [], ◌∷◌, ◌++◌, length, take, drop, Bool, true, false, if◌then◌else◌, Option, Some, None, refl, sym, ap, ◌∙◌, arith, append_assoc, append-nil, length-append}
use Rattle.std.specs.Prelude.{is_some}
use Rattle.std.proofs.Math.Bool.{beq}
use Rattle.std.proofs.lemmas.Grind.{flat_map-append}
use Rattle.fit_base.specs.Checksum.{crc}
use Rattle.fit_base.specs.declared.order.Arch.{Arch}
use Rattle.fit_base.specs.declared.order.Arch.TheVariants.{Little}
use Rattle.fit_grammar.specs.declared.definition.Definition.{Definition}
use Rattle.fit_grammar.specs.Format.Item.{Item, Defines, item_size}
use Rattle.fit_grammar.specs.Format.Encoding.{encoded, encoded_header, encoded_item, encoded_items, two_bytes}
use Rattle.fit_grammar.specs.Format.File.{FileValue, IsFrame}
use Rattle.fit_grammar.specs.Format.Records.{in_force, data_size}
use Rattle.fit_grammar.specs.Calls.Table.{in_force_after}
use Rattle.fit_grammar.specs.Calls.LentItem.{LentItem, DefinesHere, DataHere, LentData, items_lent, AllUnder}
use Rattle.fit_grammar.specs.Calls.PlainForm.{plain_item, plain_after, plain_items, plain_of, plain_data, plain_content, definitions_before, is_timed, timed_after, none_timed, timed_definition, time_front, time_bytes}
use Rattle.fit_grammar.proofs.Encoder.Encoded.{encoded_item-length, encoded_items-length, encoded_is_header}
use Rattle.fit_shifting.specs.declared.shift.Shift.{Shift}
use Rattle.fit_shifting.proofs.Middle.{take_there, drop_there, lent_there, back_there}
use Rattle.fit_shifting.proofs.MovedValues.{four}
use Rattle.fit_shifting.specs.Private.Plain.{plain_item_moved, plain_after_moved, plain_items_moved, plain_of_moved, plain_data_moved, plain_content_moved, HasLocal, MovedUpTo}

-- ---- an item

-- what the plain form has of a data message: first its definition and its first byte, then its content
pub data_there : (front : List Item) (m : LentData) (content rest : List ℕ) (item : Item) → encoded_item item ≡ m.local ∷ content
    → encoded_items (front ++ item ∷ []) ++ rest ≡ (encoded_items front ++ m.local ∷ []) ++ (content ++ rest)
data_there front m content rest item is =
    ap (λ (l : List ℕ). l ++ rest) (flat_map-append encoded_item front (item ∷ []))
    ∙ ap (λ (l : List ℕ). (encoded_items front ++ l) ++ rest) (append-nil (encoded_item item) ∙ is)
    ∙ append_assoc (encoded_items front) (m.local ∷ content) rest
    ∙ sym (append_assoc (encoded_items front) (m.local ∷ []) (content ++ rest))

-- the definition before it, if the last one does not fit
pub size_before : (has needs : Bool) (d : Definition) (size more : ℕ) → beq has needs ≡ false → size ≡ item_size (Defines d)
    → more ≡ (if needs then 3 else 0) → size + more ≡ length (encoded_items (definitions_before has needs d))
size_before true true d size more other is three = cc
size_before false false d size more other is three = cc
size_before true false d size more other is three =
    omega (arith, is, three, encoded_item-length (Defines d), ap length (append-nil (encoded_item (Defines d))))
size_before false true d size more other is three =
    let new = timed_definition true d in
    omega (arith, is, three, encoded_item-length (Defines new), ap length (append-nil (encoded_item (Defines new))))

pub definition_size : (d : Definition) → item_size (Defines d) ≡ length (encoded_items (Defines d ∷ []))
definition_size d = sym (ap length (append-nil (encoded_item (Defines d))) ∙ encoded_item-length (Defines d))

content_size : (arch : Arch) (time : Option ℕ) (content : List ℕ)
    → length (time_front arch time ++ content) ≡ (if is_some time then 4 else 0) + length content
content_size arch None content = omega arith
content_size arch (Some time) content = omega (arith, length-append (time_bytes arch time) content, four arch time)

abbrev before_data : List Bool → LentData → List ℕ
before_data timed m = encoded_items (definitions_before (is_timed timed m.local) (is_some m.time) m.definition) ++ m.local ∷ []

-- the content of a data message is lent
pub content_lent : (timed : List Bool) (m : LentData) (records rest : List ℕ) (size more at count : ℕ)
    → records ≡ encoded_items (plain_item timed (DataHere m)) ++ rest
    → size ≡ length (encoded_items (definitions_before (is_timed timed m.local) (is_some m.time) m.definition))
    → more ≡ (if is_some m.time then 4 else 0) → at ≡ 1 + size → count ≡ more + length m.content
    → take count (drop at records) ≡ plain_content m
content_lent timed m records rest size more at count joined is four_more after long =
    let front = definitions_before (is_timed timed m.local) (is_some m.time) m.definition in
    lent_there (before_data timed m) (plain_content m) rest records at count
    (joined ∙ data_there front m (plain_content m) rest (plain_data m) refl)
    (omega (arith, after, is, length-append (encoded_items front) (m.local ∷ [])))
    (omega (arith, long, four_more, content_size m.definition.arch m.time m.content))

-- and comes back moved
pub content_back : (shift : Shift) (timed : List Bool) (m : LentData) (records rest new : List ℕ) (size more at count : ℕ)
    → records ≡ encoded_items (plain_item timed (DataHere m)) ++ rest
    → size ≡ length (encoded_items (definitions_before (is_timed timed m.local) (is_some m.time) m.definition))
    → more ≡ (if is_some m.time then 4 else 0) → at ≡ 1 + size → count ≡ more + length m.content → new ≡ plain_content_moved shift m
    → take at records ++ (new ++ drop count (drop at records)) ≡ encoded_items (plain_item_moved shift timed (DataHere m)) ++ rest
content_back shift timed m records rest new size more at count joined is four_more after long moved =
    let front = definitions_before (is_timed timed m.local) (is_some m.time) m.definition in
    back_there (before_data timed m) (plain_content m) new rest records at count
    (joined ∙ data_there front m (plain_content m) rest (plain_data m) refl)
    (omega (arith, after, is, length-append (encoded_items front) (m.local ∷ [])))
    (omega (arith, long, four_more, content_size m.definition.arch m.time m.content))
    ∙ ap (λ (l : List ℕ). before_data timed m ++ (l ++ rest)) moved
    ∙ sym (data_there front m (plain_content_moved shift m) rest (plain_data_moved shift m) refl)

-- ---- all items

pub local_there : (f : ℕ → Option Definition) (item : LentItem) (left : List LentItem) → AllUnder f (item ∷ left) → HasLocal item
local_there f (DefinesHere d) left under = under.0
local_there f (DataHere m) left under = under.0

-- before the first
pub moved_none : (shift : Shift) (v : FileValue) (records : List ℕ) (at : ℕ) (timed : List Bool) (left : List LentItem)
    → records ≡ encoded_items (plain_items v.items) → at ≡ 0 → timed ≡ none_timed → left ≡ items_lent v.items → AllUnder (in_force []) left
    → MovedUpTo shift v records at timed left
moved_none shift v records at timed left is first flags all under = record {
  before = [];
  place_is = first;
  records_are = is ∙ ap (λ (t : List Bool). encoded_items (plain_after t (items_lent v.items))) (sym flags)
      ∙ ap (λ (l : List LentItem). encoded_items (plain_after timed l)) (sym all);
  made = ap (λ (t : List Bool). encoded_items (plain_after_moved shift t left)) flags
      ∙ ap (λ (l : List LentItem). encoded_items (plain_after_moved shift none_timed l)) all;
  definition_for = in_force [];
  under = under;
}

-- the bytes from here on begin with what is written for the next one
pub item_there : (shift : Shift) (v : FileValue) (records : List ℕ) (at : ℕ) (timed : List Bool) (item : LentItem) (left : List LentItem)
    → MovedUpTo shift v records at timed (item ∷ left)
    → drop at records ≡ encoded_items (plain_item timed item) ++ encoded_items (plain_after (timed_after timed item) left)
item_there shift v records at timed item left r =
    drop_there r.before _ records at r.records_are r.place_is
    ∙ flat_map-append encoded_item (plain_item timed item) (plain_after (timed_after timed item) left)

under_after : (item : LentItem) (left : List LentItem) (f : ℕ → Option Definition) → AllUnder f (item ∷ left)
    → (g : ℕ → Option Definition) × AllUnder g left
under_after (DefinesHere d) left f under = (in_force_after (Defines d) f, under.1)
under_after (DataHere m) left f under = (f, under.2)

-- after the next one
pub moved_on : (shift : Shift) (v : FileValue) (records new own : List ℕ) (at size : ℕ) (timed flags : List Bool) (item : LentItem)
    (left : List LentItem) → MovedUpTo shift v records at timed (item ∷ left) → size ≡ length (encoded_items (plain_item timed item))
    → flags ≡ timed_after timed item → new ≡ take at records ++ own
    → own ≡ encoded_items (plain_item_moved shift timed item) ++ encoded_items (plain_after (timed_after timed item) left)
    → length own ≡ length (drop at records) → MovedUpTo shift v new (at + size) flags left
moved_on shift v records new own at size timed flags item left r count set joined is long =
    let moved = encoded_items (plain_item_moved shift timed item) in
    let rest = encoded_items (plain_after (timed_after timed item) left) in
    let there = item_there shift v records at timed item left r in
    let under = under_after item left r.definition_for r.under in
    let same : length moved ≡ size = omega (
      arith,
      long,
      ap length is,
      length-append moved rest,
      ap length there,
      length-append (encoded_items (plain_item timed item)) rest,
      count,
    ) in
    record {
      before = r.before ++ moved;
      place_is = omega (arith, r.place_is, same, length-append r.before moved);
      records_are = joined ∙ ap (λ (l : List ℕ). l ++ own) (take_there r.before _ records at r.records_are r.place_is)
          ∙ ap (λ (l : List ℕ). r.before ++ l) is ∙ sym (append_assoc r.before moved rest)
          ∙ ap (λ (t : List Bool). (r.before ++ moved) ++ encoded_items (plain_after t left)) (sym set);
      made = ap (λ (t : List Bool). (r.before ++ moved) ++ encoded_items (plain_after_moved shift t left)) set
          ∙ append_assoc r.before moved (encoded_items (plain_after_moved shift (timed_after timed item) left))
          ∙ ap (λ (l : List ℕ). r.before ++ l)
          (sym (flat_map-append encoded_item (plain_item_moved shift timed item) (plain_after_moved shift (timed_after timed item) left)))
          ∙ r.made;
      definition_for = under.0;
      under = under.1;
    }

-- after the last
pub moved_all : (shift : Shift) (v : FileValue) (records : List ℕ) (at : ℕ) (timed : List Bool)
    → MovedUpTo shift v records at timed [] → records ≡ encoded_items (plain_items_moved shift v.items)
moved_all shift v records at timed r = r.records_are ∙ r.made

-- ---- the file

closing_is : (closing : List ℕ) (sum : ℕ) → closing ≡ sum % 256 ∷ sum / 256 % 256 ∷ [] → sum < 65536 → closing ≡ two_bytes Little sum
closing_is closing sum is few =
    let high : sum / 256 % 256 ≡ sum / 256 = omega (arith, few) in
    is ∙ ap (λ (n : ℕ). sum % 256 ∷ n ∷ []) high

-- the records are lent
pub records_lent : (v : FileValue) (plain : List ℕ) (at count : ℕ) → IsFrame v.frame → plain ≡ encoded (plain_of v) → at ≡ v.frame.header_size
    → count ≡ length plain - 2 - at → take count (drop at plain) ≡ encoded_items (plain_items v.items)
records_lent v plain at count frame is first long =
    let items = plain_items v.items in
    let header = encoded_header v.frame (data_size items) in
    let records = encoded_items items in
    let closing = two_bytes Little (crc (header ++ records)) in
    let whole = (encoded_is_header v.frame (data_size items) frame).whole in
    lent_there header records closing plain at count (is ∙ append_assoc header records closing) (omega (arith, first, whole))
    (omega (arith, long, first, whole, ap length is, length-append (header ++ records) closing, length-append header records))

-- they come back moved, and then the checksum
pub file_back : (shift : Shift) (v : FileValue) (plain new back sum closing : List ℕ) (at count end tail value : ℕ) → IsFrame v.frame
    → plain ≡ encoded (plain_of v) → at ≡ v.frame.header_size → end ≡ length plain - 2 → count ≡ end - at
    → new ≡ encoded_items (plain_items_moved shift v.items) → length new ≡ length (encoded_items (plain_items v.items))
    → back ≡ take at plain ++ (new ++ drop count (drop at plain)) → tail ≡ length back - end
    → sum ≡ value % 256 ∷ value / 256 % 256 ∷ [] → value < 65536 → value ≡ crc (take end back) → closing ≡ sum
    → take end back ++ (closing ++ drop tail (drop end back)) ≡ encoded (plain_of_moved shift v)
file_back shift v plain new back sum closing at count end tail value frame is first end_is long moved same back_is tail_is sum_is few value_is
    closing_sum =
    let items = plain_items v.items in
    let others = plain_items_moved shift v.items in
    let header = encoded_header v.frame (data_size items) in
    let records = encoded_items items in
    let old = two_bytes Little (crc (header ++ records)) in
    let whole = (encoded_is_header v.frame (data_size items) frame).whole in
    let sizes : length plain ≡ v.frame.header_size + length records + 2 =
    omega (arith, whole, ap length is, length-append (header ++ records) old, length-append header records) in
    let all : back ≡ header ++ (new ++ old) =
    back_is ∙ back_there header records new old plain at count (is ∙ append_assoc header records old) (omega (arith, first, whole))
    (omega (arith, long, end_is, first, sizes)) in
    let parts : back ≡ (header ++ new) ++ (old ++ []) =
    all ∙ sym (append_assoc header new old) ∙ ap (λ (l : List ℕ). (header ++ new) ++ l) (sym (append-nil old)) in
    let place : end ≡ length (header ++ new) = omega (arith, end_is, sizes, same, whole, length-append header new) in
    let two : tail ≡ length old =
    omega (arith, tail_is, place, ap length all, length-append header (new ++ old), length-append new old, length-append header new) in
    let front : take end back ≡ header ++ new = take_there (header ++ new) (old ++ []) back end parts place in
    let long_too : data_size items ≡ data_size others =
    sym (encoded_items-length items) ∙ sym same ∙ ap length moved ∙ encoded_items-length others in
    let made : closing ≡ two_bytes Little (crc (header ++ encoded_items others)) =
    closing_sum ∙ closing_is sum value sum_is few ∙ ap (two_bytes Little) value_is
    ∙ ap (λ (l : List ℕ). two_bytes Little (crc l)) (front ∙ ap (λ (l : List ℕ). header ++ l) moved) in
    back_there (header ++ new) old closing [] back end tail parts place two
    ∙ ap (λ (l : List ℕ). (header ++ new) ++ l) (append-nil closing)
    ∙ ap (λ (l : List ℕ). (header ++ l) ++ closing) moved
    ∙ ap (λ (l : List ℕ). (header ++ encoded_items others) ++ l) made
    ∙ ap (λ (n : ℕ). (encoded_header v.frame n ++ encoded_items others) ++ two_bytes Little (crc (encoded_header v.frame n ++ encoded_items others))) long_too
