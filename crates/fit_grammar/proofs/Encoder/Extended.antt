-- A file with more items around its own, as it is written: for `encode_extended`, `encode_file_extended` and what they call.
use Rattle.std.proofs.Common.{◌≡◌, ℕ, ◌+◌, List, [], ◌∷◌, ◌++◌, length, map, Option, Result, Ok, Err, sym, ap, ◌∙◌, append_assoc, append-nil, arith}
use Rattle.std.specs.List.{AllByRecursion}
use Rattle.std.specs.Result.{IsErr}
use Rattle.std.proofs.lemmas.Grind.{flat_map-append}
use Rattle.std.proofs.lemmas.List.Sums.{sum_by-append}
use Rattle.fit_base.specs.Checksum.{crc}
use Rattle.fit_base.specs.declared.order.Arch.TheVariants.{Little}
use Rattle.fit_grammar.specs.declared.file.frame.Frame.{Frame}
use Rattle.fit_grammar.specs.Format.Item.{Item, item_size}
use Rattle.fit_grammar.specs.Format.Records.{data_size}
use Rattle.fit_grammar.specs.Format.Encoding.{encoded_item, encoded_items, encoded_header, two_bytes, with_checksum, encoded, HasEncoding}
use Rattle.fit_grammar.specs.Format.File.{FileValue}
use Rattle.fit_grammar.specs.Calls.Extended.{with_items}
use Rattle.fit_grammar.specs.Calls.LentItem.{LentItem, item_lent}
use Rattle.fit_grammar.specs.Calls.Possible.{AllCanFollow}
use Rattle.fit_grammar.specs.Calls.CheckedOutput.{WritesChecked}
use Rattle.fit_grammar.specs.Private.ItemsWritten.{ItemsWritten}
use Rattle.fit_grammar.proofs.Encoder.Checked.{then_checked, stops_checked, checked_same}
use Rattle.fit_grammar.proofs.Encoder.Encoded.{encoded_items-length}
use Rattle.fit_grammar.proofs.PlainForm.Written.{checked_ok, checked_none}

-- each item of a file has an encoding
pub all_encodable : (before items : List Item) → AllCanFollow before items → AllByRecursion HasEncoding items
all_encodable before [] h = tt
all_encodable before (item ∷ items) h = (h.0.encodable, all_encodable (before ++ item ∷ []) items h.1)

-- before the first item
pub items_first : (o : Option (List ℕ)) (before : ℕ) (items : List Item) (left : List LentItem)
    → map item_lent left ≡ items → AllByRecursion HasEncoding (map item_lent left) → ItemsWritten items o o before before left
items_first o before items left are encodable =
    record { made = []; parts = sym are; encodable = encodable; written = checked_none o before tt }

joined : (made more : List Item) → encoded_items made ++ encoded_items more ≡ encoded_items (made ++ more)
joined made more = sym (flat_map-append encoded_item made more)

pushed : (made : List Item) (item : Item) → encoded_items made ++ encoded_item item ≡ encoded_items (made ++ item ∷ [])
pushed made item = ap (λ (l : List ℕ). encoded_items made ++ l) (sym (append-nil (encoded_item item))) ∙ joined made (item ∷ [])

-- after the next one
pub items_next : {E : Type 0} (items : List Item) (o m n : Option (List ℕ)) (before middle after : ℕ) (item : LentItem) (left : List LentItem)
    → ItemsWritten items o m before middle (item ∷ left)
    → WritesChecked {T = Unit {0}} {E = E} m n middle after (Ok tt) (encoded_item (item_lent item))
    → ItemsWritten items o n before after left
items_next items o m n before middle after item left w h = record {
  made = w.made ++ item_lent item ∷ [];
  parts = w.parts ∙ sym (append_assoc w.made (item_lent item ∷ []) (map item_lent left));
  encodable = w.encodable.1;
  written = checked_same (checked_ok (then_checked w.written h)) (pushed w.made (item_lent item));
}

-- or if it was not written
pub items_off : {E F T : Type 0} {r : Result T F} {e : E} (items : List Item) (o m n : Option (List ℕ)) (before middle after : ℕ)
    → (item : LentItem) (left : List LentItem) → IsErr r → ItemsWritten items o m before middle (item ∷ left)
    → WritesChecked {T = Unit {0}} {E = E} m n middle after (Err e) (encoded_item (item_lent item))
    → WritesChecked o n before after r (encoded_items items)
items_off items o m n before middle after item left bad w h =
    let rest = map item_lent left in
    checked_same (then_checked w.written (stops_checked bad h after (encoded_items rest)))
    (joined w.made (item_lent item ∷ rest) ∙ ap encoded_items (sym w.parts))

-- at the end
pub items_all : {E : Type 0} (items : List Item) (o n : Option (List ℕ)) (before after : ℕ) (left : List LentItem)
    → left ≡ [] → ItemsWritten items o n before after left
    → WritesChecked {T = Unit {0}} {E = E} o n before after (Ok tt) (encoded_items items)
items_all items o n before after left none w =
    let all : w.made ≡ items = sym (w.parts ∙ ap (λ (l : List LentItem). w.made ++ map item_lent l) none ∙ append-nil w.made) in
    checked_same (checked_ok w.written) (ap encoded_items all)

-- the parts that are written one after another
pub extended_whole : (v : FileValue) (frame : Frame) (size : ℕ) (before after : List ℕ) (first last : List Item)
    → frame ≡ v.frame → size ≡ length before + data_size v.items + length after → before ≡ encoded_items first → after ≡ encoded_items last
    → (encoded_header frame size ++ before)
    ++ (encoded_items v.items ++ (after ++ two_bytes Little (crc (((encoded_header frame size ++ before) ++ encoded_items v.items) ++ after))))
    ≡ encoded (with_items first v last)
extended_whole v frame size before after first last frame_is size_is before_is after_is =
    let header = encoded_header frame size in
    let own = encoded_items v.items in
    let items = first ++ (v.items ++ last) in
    let closing = two_bytes Little (crc (((header ++ before) ++ own) ++ after)) in
    let whole : size ≡ data_size items =
    omega (
      arith,
      size_is,
      ap length before_is,
      ap length after_is,
      encoded_items-length first,
      encoded_items-length last,
      sum_by-append item_size first (v.items ++ last),
      sum_by-append item_size v.items last,
    ) in
    let body : ((header ++ before) ++ own) ++ after ≡ encoded_header v.frame (data_size items) ++ encoded_items items =
    append_assoc (header ++ before) own after ∙ append_assoc header before (own ++ after)
    ∙ ap (λ (f : Frame). encoded_header f size ++ (before ++ (own ++ after))) frame_is
    ∙ ap (λ (n : ℕ). encoded_header v.frame n ++ (before ++ (own ++ after))) whole
    ∙ ap (λ (l : List ℕ). encoded_header v.frame (data_size items) ++ (l ++ (own ++ after))) before_is
    ∙ ap (λ (l : List ℕ). encoded_header v.frame (data_size items) ++ (encoded_items first ++ (own ++ l))) after_is
    ∙ ap (λ (l : List ℕ). encoded_header v.frame (data_size items) ++ (encoded_items first ++ l)) (joined v.items last)
    ∙ ap (λ (l : List ℕ). encoded_header v.frame (data_size items) ++ l) (joined first (v.items ++ last)) in
    sym (append_assoc (header ++ before) own (after ++ closing)) ∙ sym (append_assoc ((header ++ before) ++ own) after closing)
    ∙ ap with_checksum body
