-- The items of a file, passed over in the bytes that it was read from: for `find_stuck`.
use Rattle.std.proofs.Common.{◌≡◌, ℕ, ◌+◌, ◌*◌, ◌/◌, ◌%◌, ◌==◌, ◌<◌, ◌≤◌, List, [], ◌∷◌, ◌++◌, Bool, true, false, length, map, drop, Option, Some, None, refl, sym, ap, subst, ◌∙◌, arith, append_assoc, length-append, if◌then◌else◌}
use Rattle.std.specs.Prelude.{nat_lt, slice_index}
use Rattle.std.proofs.Math.Seq.{drop-append_seam}
use Rattle.std.proofs.lemmas.List.Sums.{sum_by-append}
use Rattle.fit_grammar.specs.declared.definition.Definition.{Definition}
use Rattle.fit_grammar.specs.Format.Item.{Item, DefinitionHead, DataHead, head_of, SpellsDefinition, item_size, part_size}
use Rattle.fit_grammar.specs.Format.Records.{RecordsAfter}
use Rattle.fit_grammar.specs.Format.File.{FileValue, FileOf}
use Rattle.fit_grammar.specs.Format.Refusal.{Front, IsFront}
use Rattle.fit_grammar.specs.Calls.LentItem.{LentItem, item_lent, items_lent}
use Rattle.fit_grammar.proofs.OneItem.Spelling.{definition_length, spelling_not_empty}
use Rattle.fit_grammar.proofs.Decoding.Reached.{records_more}
use Rattle.fit_shifting.specs.declared.shift.Shift.{Shift}
use Rattle.fit_shifting.specs.Stuck.{is_stuck, stuck_after, IsStuck}
use Rattle.fit_shifting.specs.Private.Read.{IsReadTo}
use Rattle.fit_shifting.proofs.PassedItems.{stuck_later, stuck_here}

-- ---- one item

announced_by : (x y b c : Bool) (k l m i : ℕ) (n o : Option ℕ)
    → (if x then DataHead k n else if y then DefinitionHead m b else DataHead i o) ≡ DefinitionHead l c → b ≡ c
announced_by true y b c k l m i n o e = cc
announced_by false true b c k l m i n o e = cc
announced_by false false b c k l m i n o e = cc

-- the first byte of a definition says whether developer fields are announced
announced : (byte l : ℕ) (c : Bool) → head_of byte ≡ DefinitionHead l c → (byte / 32 % 2 == 1) ≡ c
announced byte l c head =
    announced_by (nat_lt byte 64) (nat_lt byte 128) (byte / 32 % 2 == 1) c (byte % 16) l (byte % 16) (byte / 32 % 4) None (Some (byte % 32)) head

pub definition_read : (d : Definition) (bytes own rest : List ℕ) → bytes ≡ own ++ rest → (p : SpellsDefinition d own)
    → 6 + 3 * length d.fields.items + part_size (slice_index bytes 0 / 32 % 2 == 1) (length d.developer.items) ≡ length own
definition_read d bytes own rest joined p =
    let first : slice_index bytes 0 ≡ p.first =
    ap (λ (l : List ℕ). slice_index l 0) joined ∙ ap (λ (l : List ℕ). slice_index (l ++ rest) 0) p.laid_out in
    ap (λ (byte : ℕ). 6 + 3 * length d.fields.items + part_size (byte / 32 % 2 == 1) (length d.developer.items)) first
    ∙ ap (λ (b : Bool). 6 + 3 * length d.fields.items + part_size b (length d.developer.items)) (announced p.first d.local p.announced p.head)
    ∙ sym (definition_length d own p)

-- ---- all items

-- before the first
pub read_none : (bytes : List ℕ) (v : FileValue) (shift : Shift) (at : ℕ) (left : List LentItem) → FileOf bytes v → at ≡ v.frame.header_size
    → left ≡ items_lent v.items → map item_lent left ≡ v.items → IsReadTo bytes v shift at left
read_none bytes v shift at left file first all same = record {
  place = v.frame.header_size;
  passed = record { before = []; passed = sym same; place_is = omega arith };
  stuck = ap (stuck_after shift v.frame.header_size) all;
  file = file;
  front = [];
  rest = file.records;
  joined = refl;
  front_is = refl;
  rest_is = subst (λ (is : List Item). RecordsAfter [] file.records is) (sym same) file.are_records;
  place_is = omega (arith, first, file.is_header.whole);
}

-- the bytes from here on begin with the next one
pub own_there : (bytes : List ℕ) (v : FileValue) (shift : Shift) (at : ℕ) (item : LentItem) (left : List LentItem)
    (r : IsReadTo bytes v shift at (item ∷ left)) → drop at bytes ≡ r.rest_is.1.own ++ (r.rest_is.0 ++ r.file.closing)
own_there bytes v shift at item left r =
    let header = r.file.header in
    let closing = r.file.closing in
    let all : bytes ≡ (header ++ r.front) ++ (r.rest ++ closing) =
    r.file.joined ∙ ap (λ (l : List ℕ). (header ++ l) ++ closing) r.joined
    ∙ ap (λ (l : List ℕ). l ++ closing) (sym (append_assoc header r.front r.rest))
    ∙ append_assoc (header ++ r.front) r.rest closing in
    let long : at ≡ length (header ++ r.front) = r.place_is ∙ sym (length-append header r.front) in
    ap (λ (n : ℕ). drop n bytes) long
    ∙ ap (drop (length (header ++ r.front))) all
    ∙ drop-append_seam (header ++ r.front) (r.rest ++ closing)
    ∙ ap (λ (l : List ℕ). l ++ closing) r.rest_is.1.joined
    ∙ append_assoc r.rest_is.1.own r.rest_is.0 closing

pub own_within : (bytes : List ℕ) (v : FileValue) (shift : Shift) (at : ℕ) (item : LentItem) (left : List LentItem)
    (r : IsReadTo bytes v shift at (item ∷ left)) → at + length r.rest_is.1.own ≤ length bytes
own_within bytes v shift at item left r =
    let header = r.file.header in
    omega (
      arith,
      r.place_is,
      ap length r.file.joined,
      length-append (header ++ r.file.records) r.file.closing,
      length-append header r.file.records,
      ap length r.joined,
      length-append r.front r.rest,
      ap length r.rest_is.1.joined,
      length-append r.rest_is.1.own r.rest_is.0,
    )

pub some_left : (bytes : List ℕ) (v : FileValue) (shift : Shift) (at : ℕ) (item : LentItem) (left : List LentItem)
    → IsReadTo bytes v shift at (item ∷ left) → at < length bytes
some_left bytes v shift at item left r =
    let header = r.file.header in
    omega (
      arith,
      r.place_is,
      ap length r.file.joined,
      length-append (header ++ r.file.records) r.file.closing,
      length-append header r.file.records,
      ap length r.joined,
      length-append r.front r.rest,
      ap length r.rest_is.1.joined,
      length-append r.rest_is.1.own r.rest_is.0,
      spelling_not_empty (item_lent item) r.rest_is.1.own r.rest_is.1.spelled,
    )

-- after the next one
pub read_on : (bytes : List ℕ) (v : FileValue) (shift : Shift) (at size : ℕ) (item : LentItem) (left : List LentItem)
    (r : IsReadTo bytes v shift at (item ∷ left)) → is_stuck shift item ≡ false → size ≡ length r.rest_is.1.own
    → IsReadTo bytes v shift (at + size) left
read_on bytes v shift at size item left r free is =
    let own = r.rest_is.1.own in
    record {
      place = r.place + item_size (item_lent item);
      passed = record {
        before = r.passed.before ++ item_lent item ∷ [];
        passed = r.passed.passed ∙ sym (append_assoc r.passed.before (item_lent item ∷ []) (map item_lent left));
        place_is = omega (arith, r.passed.place_is, sum_by-append item_size r.passed.before (item_lent item ∷ []));
      };
      stuck = stuck_later shift r.place item left free ∙ r.stuck;
      file = r.file;
      front = r.front ++ own;
      rest = r.rest_is.0;
      joined = r.joined ∙ ap (λ (l : List ℕ). r.front ++ l) r.rest_is.1.joined ∙ sym (append_assoc r.front own r.rest_is.0);
      front_is = records_more [] r.front r.passed.before (item_lent item) own r.front_is r.rest_is.1.spelled r.rest_is.1.defined;
      rest_is = r.rest_is.2;
      place_is = omega (arith, r.place_is, is, length-append r.front own);
    }

-- at one that is stuck
pub stuck_read : (bytes : List ℕ) (v : FileValue) (shift : Shift) (at : ℕ) (item : LentItem) (left : List LentItem)
    → IsReadTo bytes v shift at (item ∷ left) → is_stuck shift item ≡ true → IsStuck bytes v shift at
stuck_read bytes v shift at item left r is =
    let header = r.file.header in
    let closing = r.file.closing in
    let front : Front = record {
      frame = v.frame;
      size = length r.file.records;
      header = header;
      records = r.front;
      items = r.passed.before;
    } in
    let is_front : IsFront front = record {
      is_header = r.file.is_header;
      are_records = r.front_is;
      inside = omega (arith, ap length r.joined, length-append r.front r.rest);
    } in
    let joined : bytes ≡ (header ++ r.front) ++ (r.rest ++ closing) =
    r.file.joined ∙ ap (λ (l : List ℕ). (header ++ l) ++ closing) r.joined
    ∙ ap (λ (l : List ℕ). l ++ closing) (sym (append_assoc header r.front r.rest))
    ∙ append_assoc (header ++ r.front) r.rest closing in
    record {
      written = r.place;
      stuck = sym r.stuck ∙ stuck_here shift r.place item left is;
      stood = record {
        is_item = record {
          before = r.passed.before;
          item = item_lent item;
          after = map item_lent left;
          items_are = r.passed.passed;
          place_is = r.passed.place_is;
        };
        front = front;
        rest = r.rest ++ closing;
        is_front = is_front;
        joined = joined;
        items_are = refl;
        place_is = r.place_is;
      };
    }
