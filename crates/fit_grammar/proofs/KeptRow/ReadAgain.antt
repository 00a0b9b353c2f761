-- The bytes that spell items are read as those items: for a kept definition, a row of items, and `Kept`.
use Rattle.std.proofs.Common.{◌≡◌, ℕ, Bool, true, false, zero, suc, ◌+◌, ◌*◌, ◌<◌, ◌≤◌, List, [], ◌∷◌, ◌++◌, length, take, drop, Option, Some, None, refl, sym, ap, subst, ◌∙◌, arith, append-nil, append_assoc, length-append}
use Rattle.std.specs.Prelude.{slice_index, IsSomeAnd, unwrap_or, option_map}
use Rattle.std.proofs.Math.Seq.{take-append_seam, drop-append_seam}
use Rattle.fit_grammar.specs.declared.definition.Definition.{Definition}
use Rattle.std.proofs.lemmas.List.{take-append-drop, length-take-le, length-drop}
use Rattle.fit_grammar.specs.Format.Item.{Item, Defines, Data, Head, DefinitionHead, DataHead, head_of, Spells, SpellsDefinition, content_size, item_size, part_size}
use Rattle.fit_grammar.specs.Format.Records.{in_force, IsDefinedBy, RecordsAfter}
use Rattle.fit_grammar.specs.Format.Encoding.{encoded_item, encoded_items, HasEncoding}
use Rattle.fit_grammar.specs.Private.DefinitionBytes.{definition_at, AreDefinition}
use Rattle.fit_grammar.specs.Calls.Step.{ItemAtFront, definition_length_of, length_by}
use Rattle.fit_grammar.specs.Calls.Table.{in_force_after}
use Rattle.fit_grammar.specs.Private.ByLookup.{AllDefinedBy}
use Rattle.fit_grammar.specs.Private.KeptDefinition.{IsWrittenAt}
use Rattle.fit_grammar.specs.Calls.Possible.{AllCanFollow}
use Rattle.fit_grammar.specs.Private.ItemRow.{item_by, item_at, length_or, length_at, items_at, items_under, items_in, RecordsBy, AreRead}
use Rattle.fit_grammar.proofs.OneItem.Spelling.{definition_one, definition_first, definition_count, definition_length, developer_count, spelling_not_empty}
use Rattle.fit_grammar.proofs.OneItem.Steps.{spelling_head}
use Rattle.fit_grammar.proofs.Encoder.Encoding.{encoded_spells}
use Rattle.fit_grammar.proofs.Encoder.Encoded.{encoded_item-length}
use Rattle.fit_grammar.proofs.OneItem.DefinitionRead.{own_head, definition_spelled}
use Rattle.fit_grammar.proofs.OneItem.Least.{no_bytes, ok, ok_is, least_of_item}
use Rattle.fit_grammar.proofs.KeptRow.ByLookup.{all_defined, in_force_after-in_force}

part_count : (announced : Bool) (count there : ℕ) → (announced ≡ true → there ≡ count) → part_size announced count ≡ part_size announced there
part_count false count there is = refl
part_count true count there is = ap (part_size true) (sym (is refl))

-- the bytes that spell a definition are those of one, and are read as that one
pub are_definition : (d : Definition) (bytes : List ℕ) → SpellsDefinition d bytes → AreDefinition bytes
are_definition d bytes p =
    let count = definition_count d bytes p in
    let long = definition_length d bytes p in
    record {
      announced = p.announced;
      head = own_head (slice_index bytes 0) d.local p.announced (definition_first d bytes p);
      fields = omega (arith, count, long);
      whole = rw count (long ∙ ap (λ (n : ℕ). 6 + 3 * length d.fields.items + n)
          (part_count p.announced (length d.developer.items) (slice_index bytes (6 + 3 * length d.fields.items))
          (developer_count d bytes p)));
    }

pub definition_again : (d : Definition) (bytes : List ℕ) → SpellsDefinition d bytes → definition_at bytes ≡ d
definition_again d bytes p =
    (definition_one (definition_at bytes) d bytes [] bytes [] (definition_spelled bytes (are_definition d bytes p)) p refl).1

-- an item is at the front of its bytes
pub encoded_front : (f : ℕ → Option Definition) (item : Item) (rest : List ℕ) → HasEncoding item → IsDefinedBy f item
    → ItemAtFront f (encoded_item item ++ rest) item (length (encoded_item item))
encoded_front f item rest fits defined =
    record {
      within = omega (arith, length-append (encoded_item item) rest);
      spelled = rw (take-append_seam (encoded_item item) rest) (encoded_spells item fits);
      defined = defined;
    }

size_is : (o : Option Definition) (n : ℕ) → IsSomeAnd o (λ d. content_size d ≡ n) → unwrap_or (option_map content_size o) 0 ≡ n
size_is None n h = absurd h
size_is (Some d) n h = h

-- the item that bytes begin with is read there
item_at-read : (f : ℕ → Option Definition) (bytes : List ℕ) (item : Item) (used : ℕ) → ItemAtFront f bytes item used
    → item_at f bytes ≡ item
item_at-read f [] item used at =
    absurd (omega (arith, at.within, length-take-le used no_bytes at.within, spelling_not_empty item (take used no_bytes) at.spelled))
item_at-read f (byte ∷ rest) (Defines d) used at =
    let bytes = byte ∷ rest in
    let announced = at.spelled.announced in
    let head : head_of byte ≡ DefinitionHead d.local announced =
    spelling_head (Defines d) (take used bytes) (drop used bytes) rest byte at.spelled (take-append-drop used bytes) in
    let long : ok (definition_length_of announced bytes) ≡ ok used =
    sym (ap (λ (h : Head). length_by f h bytes) head) ∙ least_of_item f bytes (Defines d) used at in
    ap (λ (h : Head). item_by f h bytes) head
    ∙ ap (λ (n : ℕ). Defines (definition_at (take n bytes))) (ok_is (definition_length_of announced bytes) used long)
    ∙ ap (λ (c : Definition). Defines c) (definition_again d (take used bytes) at.spelled)
item_at-read f (byte ∷ rest) (Data local offset content) used at =
    let bytes = byte ∷ rest in
    let head : head_of byte ≡ DataHead local offset =
    spelling_head (Data local offset content) (take used bytes) (drop used bytes) rest byte at.spelled (take-append-drop used bytes) in
    let used_is : suc (length content) ≡ used = omega (arith, length-take-le used bytes at.within, ap length at.spelled.laid_out) in
    let own : take (suc (length content)) bytes ≡ at.spelled.first ∷ content = ap (λ (n : ℕ). take n bytes) used_is ∙ at.spelled.laid_out in
    ap (λ (h : Head). item_by f h bytes) head
    ∙ ap (λ (n : ℕ). Data local offset (take n rest)) (size_is (f local) (length content) at.defined)
    ∙ ap (λ (c : List ℕ). Data local offset (drop 1 c)) own

length_at-read : (f : ℕ → Option Definition) (bytes : List ℕ) (item : Item) (used : ℕ) → ItemAtFront f bytes item used
    → length_at f bytes ≡ used
length_at-read f bytes item used at = ap (length_or 1) (least_of_item f bytes item used at)

items_at-first : (n : ℕ) (f : ℕ → Option Definition) (bytes : List ℕ) → 1 ≤ length bytes
    → items_at (suc n) f bytes ≡ item_at f bytes ∷ items_at n (in_force_after (item_at f bytes) f) (drop (length_at f bytes) bytes)
items_at-first n f [] some = absurd (omega arith)
items_at-first n f (byte ∷ bytes) some = refl

front_some : (f : ℕ → Option Definition) (bytes : List ℕ) (item : Item) (used : ℕ) → ItemAtFront f bytes item used
    → (1 ≤ used) × (used ≤ length bytes)
front_some f bytes item used at =
    let own = length-take-le used bytes at.within in
    (omega (arith, own, spelling_not_empty item (take used bytes) at.spelled), at.within)

-- so are items, one after another
items_at-read : (n : ℕ) (f : ℕ → Option Definition) (bytes : List ℕ) (items : List Item) → RecordsBy f bytes items
    → length bytes ≤ n → items_at n f bytes ≡ items
items_at-read zero f bytes [] r le = refl
items_at-read (suc n) f bytes [] r le = ap (items_at (suc n) f) r
items_at-read zero f bytes (item ∷ items) r le = absurd (omega (arith, front_some f bytes item r.0 r.1))
items_at-read (suc n) f bytes (item ∷ items) r le =
    let some = front_some f bytes item r.0 r.1 in
    items_at-first n f bytes (omega (arith, some.0, some.1))
    ∙ ap (λ (i : Item). i ∷ items_at n (in_force_after i f) (drop (length_at f bytes) bytes)) (item_at-read f bytes item r.0 r.1)
    ∙ ap (λ (k : ℕ). item ∷ items_at n (in_force_after item f) (drop k bytes)) (length_at-read f bytes item r.0 r.1)
    ∙ ap (λ (l : List Item). item ∷ l) (items_at-read n (in_force_after item f) (drop r.0 bytes) items r.2
    (omega (arith, some.0, some.1, length-drop r.0 bytes)))

pub items_under-read : (f : ℕ → Option Definition) (bytes : List ℕ) (items : List Item) → RecordsBy f bytes items
    → items_under f bytes ≡ items
items_under-read f bytes items r = items_at-read (length bytes) f bytes items r (omega arith)

pub are_read : (f : ℕ → Option Definition) (bytes : List ℕ) (items : List Item) → RecordsBy f bytes items → AreRead f bytes
are_read f bytes items r = subst (RecordsBy f bytes) (sym (items_under-read f bytes items r)) r

-- the records of a file are such bytes
pub records_by : (before : List Item) (bytes : List ℕ) (items : List Item) → RecordsAfter before bytes items
    → RecordsBy (in_force before) bytes items
records_by before bytes [] r = r
records_by before bytes (item ∷ items) r =
    let own = r.1.own in
    let front : take (length own) bytes ≡ own = ap (take (length own)) r.1.joined ∙ take-append_seam own r.0 in
    let rest : drop (length own) bytes ≡ r.0 = ap (drop (length own)) r.1.joined ∙ drop-append_seam own r.0 in (
      length own,
      record {
        within = omega (arith, ap length r.1.joined, length-append own r.0);
        spelled = subst (Spells item) (sym front) r.1.spelled;
        defined = r.1.defined;
      },
      subst (λ (b : List ℕ). RecordsBy (in_force_after item (in_force before)) b items) (sym rest)
          (subst (λ (f : ℕ → Option Definition). RecordsBy f r.0 items) (sym (in_force_after-in_force before item))
          (records_by (before ++ item ∷ []) r.0 items r.2)),
    )

-- and so are the bytes that items are written as
pub encoded_by : (f : ℕ → Option Definition) (items : List Item) → AllDefinedBy f items → RecordsBy f (encoded_items items) items
encoded_by f [] a = refl
encoded_by f (item ∷ items) a =
    let own = encoded_item item in
    let others = encoded_items items in (
      length own,
      encoded_front f item others a.0 a.1,
      subst (λ (b : List ℕ). RecordsBy (in_force_after item f) b items) (sym (drop-append_seam own others)) (encoded_by (in_force_after item f) items a.2),
    )

-- so the bytes that a file keeps are read
pub written_read : (records : List ℕ) → encoded_items (items_in records) ≡ records → AllCanFollow [] (items_in records)
    → AreRead (in_force []) records
written_read records written follow =
    subst (λ (b : List ℕ). RecordsBy (in_force []) b (items_in records)) written
    (encoded_by (in_force []) (items_in records) (all_defined [] (items_in records) follow))

-- the bytes of one more item
pub encoded_items-push : (items : List Item) (item : Item) → encoded_items (items ++ item ∷ []) ≡ encoded_items items ++ encoded_item item
encoded_items-push [] item = append-nil (encoded_item item)
encoded_items-push (first ∷ items) item =
    ap (λ (bytes : List ℕ). encoded_item first ++ bytes) (encoded_items-push items item)
    ∙ sym (append_assoc (encoded_item first) (encoded_items items) (encoded_item item))

-- are read as one more item
pub items_in-push : (records : List ℕ) (item : Item) → encoded_items (items_in records) ≡ records
    → AllCanFollow [] (items_in records ++ item ∷ [])
    → items_in (records ++ encoded_item item) ≡ items_in records ++ item ∷ []
items_in-push records item written follow =
    let items = items_in records ++ item ∷ [] in
    ap (λ (bytes : List ℕ). items_in (bytes ++ encoded_item item)) (sym written)
    ∙ ap items_in (sym (encoded_items-push (items_in records) item))
    ∙ items_under-read (in_force []) (encoded_items items) items (encoded_by (in_force []) items (all_defined [] items follow))

-- the bytes of a definition before others
pub written_front : (d : Definition) (bytes rest : List ℕ) (len : ℕ) → d.local < 16
    → bytes ≡ encoded_item (Defines d) ++ rest → len ≡ item_size (Defines d)
    → IsWrittenAt bytes len × (definition_at (take len bytes) ≡ d)
written_front d bytes rest len small joined len_is =
    let own = encoded_item (Defines d) in
    let whole : length own ≡ len = omega (arith, encoded_item-length (Defines d), len_is) in
    let front : take len bytes ≡ own =
    ap (λ (n : ℕ). take n bytes) (sym whole) ∙ ap (λ (b : List ℕ). take (length own) b) joined ∙ take-append_seam own rest in
    let again : definition_at (take len bytes) ≡ d = ap definition_at front ∙ definition_again d own (encoded_spells (Defines d) small) in (
      record {
        within = omega (arith, whole, ap length joined, length-append own rest);
        local = subst (λ (c : Definition). c.local < 16) (sym again) small;
        written = front ∙ ap (λ (c : Definition). encoded_item (Defines c)) (sym again);
      },
      again,
    )

pub written_definition : (d : Definition) (bytes : List ℕ) → d.local < 16 → bytes ≡ encoded_item (Defines d) → AreDefinition bytes
written_definition d bytes small written = are_definition d bytes (rw written (encoded_spells (Defines d) small))
