-- The plain form of a file, as it grows with each item that is taken: for `plain_file`.
use Rattle.std.proofs.Common.{◌≡◌, ◌<◌, ◌≤◌, ◌^◌, ℕ, ◌+◌, List, [], ◌∷◌, ◌++◌, Bool, false, true, length, map, Option, Some, None, refl, sym, ap, subst, ◌∙◌, arith, append_assoc, append-nil, inl, inr}
use Rattle.std.specs.Prelude.{slice_set, is_some, if◌then◌else◌}
use Rattle.std.specs.List.{AllByRecursion}
use Rattle.std.proofs.lemmas.List.{length-set, get_or-replicate, get_or_past}
use Rattle.std.proofs.lemmas.Bool.{cases_lt}
use Rattle.std.proofs.lemmas.Option.{none-some, same_Some}
use Rattle.std.proofs.lemmas.List.Sums.{sum_by-append, sum_by-cons}
use Rattle.fit_grammar.specs.declared.definition.Definition.{Definition}
use Rattle.fit_grammar.specs.declared.plain.fault.PlainFaultKind.{PlainFaultKind}
use Rattle.fit_grammar.specs.declared.plain.fault.PlainFaultKind.TheVariants.{TooLong, Memory}
use Rattle.fit_grammar.specs.Format.Item.{Item, Defines, item_size}
use Rattle.fit_grammar.specs.Format.Records.{in_force, data_size}
use Rattle.fit_grammar.specs.Format.File.{FileValue}
use Rattle.fit_grammar.specs.Format.Message.{messages_of}
use Rattle.fit_grammar.specs.Calls.Possible.{CanBeFile}
use Rattle.fit_grammar.specs.Calls.Table.{in_force_after}
use Rattle.fit_grammar.specs.Calls.LentItem.{LentItem, DefinesHere, DataHere, item_lent, items_lent, AllUnder}
use Rattle.fit_grammar.specs.Calls.PlainForm.{plain_item, plain_data, plain_content, definitions_before, is_timed, timed_after, none_timed, plain_after, plain_items, IsPlain, is_too_long, too_long_after, too_long_at, IsItemPlace, IsRefusedAt}
use Rattle.fit_grammar.specs.Private.PlainSoFar.{PlainSoFar, AreTimed, IsReady}
use Rattle.fit_grammar.proofs.Decoding.Reached.{some_bytes}
use Rattle.fit_grammar.proofs.KeptRow.Lent.{lent_messages, lent_under}
use Rattle.fit_grammar.proofs.PlainForm.Messages.{same_messages}
use Rattle.fit_grammar.proofs.PlainForm.Unchanged.{unchanged}
use Rattle.fit_grammar.proofs.PlainForm.Timed.{AreNamed, timed-definition, named_after, timed-before, timed-data, here_timed}

-- what is known of the definitions
record Knows (items : List Item) (timed : List Bool) (left : List LentItem) : Type 0 where
  definition_for : ℕ → Option Definition
  under : AllUnder definition_for left
  named : AreNamed definition_for
  are_timed : AreTimed definition_for timed items
  count : length timed ≡ 16

knows_more : (items : List Item) (timed : List Bool) (item : LentItem) (left : List LentItem) → Knows items timed (item ∷ left)
    → Knows (items ++ plain_item timed item) (timed_after timed item) left
knows_more items timed (DefinesHere d) left k = record {
  definition_for = in_force_after (Defines d) k.definition_for;
  under = k.under.1;
  named = named_after k.definition_for d k.named;
  are_timed = timed-definition k.definition_for timed items d (omega (arith, k.under.0, k.count)) k.are_timed;
  count = length-set timed d.local false ∙ k.count;
}
knows_more items timed (DataHere m) left k =
    let needs = is_some m.time in
    let set = slice_set timed m.local needs in
    let first = definitions_before (is_timed timed m.local) needs m.definition in
    let prepared = timed-before k.definition_for timed items m.definition m.local (is_timed timed m.local) needs
    (omega (arith, k.under.0, k.count)) (k.named m.local m.definition k.under.1) k.under.1 refl k.are_timed in
    record {
      definition_for = k.definition_for;
      under = k.under.2;
      named = k.named;
      are_timed = subst (λ (is : List Item). AreTimed k.definition_for set is) (append_assoc items first (plain_data m ∷ []))
          (timed-data k.definition_for set (items ++ first) m.local None (plain_content m) prepared);
      count = length-set timed m.local needs ∙ k.count;
    }

-- the next item can be taken
pub is_ready : (v : FileValue) (items : List Item) (timed : List Bool) (place : ℕ) (item : LentItem) (left : List LentItem)
    → PlainSoFar v items timed place (item ∷ left) → IsReady items timed item
is_ready v items timed place (DefinesHere d) left p = p.under.0
is_ready v items timed place (DataHere m) left p = (
  p.under.0,
  p.named m.local m.definition p.under.1,
  λ is. here_timed p.definition_for timed items m.definition m.local (is_some m.time) p.are_timed p.under.1 is,
)

pub goes_on : (v : FileValue) (items : List Item) (timed : List Bool) (place : ℕ) (item : LentItem) (left : List LentItem)
    → PlainSoFar v items timed place (item ∷ left) → is_too_long (data_size items) (plain_item timed item) ≡ false
    → PlainSoFar v (items ++ plain_item timed item) (timed_after timed item) (place + item_size (item_lent item)) left
goes_on v items timed place item left p fits =
    let own = plain_item timed item in
    let others = plain_after (timed_after timed item) left in
    let long : ℕ → Option ℕ = λ size. too_long_after (timed_after timed item) size (place + item_size (item_lent item)) left in
    let k = knows_more items timed item left (record {
      definition_for = p.definition_for;
      under = p.under;
      named = p.named;
      are_timed = p.are_timed;
      count = p.count;
    }) in
    record {
      definition_for = k.definition_for;
      under = k.under;
      named = k.named;
      are_timed = k.are_timed;
      count = k.count;
      made = append_assoc items own others ∙ p.made;
      long = ap long (sum_by-append item_size items own)
          ∙ sym (ap (λ (b : Bool). if b then Some place else long (data_size items + data_size own)) fits) ∙ p.long;
      before = p.before ++ item_lent item ∷ [];
      passed = p.passed ∙ sym (append_assoc p.before (item_lent item ∷ []) (map item_lent left));
      place_is = omega (arith, p.place_is, sum_by-append item_size p.before (item_lent item ∷ []));
    }

-- ---- from the first item to the last

no_flag : (l : ℕ) → is_timed none_timed l ≡ false
no_flag l =
    elim (cases_lt l 16) [
      | inl lt ↦ get_or-replicate 16 l false false lt
      | inr le ↦ get_or_past none_timed l false le
    ]

none_named : AreNamed (in_force [])
none_named l d e = absurd (none-some d e)

-- before the first item
start : (v : FileValue) → AllUnder (in_force []) (items_lent v.items) → map item_lent (items_lent v.items) ≡ v.items
    → PlainSoFar v [] none_timed v.frame.header_size (items_lent v.items)
start v under same = record {
  definition_for = in_force [];
  under = under;
  named = none_named;
  are_timed = λ l. refl;
  count = refl;
  made = refl;
  long = refl;
  before = [];
  passed = sym same;
  place_is = omega arith;
}

pub started : (v : FileValue) (items : List Item) (timed : List Bool) (place : ℕ) (left : List LentItem) → items ≡ [] → timed ≡ none_timed
    → place ≡ v.frame.header_size → left ≡ items_lent v.items → AllUnder (in_force []) left → map item_lent left ≡ v.items
    → PlainSoFar v items timed place left
started v items timed place left none flags first all under same =
    rw (none, flags, first, all) (start v (rw all at under) (rw all at same))

-- after the next item
pub went_on : (v : FileValue) (items new : List Item) (timed flags : List Bool) (place : ℕ) (item : LentItem) (left : List LentItem)
    → PlainSoFar v items timed place (item ∷ left) → is_too_long (data_size items) (plain_item timed item) ≡ false
    → new ≡ items ++ plain_item timed item → flags ≡ timed_after timed item
    → PlainSoFar v new flags (place + item_size (item_lent item)) left
went_on v items new timed flags place item left p fits added set = rw (added, set) (goes_on v items timed place item left p fits)

-- at an item that is too long
stopped : (v : FileValue) (items : List Item) (timed : List Bool) (place : ℕ) (item : LentItem) (left : List LentItem)
    → PlainSoFar v items timed place (item ∷ left) → is_too_long (data_size items) (plain_item timed item) ≡ true
    → too_long_at v ≡ Some place
stopped v items timed place item left p long =
    sym p.long
    ∙ ap (λ (b : Bool). if b then Some place else too_long_after (timed_after timed item)
    (data_size items + data_size (plain_item timed item)) (place + item_size (item_lent item)) left) long

-- its place
pub stands_at : (v : FileValue) (items : List Item) (timed : List Bool) (place : ℕ) (item : LentItem) (left : List LentItem)
    → PlainSoFar v items timed place (item ∷ left) → IsItemPlace v place
stands_at v items timed place item left p = record {
  before = p.before;
  item = item_lent item;
  after = map item_lent left;
  items_are = p.passed;
  place_is = p.place_is;
}

pub has_room : (v : FileValue) (items : List Item) (timed : List Bool) (place : ℕ) (item : LentItem) (left : List LentItem)
    → PlainSoFar v items timed place (item ∷ left) → CanBeFile v → place + item_size (item_lent item) < 2 ^ 33
has_room v items timed place item left p can =
    let all : data_size v.items ≡ data_size p.before + data_size (item_lent item ∷ map item_lent left) =
    ap data_size p.passed ∙ sum_by-append item_size p.before (item_lent item ∷ map item_lent left) in
    let own = sum_by-cons item_size (item_lent item) (map item_lent left) in
    elim can.is_frame.size [
      | inl e ↦ omega (arith, e, p.place_is, all, own, can.bound)
      | inr e ↦ omega (arith, e, p.place_is, all, own, can.bound)
    ]

-- ---- the first item that is too long comes after those that are not

later : (timed : List Bool) (size place : ℕ) (items : List LentItem) (at : ℕ) → too_long_after timed size place items ≡ Some at → place ≤ at
later timed size place [] at e = absurd (none-some at e)
later timed size place (item ∷ items) at e =
    let own = plain_item timed item in
    let next = place + item_size (item_lent item) in
    let others = too_long_after (timed_after timed item) (size + data_size own) next items in
    let in_force_after : others ≡ Some at → next ≤ at = λ f. later (timed_after timed item) (size + data_size own) next items at f in
    (elim (is_too_long size own) as (λ b. (if b then Some place else others) ≡ Some at → place ≤ at) [
      | true ↦ λ f. omega (arith, same_Some place at f)
      | false ↦ λ f. omega (arith, in_force_after f)
    ]) e

before_long : (v : FileValue) (items : List Item) (timed : List Bool) (place : ℕ) (item : LentItem) (left : List LentItem)
    → PlainSoFar v items timed place (item ∷ left) → is_too_long (data_size items) (plain_item timed item) ≡ false
    → (at : ℕ) → too_long_at v ≡ Some at → place < at
before_long v items timed place item left p fits at e =
    let flags = timed_after timed item in
    let size = data_size items + data_size (plain_item timed item) in
    let next = place + item_size (item_lent item) in
    let here : too_long_after flags size next left ≡ Some at =
    sym (ap (λ (b : Bool). if b then Some place else too_long_after flags size next left) fits) ∙ p.long ∙ e in
    omega (arith, later flags size next left at here, some_bytes (item_lent item))

-- at an item that is refused
pub refused : (v : FileValue) (items : List Item) (timed : List Bool) (place : ℕ) (item : LentItem) (left : List LentItem)
    (kind : PlainFaultKind) → PlainSoFar v items timed place (item ∷ left)
    → (kind ≡ TooLong → is_too_long (data_size items) (plain_item timed item) ≡ true)
    → (kind ≡ Memory → is_too_long (data_size items) (plain_item timed item) ≡ false) → IsRefusedAt v kind place
refused v items timed place item left TooLong p long fits = stopped v items timed place item left p (long refl)
refused v items timed place item left Memory p long fits = before_long v items timed place item left p (fits refl)

-- after the last item
pub ended : (v : FileValue) (items : List Item) (timed : List Bool) (place : ℕ) → PlainSoFar v items timed place [] → items ≡ plain_items v.items
ended v items timed place p = sym (append-nil items) ∙ p.made

pub fitted : (v : FileValue) (items : List Item) (timed : List Bool) (place : ℕ) → PlainSoFar v items timed place [] → too_long_at v ≡ None
fitted v items timed place p = sym p.long

-- so it encodes the messages, and is the file itself if nothing is compressed
pub states : (v : FileValue) → CanBeFile v → messages_of (plain_items v.items) ≡ messages_of v.items
states v can =
    same_messages (in_force []) none_timed [] 0 (items_lent v.items) none_named (lent_under [] 0 v.items can.items_follow) refl (λ l. refl)
    ∙ lent_messages [] 0 v.items

pub stays : (v : FileValue) → CanBeFile v → AllByRecursion IsPlain v.items → plain_items v.items ≡ v.items
stays v can plain = unchanged none_timed [] 0 v.items no_flag can.items_follow plain
