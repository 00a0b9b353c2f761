-- A plain form that is written item by item: for `put_items` and what it calls.
use Rattle.std.proofs.Common.{◌≡◌, ℕ, List, [], ◌∷◌, ◌++◌, Bool, true, false, ◌||◌, Option, Result, Ok, Err, refl, sym, ap, ◌∙◌, append_assoc, append-nil}
use Rattle.std.proofs.lemmas.Grind.{flat_map-append}
use Rattle.std.proofs.lemmas.List.Folds.{list_any-append}
use Rattle.std.specs.List.{list_any}
use Rattle.std.specs.Result.{IsErr, IsErrAnd}
use Rattle.fit_base.proofs.Register.{crc_from-nil}
use Rattle.fit_grammar.specs.declared.definition.Definition.{Definition}
use Rattle.fit_grammar.specs.Format.Item.{Item, Defines}
use Rattle.fit_grammar.specs.Format.Records.{in_force}
use Rattle.fit_grammar.specs.Format.Encoding.{encoded_item, encoded_items}
use Rattle.fit_grammar.specs.Calls.LentItem.{LentItem, DefinesHere, DataHere, items_lent, AllUnder}
use Rattle.fit_grammar.specs.Calls.PlainForm.{has_too_many_fields, definitions_before, plain_item, plain_after, plain_items, timed_after, none_timed}
use Rattle.fit_grammar.specs.declared.plain.writing.WritePlainFault.{WritePlainFault}
use Rattle.fit_grammar.specs.declared.plain.writing.WritePlainFault.TheVariants.{TooLong, Write}
use Rattle.fit_grammar.specs.Calls.PlainWriting.{JudgesFields}
use Rattle.fit_grammar.specs.Calls.Table.{in_force_after}
use Rattle.fit_grammar.specs.Calls.CheckedOutput.{WritesChecked}
use Rattle.fit_grammar.specs.Private.PlainWritten.{IsWritable, WrittenTo}
use Rattle.fit_grammar.proofs.Encoder.Checked.{then_checked, stops_checked, checked_same}
use Rattle.fit_grammar.proofs.Encoder.Output.{writes_none, text_ok}
use Rattle.fit_grammar.proofs.PlainForm.Timed.{named_after}

pub none_before : (has needs : Bool) (d : Definition) → has ≡ needs → definitions_before has needs d ≡ []
none_before true true d is = refl
none_before false false d is = refl
none_before true false d is = cc
none_before false true d is = cc

pub checked_ok : {T E S F : Type 0} {o n : Option (List ℕ)} {before after : ℕ} {x : T} {y : S} {text : List ℕ}
    → WritesChecked {T = T} {E = E} o n before after (Ok x) text → WritesChecked {T = S} {E = F} o n before after (Ok y) text
checked_ok h = record { writes = text_ok h.writes; checksum = h.checksum }

-- at first nothing was written
pub checked_none : {T E : Type 0} (o : Option (List ℕ)) (before : ℕ) (x : T) → WritesChecked {T = T} {E = E} o o before before (Ok x) []
checked_none o before x = record { writes = writes_none o x; checksum = sym (crc_from-nil before) }

-- before the first item
pub written_first : (o : Option (List ℕ)) (before : ℕ) (items : List Item) (left : List LentItem) (timed : List Bool)
    → left ≡ items_lent items → AllUnder (in_force []) left → timed ≡ none_timed
    → WrittenTo (plain_items items) o o before before timed left
written_first o before items left timed are under none = record {
  definition_for = in_force [];
  under = under;
  named = λ l d is. cc;
  made = [];
  few = refl;
  parts = ap (λ (l : List LentItem). plain_after none_timed l) (sym are) ∙ ap (λ (t : List Bool). plain_after t left) (sym none);
  written = checked_none o before tt;
}

-- the next item can be written
pub written_ready : (items : List Item) (o n : Option (List ℕ)) (before after : ℕ) (timed : List Bool) (item : LentItem)
    → (left : List LentItem) → WrittenTo items o n before after timed (item ∷ left) → IsWritable item
written_ready items o n before after timed (DefinesHere d) left w = w.under.0
written_ready items o n before after timed (DataHere m) left w = let under = w.under in (under.0, w.named m.local m.definition under.1)

-- the items after it
abbrev pub rest_of : List Bool → LentItem → List LentItem → List Item
rest_of timed item left = plain_after (timed_after timed item) left

parts_more : (items made : List Item) (timed : List Bool) (item : LentItem) (left : List LentItem)
    → items ≡ made ++ plain_after timed (item ∷ left) → items ≡ (made ++ plain_item timed item) ++ rest_of timed item left
parts_more items made timed item left is = is ∙ sym (append_assoc made (plain_item timed item) (rest_of timed item left))

few_more : (made more : List Item) → list_any has_too_many_fields made ≡ false → list_any has_too_many_fields more ≡ false
    → list_any has_too_many_fields (made ++ more) ≡ false
few_more made more h k =
    list_any-append has_too_many_fields made more ∙ ap (λ (b : Bool). b || list_any has_too_many_fields more) h ∙ k

many_more : (made more after : List Item) → list_any has_too_many_fields made ≡ false → list_any has_too_many_fields more ≡ true
    → list_any has_too_many_fields (made ++ (more ++ after)) ≡ true
many_more made more after h k =
    list_any-append has_too_many_fields made (more ++ after) ∙ ap (λ (b : Bool). b || list_any has_too_many_fields (more ++ after)) h
    ∙ list_any-append has_too_many_fields more after ∙ ap (λ (b : Bool). b || list_any has_too_many_fields after) k

joined : (made more : List Item) → encoded_items made ++ encoded_items more ≡ encoded_items (made ++ more)
joined made more = sym (flat_map-append encoded_item made more)

-- after it was written
pub written_next : {E : Type 0} (items : List Item) (o m n : Option (List ℕ)) (before middle after : ℕ) (timed after_it : List Bool)
    → (item : LentItem) (left : List LentItem) → WrittenTo items o m before middle timed (item ∷ left)
    → WritesChecked {T = Unit {0}} {E = E} m n middle after (Ok tt) (encoded_items (plain_item timed item))
    → after_it ≡ timed_after timed item → list_any has_too_many_fields (plain_item timed item) ≡ false
    → WrittenTo items o n before after after_it left
written_next items o m n before middle after timed after_it (DefinesHere d) left w h flags few =
    let under = w.under in
    record {
      definition_for = in_force_after (Defines d) w.definition_for;
      under = under.1;
      named = named_after w.definition_for d w.named;
      made = w.made ++ plain_item timed (DefinesHere d);
      few = few_more w.made (plain_item timed (DefinesHere d)) w.few few;
      parts = parts_more items w.made timed (DefinesHere d) left w.parts
          ∙ ap (λ (t : List Bool). (w.made ++ plain_item timed (DefinesHere d)) ++ plain_after t left) (sym flags);
      written = checked_same (checked_ok (then_checked w.written h)) (joined w.made (plain_item timed (DefinesHere d)));
    }
written_next items o m n before middle after timed after_it (DataHere d) left w h flags few =
    let under = w.under in
    record {
      definition_for = w.definition_for;
      under = under.2;
      named = w.named;
      made = w.made ++ plain_item timed (DataHere d);
      few = few_more w.made (plain_item timed (DataHere d)) w.few few;
      parts = parts_more items w.made timed (DataHere d) left w.parts
          ∙ ap (λ (t : List Bool). (w.made ++ plain_item timed (DataHere d)) ++ plain_after t left) (sym flags);
      written = checked_same (checked_ok (then_checked w.written h)) (joined w.made (plain_item timed (DataHere d)));
    }

-- or was not
pub written_off : {E F T : Type 0} {r : Result T F} {e : E} (items : List Item) (o m n : Option (List ℕ)) (before middle after : ℕ)
    → (timed : List Bool) (item : LentItem) (left : List LentItem) → IsErr r → WrittenTo items o m before middle timed (item ∷ left)
    → WritesChecked {T = Unit {0}} {E = E} m n middle after (Err e) (encoded_items (plain_item timed item))
    → WritesChecked o n before after r (encoded_items items)
written_off items o m n before middle after timed item left bad w h =
    let more = plain_item timed item ++ rest_of timed item left in
    checked_same (then_checked w.written (stops_checked bad h after (encoded_items (rest_of timed item left))))
    (ap (λ (l : List ℕ). encoded_items w.made ++ l) (joined (plain_item timed item) (rest_of timed item left))
    ∙ joined w.made more ∙ ap encoded_items (sym w.parts))

-- the fields of the items judge the whole form as they judge those of this item
pub fields_off : {F : Type 0} (items : List Item) (o m : Option (List ℕ)) (before middle : ℕ) (timed : List Bool) (item : LentItem)
    → (left : List LentItem) (fault : WritePlainFault F) → WrittenTo items o m before middle timed (item ∷ left)
    → JudgesFields (plain_item timed item) (Err fault) → JudgesFields items (Err fault)
fields_off items o m before middle timed item left TooLong w many =
    ap (list_any has_too_many_fields) w.parts ∙ many_more w.made (plain_item timed item) (rest_of timed item left) w.few many
fields_off items o m before middle timed item left (Write fault) w many = tt

-- the fault is handed on
pub fields_passed : {F : Type 0} (items : List Item) (r : Result (Unit {0}) (WritePlainFault F)) (fault : WritePlainFault F)
    → IsErrAnd r (λ e. e ≡ fault) → JudgesFields items (Err fault) → JudgesFields items r
fields_passed items (Ok x) fault is h = absurd is
fields_passed items (Err e) fault is h = rw is h

pub fields_all : (items : List Item) (o n : Option (List ℕ)) (before after : ℕ) (timed : List Bool) (left : List LentItem)
    → left ≡ [] → WrittenTo items o n before after timed left → list_any has_too_many_fields items ≡ false
fields_all items o n before after timed left none w =
    ap (list_any has_too_many_fields) (w.parts ∙ ap (λ (l : List LentItem). w.made ++ plain_after timed l) none ∙ append-nil w.made) ∙ w.few

-- at the end
pub written_all : {E : Type 0} (items : List Item) (o n : Option (List ℕ)) (before after : ℕ) (timed : List Bool) (left : List LentItem)
    → left ≡ [] → WrittenTo items o n before after timed left
    → WritesChecked {T = Unit {0}} {E = E} o n before after (Ok tt) (encoded_items items)
written_all items o n before after timed left none w =
    let all : w.made ≡ items = sym (w.parts ∙ ap (λ (l : List LentItem). w.made ++ plain_after timed l) none ∙ append-nil w.made) in
    checked_same (checked_ok w.written) (ap encoded_items all)
