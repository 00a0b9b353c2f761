-- The items of a part, as they are written one after another: for `put_part`.
use Rattle.std.proofs.Common.{◌≡◌, ℕ, Bool, true, false, List, [], ◌∷◌, ◌++◌, length, Option, Some, None, Result, Ok, Err, refl, sym, ap, ◌∙◌, if◌then◌else◌}
use Rattle.std.specs.Prelude.{option_map, option_to_list, unwrap_or, IsSomeAnd}
use Rattle.std.specs.List.{AllByRecursion}
use Rattle.std.specs.Result.{IsErr}
use Rattle.std.proofs.lemmas.Grind.{flat_map-append}
use Rattle.std.proofs.lemmas.Option.{none-some}
use Rattle.fit_grammar.specs.declared.definition.Definition.{Definition}
use Rattle.fit_grammar.specs.Format.Item.{Item, Defines, Data, content_size}
use Rattle.fit_grammar.specs.Format.Encoding.{encoded_item, encoded_items}
use Rattle.fit_grammar.specs.Format.Records.{in_force}
use Rattle.fit_grammar.specs.Format.File.{FileValue}
use Rattle.fit_grammar.specs.Format.Message.{Message, messages_of, time_given}
use Rattle.fit_grammar.specs.Calls.CheckedOutput.{WritesChecked}
use Rattle.fit_grammar.specs.Calls.LentItem.{LentItem, DefinesHere, DataHere, data_under, items_lent, lent_after, message_here, messages_in}
use Rattle.fit_grammar.specs.Calls.PlainForm.{IsPlain}
use Rattle.fit_grammar.specs.Calls.Possible.{AllCanFollow, CanBeFile}
use Rattle.fit_joining.specs.declared.tally.Tally.{Tally}
use Rattle.fit_joining.specs.Part.{stays, tally_after, tally_past}
use Rattle.fit_joining.specs.JoinedItems.{counted, item_joined, part_items}
use Rattle.fit_joining.specs.Private.Row.{IsWhole, LeavesPart}
use Rattle.fit_joining.proofs.Leaves.{leaves_all, leaves_next, leaves_off, leaves_none}

-- ---- items without compressed timestamps

front_whole : (o : Option Definition) (local : ℕ) (content : List ℕ) (others : List LentItem)
    → IsSomeAnd o (λ d. content_size d ≡ length content) → AllByRecursion IsWhole others
    → AllByRecursion IsWhole (option_to_list (option_map (λ d. DataHere (data_under d local None None content)) o) ++ others)
front_whole None local content others defined whole = absurd defined
front_whole (Some d) local content others defined whole = ((refl, refl, defined), whole)

-- each is whole
pub lent_whole : (before : List Item) (time : ℕ) (items : List Item) → AllCanFollow before items → AllByRecursion IsPlain items
    → AllByRecursion IsWhole (lent_after before time items)
lent_whole before time [] follow plain = tt
lent_whole before time (Defines d ∷ items) follow plain = (follow.0.encodable, lent_whole (before ++ Defines d ∷ []) time items follow.1 plain.1)
lent_whole before time (Data local (Some offset) content ∷ items) follow plain = absurd (none-some offset (sym plain.0))
lent_whole before time (Data local None content ∷ items) follow plain =
    let item = Data local None content in
    let after = unwrap_or (time_given before time item) time in
    front_whole (in_force before local) local content (lent_after (before ++ item ∷ []) after items) follow.0.defined
    (lent_whole (before ++ item ∷ []) after items follow.1 plain.1)

-- ---- what is counted

counts_by : (b : Bool) (t u : Tally) (messages : List Message)
    → tally_past (if b then u else t) messages ≡ (if b then tally_past u messages else tally_past t messages)
counts_by true t u messages = refl
counts_by false t u messages = refl

counts_on : (t : Tally) (item : LentItem) (left : List LentItem)
    → tally_past (counted t item) (messages_in left) ≡ tally_past t (messages_in (item ∷ left))
counts_on t (DefinesHere d) left = refl
counts_on t (DataHere m) left = counts_by (stays t (message_here m)) t (tally_after t (message_here m)) (messages_in left)

-- ---- the part as it is written

-- before the first item
pub part_begins : (given : List (Option ℕ)) (o : Option (List ℕ)) (before : ℕ) (v : FileValue) (t : Tally) (left : List LentItem) → CanBeFile v
    → AllByRecursion IsPlain v.items → left ≡ items_lent v.items → messages_in left ≡ messages_of v.items
    → LeavesPart o o before before (encoded_items (part_items given t (items_lent v.items))) (tally_past t (messages_of v.items)) t given left
part_begins given o before v t left can plain all same = record {
  whole = rw all (lent_whole [] 0 v.items can.items_follow plain);
  counts = ap (tally_past t) same;
  leaves = leaves_all o before (encoded_items (part_items given t (items_lent v.items))) (encoded_items (part_items given t left))
      (ap (λ (l : List LentItem). encoded_items (part_items given t l)) (sym all));
}

pieces : (given : List (Option ℕ)) (t : Tally) (item : LentItem) (left : List LentItem)
    → encoded_items (part_items given t (item ∷ left)) ≡ encoded_items (item_joined given t item) ++ encoded_items (part_items given (counted t item) left)
pieces given t item left = flat_map-append encoded_item (item_joined given t item) (part_items given (counted t item) left)

-- after the next item
pub part_goes_on : {E : Type 0} (given : List (Option ℕ)) (o m n : Option (List ℕ)) (before middle after : ℕ) (text : List ℕ) (past t u : Tally) (item : LentItem)
    (left : List LentItem) → LeavesPart o m before middle text past t given (item ∷ left)
    → WritesChecked {T = Tally} {E = E} m n middle after (Ok u) (encoded_items (item_joined given t item)) → u ≡ counted t item
    → LeavesPart o n before after text past u given left
part_goes_on given o m n before middle after text past t u item left s written is =
    let whole = s.whole in
    record {
      whole = whole.1;
      counts = ap (λ (k : Tally). tally_past k (messages_in left)) is ∙ counts_on t item left ∙ s.counts;
      leaves = leaves_next (encoded_items (part_items given u left)) s.leaves written
          (pieces given t item left ∙ ap (λ (k : Tally). encoded_items (item_joined given t item) ++ encoded_items (part_items given k left)) (sym is));
    }

-- or if it was not written
pub part_off : {T E F : Type 0} {r : Result T F} {e : E} (given : List (Option ℕ)) (o m n : Option (List ℕ)) (before middle at after : ℕ) (text : List ℕ) (past t : Tally)
    (item : LentItem) (left : List LentItem) → IsErr r → LeavesPart o m before middle text past t given (item ∷ left)
    → WritesChecked {T = Tally} {E = E} m n middle at (Err e) (encoded_items (item_joined given t item))
    → WritesChecked o n before after r text
part_off given o m n before middle at after text past t item left bad s written =
    leaves_off after (encoded_items (part_items given (counted t item) left)) bad s.leaves written (pieces given t item left)

-- at the end
pub part_ends : {E : Type 0} (given : List (Option ℕ)) (o n : Option (List ℕ)) (before after : ℕ) (text : List ℕ) (past t : Tally) (left : List LentItem)
    → left ≡ [] → LeavesPart o n before after text past t given left → WritesChecked {T = Tally} {E = E} o n before after (Ok t) text
part_ends given o n before after text past t left none s =
    leaves_none t (ap (λ (l : List LentItem). encoded_items (part_items given t l)) none) s.leaves

pub part_counted : (given : List (Option ℕ)) (o n : Option (List ℕ)) (before after : ℕ) (text : List ℕ) (past t : Tally) (left : List LentItem)
    → left ≡ [] → LeavesPart o n before after text past t given left → t ≡ past
part_counted given o n before after text past t left none s =
    ap (λ (l : List LentItem). tally_past t (messages_in l)) (sym none) ∙ s.counts
