-- The items of a file whose times are moved: for `moved_file`.
use Rattle.std.proofs.Common.{◌≡◌, ℕ, List, [], ◌∷◌, ◌++◌, length, map, Option, Some, None, refl, sym, ap, ◌∙◌, arith, append_assoc, append-nil, ◌↔◌, ◌⊎◌, inl, inr, Result, Ok, Err, IfErr, IsErrOf}
use Rattle.std.specs.Prelude.{option_map, option_to_list, unwrap_or, IsSomeAnd}
use Rattle.std.specs.List.{AllByRecursion}
use Rattle.std.specs.Option.{option_or}
use Rattle.std.proofs.lemmas.List.Sums.{sum_by-append, sum_by-cons}
use Rattle.std.proofs.lemmas.Option.{none-some}
use Rattle.fit_grammar.specs.declared.definition.Definition.{Definition}
use Rattle.fit_grammar.specs.Format.Item.{Item, Defines, Data, content_size, item_size}
use Rattle.fit_grammar.specs.Format.Records.{in_force, definition_by, data_size}
use Rattle.fit_grammar.specs.Format.File.{FileValue}
use Rattle.fit_grammar.specs.Format.Message.{Message, message_under, messages_after, messages_of, time_given}
use Rattle.fit_grammar.specs.Calls.Table.{in_force_after}
use Rattle.fit_grammar.specs.Calls.LentItem.{LentItem, DefinesHere, DataHere, LentData, data_under, item_lent, items_lent, lent_after, message_here, messages_in, AllUnder}
use Rattle.fit_grammar.specs.Calls.PlainForm.{IsPlain}
use Rattle.fit_grammar.specs.Calls.Adding.{CanHold, HasWrongLength, IsTooLong, IsUndefined}
use Rattle.fit_grammar.specs.declared.file.fault.PutFault.{PutFault}
use Rattle.fit_grammar.specs.declared.file.fault.PutFault.TheVariants.{UndefinedLocal, Length, TooLong, Memory}
use Rattle.fit_grammar.specs.Calls.Possible.{AllCanFollow, CanBeFile}
use Rattle.fit_grammar.proofs.KeptRow.InForce.{in_force-append, in_force-data}
use Rattle.fit_grammar.proofs.KeptRow.Lent.{lent_messages, lent_under}
use Rattle.fit_shifting.specs.declared.shift.Shift.{Shift}
use Rattle.fit_shifting.specs.Moved.{moved}
use Rattle.fit_shifting.specs.Private.Content.{content_moved}
use Rattle.fit_shifting.specs.Private.Row.{item_moved, items_moved, IsWhole, CanTake, MovedSoFar}
use Rattle.fit_shifting.proofs.MovedMessage.{content_length, message_again}

-- ---- items without compressed timestamps

front_whole : (o : Option Definition) (local : ℕ) (content : List ℕ) (others : List LentItem)
    → IsSomeAnd o (λ d. content_size d ≡ length content) → AllByRecursion IsWhole others
    → AllByRecursion IsWhole (option_to_list (option_map (λ d. DataHere (data_under d local None None content)) o) ++ others)
front_whole None local content others defined whole = absurd defined
front_whole (Some d) local content others defined whole = ((refl, refl, defined), whole)

-- each is whole
pub lent_whole : (before : List Item) (time : ℕ) (items : List Item) → AllCanFollow before items → AllByRecursion IsPlain items
    → AllByRecursion IsWhole (lent_after before time items)
lent_whole before time [] follow plain = tt
lent_whole before time (Defines d ∷ items) follow plain = (tt, lent_whole (before ++ Defines d ∷ []) time items follow.1 plain.1)
lent_whole before time (Data local (Some offset) content ∷ items) follow plain = absurd (none-some offset (sym plain.0))
lent_whole before time (Data local None content ∷ items) follow plain =
    let item = Data local None content in
    let after = unwrap_or (time_given before time item) time in
    front_whole (in_force before local) local content (lent_after (before ++ item ∷ []) after items) follow.0.defined
    (lent_whole (before ++ item ∷ []) after items follow.1 plain.1)

-- ---- their messages

abbrev AreInForce : (ℕ → Option Definition) → List Item → Type 0
AreInForce definition_for items = (l : ℕ) → in_force items l ≡ definition_for l

defined_on : (f : ℕ → Option Definition) (items : List Item) (d : Definition) → AreInForce f items
    → AreInForce (in_force_after (Defines d) f) (items ++ Defines d ∷ [])
defined_on f items d are l =
    in_force-append items (Defines d) l ∙ ap (λ (o : Option Definition). option_or (definition_by (Defines d) l) o) (are l)

data_on : (f : ℕ → Option Definition) (items : List Item) (local : ℕ) (content : List ℕ) → AreInForce f items
    → AreInForce f (items ++ Data local None content ∷ [])
data_on f items local content are l = in_force-data items local None content l ∙ are l

pub first_message : (before : List Item) (time : ℕ) (d : Definition) (local : ℕ) (content : List ℕ) (others : List Item)
    → in_force before local ≡ Some d
    → messages_after before time (Data local None content ∷ others)
    ≡ message_under d None content ∷ messages_after (before ++ Data local None content ∷ [])
    (unwrap_or (time_given before time (Data local None content)) time) others
first_message before time d local content others here =
    ap (λ (o : Option Definition). option_to_list (option_map (λ e. message_under e None content) o)
    ++ messages_after (before ++ Data local None content ∷ []) (unwrap_or (time_given before time (Data local None content)) time) others) here

here_again : (shift : Shift) (m : LentData) → IsWhole (DataHere m)
    → message_under m.definition None (content_moved shift m.definition.global m.definition.arch m.definition.fields.items m.content)
    ≡ moved shift (message_here m)
here_again shift m whole =
    message_again shift m.definition m.content (omega (arith, whole.2))
    ∙ ap (λ (time : Option ℕ). moved shift (message_under m.definition time m.content)) (sym whole.1)

pub messages_again : (shift : Shift) (f : ℕ → Option Definition) (before : List Item) (time : ℕ) (items : List LentItem) → AreInForce f before
    → AllUnder f items → AllByRecursion IsWhole items
    → messages_after before time (items_moved shift items) ≡ map (moved shift) (messages_in items)
messages_again shift f before time [] are under whole = refl
messages_again shift f before time (DefinesHere d ∷ items) are under whole =
    messages_again shift (in_force_after (Defines d) f) (before ++ Defines d ∷ []) time items (defined_on f before d are) under.1 whole.1
messages_again shift f before time (DataHere m ∷ items) are under whole =
    let content = content_moved shift m.definition.global m.definition.arch m.definition.fields.items m.content in
    let item = Data m.local None content in
    let after = unwrap_or (time_given before time item) time in
    first_message before time m.definition m.local content (items_moved shift items) (are m.local ∙ under.1)
    ∙ ap (λ (first : Message). first ∷ messages_after (before ++ item ∷ []) after (items_moved shift items)) (here_again shift m whole.0)
    ∙ ap (λ (ms : List Message). moved shift (message_here m) ∷ ms)
    (messages_again shift f (before ++ item ∷ []) after items (data_on f before m.local content are) under.2 whole.1)

-- and none is compressed
pub all_plain : (shift : Shift) (items : List LentItem) → AllByRecursion IsPlain (items_moved shift items)
all_plain shift [] = tt
all_plain shift (DefinesHere d ∷ items) = (tt, all_plain shift items)
all_plain shift (DataHere m ∷ items) = (refl, all_plain shift items)

-- ---- the file as it grows

-- before the first item
pub started : (shift : Shift) (v : FileValue) (items : List Item) (left : List LentItem) → CanBeFile v → AllByRecursion IsPlain v.items
    → items ≡ [] → left ≡ items_lent v.items → AllUnder (in_force []) left → map item_lent left ≡ v.items → MovedSoFar shift v items left
started shift v items left can plain none all under same = rw none (record {
  definition_for = in_force [];
  under = under;
  are_in_force = λ l. refl;
  made = ap (items_moved shift) all;
  size = omega (arith, ap data_size same);
  whole = rw all (lent_whole [] 0 v.items can.items_follow plain);
})

moved_size : (shift : Shift) (item : LentItem) → IsWhole item → item_size (item_moved shift item) ≡ item_size (item_lent item)
moved_size shift (DefinesHere d) whole = refl
moved_size shift (DataHere m) whole =
    let same = content_length shift m.definition.global m.definition.arch m.definition.fields.items m.content (omega (arith, whole.2)) in
    omega (arith, same)

-- the next item can be added
pub can_take : (shift : Shift) (v w : FileValue) (item : LentItem) (left : List LentItem) → CanBeFile v
    → MovedSoFar shift v w.items (item ∷ left) → CanTake shift w item
can_take shift v w (DefinesHere d) left can s =
    let under = s.under in (
      under.0,
      λ long. omega (arith, long, can.bound, s.size, sum_by-cons item_size (Defines d) (map item_lent left)),
    )
can_take shift v w (DataHere m) left can s =
    let under = s.under in (
      s.are_in_force m.local ∙ under.1,
      λ long. omega (
        arith,
        long,
        can.bound,
        s.size,
        moved_size shift (DataHere m) s.whole.0,
        sum_by-cons item_size (item_lent (DataHere m)) (map item_lent left),
      ),
    )

-- after it
next_on : (shift : Shift) (v : FileValue) (items : List Item) (item : LentItem) (left : List LentItem) (f : ℕ → Option Definition)
    → MovedSoFar shift v items (item ∷ left) → AllUnder f left → AreInForce f (items ++ item_moved shift item ∷ [])
    → MovedSoFar shift v (items ++ item_moved shift item ∷ []) left
next_on shift v items item left f s under are = record {
  definition_for = f;
  under = under;
  are_in_force = are;
  made = append_assoc items (item_moved shift item ∷ []) (items_moved shift left) ∙ s.made;
  size = omega (
    arith,
    s.size,
    sum_by-append item_size items (item_moved shift item ∷ []),
    moved_size shift item s.whole.0,
    sum_by-cons item_size (item_lent item) (map item_lent left),
  );
  whole = s.whole.1;
}

pub goes_on : (shift : Shift) (v : FileValue) (items : List Item) (item : LentItem) (left : List LentItem)
    → MovedSoFar shift v items (item ∷ left) → MovedSoFar shift v (items ++ item_moved shift item ∷ []) left
goes_on shift v items (DefinesHere d) left s =
    let under = s.under in
    next_on shift v items (DefinesHere d) left (in_force_after (Defines d) s.definition_for) s under.1
    (defined_on s.definition_for items d s.are_in_force)
goes_on shift v items (DataHere m) left s =
    let under = s.under in
    next_on shift v items (DataHere m) left s.definition_for s under.2
    (data_on s.definition_for items m.local
    (content_moved shift m.definition.global m.definition.arch m.definition.fields.items m.content) s.are_in_force)

-- after the last
pub ended : (shift : Shift) (v : FileValue) (items : List Item) → MovedSoFar shift v items [] → items ≡ items_moved shift (items_lent v.items)
ended shift v items s = sym (append-nil items) ∙ s.made

pub states : (shift : Shift) (v : FileValue) → CanBeFile v → AllByRecursion IsPlain v.items
    → messages_of (items_moved shift (items_lent v.items)) ≡ map (moved shift) (messages_of v.items)
states shift v can plain =
    messages_again shift (in_force []) [] 0 (items_lent v.items) (λ l. refl) (lent_under [] 0 v.items can.items_follow)
    (lent_whole [] 0 v.items can.items_follow plain)
    ∙ ap (map (moved shift)) (lent_messages [] 0 v.items)

-- ---- one item

only_other : (fault : PutFault) → (fault ≡ UndefinedLocal → ⊥) → (fault ≡ Length → ⊥) → (fault ≡ TooLong → ⊥) → fault ≡ Memory
only_other UndefinedLocal a b c = absurd (a refl)
only_other Length a b c = absurd (b refl)
only_other TooLong a b c = absurd (c refl)
only_other Memory a b c = refl

-- what has its definition and fits is refused for want of memory alone
pub only_memory : (r : Result (Unit {0}) PutFault) (v : FileValue) (local : ℕ) (d : Definition) (content : List ℕ)
    → (IsErrOf r UndefinedLocal ↔ IsUndefined v local) → (IsErrOf r Length ↔ HasWrongLength v local None content)
    → (IsErrOf r TooLong ↔ (CanHold v local None content × IsTooLong v (Data local None content)))
    → in_force v.items local ≡ Some d → content_size d ≡ length content → (IsTooLong v (Data local None content) → ⊥)
    → IfErr r (λ fault. fault ≡ Memory)
only_memory (Ok x) v local d content undefined wrong long here size fits = tt
only_memory (Err fault) v local d content undefined wrong long here size fits =
    let holds : CanHold v local None content = (rw here size, tt) in
    only_other fault (λ is. none-some d (sym (undefined.0 (ap Err is)) ∙ here))
    (λ is. let w = wrong.0 (ap Err is) in w.1 holds) (λ is. let l = long.0 (ap Err is) in fits l.1)

pub only_memory_left : (r : Result (Unit {0}) PutFault) (v : FileValue) (d : Definition)
    → (IsErrOf r TooLong ↔ IsTooLong v (Defines d)) → IfErr r (λ fault. (fault ≡ TooLong) ⊎ (fault ≡ Memory))
    → (IsTooLong v (Defines d) → ⊥) → IfErr r (λ fault. fault ≡ Memory)
only_memory_left (Ok x) v d long either fits = tt
only_memory_left (Err fault) v d long either fits =
    elim either [
      | inl is ↦ absurd (fits (long.0 (ap Err is)))
      | inr is ↦ is
    ]
