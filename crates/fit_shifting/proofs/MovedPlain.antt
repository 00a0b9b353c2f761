-- The plain form of a file, its times moved where they are written: it states the messages of the file, moved.
use Rattle.std.proofs.Common.{◌≡◌, ℕ, ◌<◌, ◌≤◌, List, [], ◌∷◌, ◌++◌, length, map, Bool, true, false, Option, Some, None, refl, sym, ap, subst, ◌∙◌, arith, append_assoc, append-nil, length-append}
use Rattle.std.specs.Prelude.{option_map, option_to_list, unwrap_or, is_some, slice_set, IsSomeAnd}
use Rattle.std.specs.List.{AllByRecursion}
use Rattle.std.proofs.lemmas.List.{get_or-set_same, length-set}
use Rattle.std.proofs.lemmas.List.Sums.{sum_by-cons}
use Rattle.std.proofs.lemmas.Option.{none-some}
use Rattle.fit_grammar.specs.declared.definition.Definition.{Definition}
use Rattle.fit_grammar.specs.Format.Item.{Item, Defines, Data, content_size, fields_size}
use Rattle.fit_grammar.specs.Format.Records.{in_force}
use Rattle.fit_grammar.specs.Format.File.{FileValue}
use Rattle.fit_grammar.specs.Format.Message.{Message, message_under, messages_after, messages_of, time_given, compressed_time}
use Rattle.fit_grammar.specs.Calls.Table.{in_force_after}
use Rattle.fit_grammar.specs.Calls.LentItem.{LentItem, DefinesHere, DataHere, LentData, data_under, items_lent, lent_after, message_here, messages_in, AllUnder}
use Rattle.fit_grammar.specs.Calls.PlainForm.{time_definition, time_front, time_bytes, timed_definition, plain_definition, plain_content, plain_data, is_timed, definitions_before, none_timed, IsPlain}
use Rattle.fit_grammar.specs.Calls.Possible.{AllCanFollow, CanBeFile}
use Rattle.fit_grammar.specs.Private.PlainSoFar.{AreTimed}
use Rattle.fit_grammar.proofs.KeptRow.Lent.{lent_messages, lent_under}
use Rattle.fit_grammar.proofs.PlainForm.Messages.{same_messages}
use Rattle.fit_grammar.proofs.PlainForm.Timed.{AreNamed, timed-definition, named_after, timed-before, timed-data, here_timed}
use Rattle.fit_shifting.specs.declared.shift.Shift.{Shift}
use Rattle.fit_shifting.specs.Moved.{can_move, moved}
use Rattle.fit_shifting.specs.Shifted.{IsShifted}
use Rattle.fit_shifting.specs.Stuck.{stuck_at}
use Rattle.fit_shifting.specs.Private.Plain.{plain_content_moved, plain_data_moved, plain_after_moved, plain_items_moved, plain_of_moved, IsFilled}
use Rattle.fit_shifting.proofs.MovedValues.{four}
use Rattle.fit_shifting.proofs.MovedMessage.{message_again}
use Rattle.fit_shifting.proofs.MovedRow.{first_message}
use Rattle.fit_shifting.proofs.PassedItems.{none_stuck}

-- ---- one message

-- a definition before other items is no message
after_definitions : (before : List Item) (time : ℕ) (has needs : Bool) (d : Definition) (others : List Item)
    → messages_after before time (definitions_before has needs d ++ others) ≡ messages_after (before ++ definitions_before has needs d) time others
after_definitions before time true true d others = ap (λ (b : List Item). messages_after b time others) (sym (append-nil before))
after_definitions before time false false d others = ap (λ (b : List Item). messages_after b time others) (sym (append-nil before))
after_definitions before time true false d others = refl
after_definitions before time false true d others = refl

abbrev first_of : Message → List Message → Message
first_of other [] = other
first_of other (m ∷ messages) = m

-- its plain form states it
stated : (f : ℕ → Option Definition) (timed : List Bool) (before : List Item) (m : LentData) → AreNamed f
    → AllUnder f (DataHere m ∷ []) → length timed ≡ 16 → AreTimed f timed before
    → message_under (plain_definition m) None (plain_content m) ≡ message_here m
stated f timed before m named under count are =
    let needs = is_some m.time in
    let set = slice_set timed m.local needs in
    let front = definitions_before (is_timed timed m.local) needs m.definition in
    let small : m.local < length timed = omega (arith, under.0, count) in
    let prepared = timed-before f timed before m.definition m.local (is_timed timed m.local) needs small
    (named m.local m.definition under.1) under.1 refl are in
    let flag : is_timed set m.local ≡ needs = get_or-set_same timed m.local needs false small in
    let here = here_timed f set (before ++ front) m.definition m.local needs prepared under.1 flag in
    ap (first_of (message_here m))
    (sym (after_definitions before 0 (is_timed timed m.local) needs m.definition (plain_data m ∷ [])
    ∙ first_message (before ++ front) 0 (plain_definition m) m.local (plain_content m) [] here)
    ∙ ap (λ (is : List Item). messages_after before 0 is) (sym (append-nil (front ++ plain_data m ∷ [])))
    ∙ same_messages f timed before 0 (DataHere m ∷ []) named under count are)

-- the fields of its plain form are there
within : (d : Definition) (time : Option ℕ) (content : List ℕ) → content_size d ≡ length content
    → fields_size (timed_definition (is_some time) d) ≤ length (time_front d.arch time ++ content)
within d None content filled = omega (arith, filled)
within d (Some time) content filled =
    omega (
      arith,
      filled,
      sum_by-cons (λ field. field.size) time_definition d.fields.items,
      length-append (time_bytes d.arch time) content,
      four d.arch time,
    )

-- ---- all messages

pub moved_messages : (shift : Shift) (f : ℕ → Option Definition) (timed : List Bool) (before : List Item) (time : ℕ) (items : List LentItem)
    → AreNamed f → AllUnder f items → length timed ≡ 16 → AreTimed f timed before → AllByRecursion IsFilled items
    → messages_after before time (plain_after_moved shift timed items) ≡ map (moved shift) (messages_in items)
moved_messages shift f timed before time [] named under count are filled = refl
moved_messages shift f timed before time (DefinesHere d ∷ items) named under count are filled =
    moved_messages shift (in_force_after (Defines d) f) (slice_set timed d.local false) (before ++ Defines d ∷ []) time items
    (named_after f d named) under.1 (length-set timed d.local false ∙ count)
    (timed-definition f timed before d (omega (arith, under.0, count)) are) filled.1
moved_messages shift f timed before time (DataHere m ∷ items) named under count are filled =
    let needs = is_some m.time in
    let set = slice_set timed m.local needs in
    let front = definitions_before (is_timed timed m.local) needs m.definition in
    let own = plain_data_moved shift m in
    let others = plain_after_moved shift set items in
    let small : m.local < length timed = omega (arith, under.0, count) in
    let prepared = timed-before f timed before m.definition m.local (is_timed timed m.local) needs small
    (named m.local m.definition under.1) under.1 refl are in
    let flag : is_timed set m.local ≡ needs = get_or-set_same timed m.local needs false small in
    let here = here_timed f set (before ++ front) m.definition m.local needs prepared under.1 flag in
    let after = unwrap_or (time_given (before ++ front) time own) time in
    let rest = moved_messages shift f set ((before ++ front) ++ own ∷ []) after items named under.2 (length-set timed m.local needs ∙ count)
    (timed-data f set (before ++ front) m.local None (plain_content_moved shift m) prepared) filled.1 in
    let again = message_again shift (plain_definition m) (plain_content m) (within m.definition m.time m.content filled.0)
    ∙ ap (moved shift) (stated f timed before m named (under.0, under.1, tt) count are) in
    ap (λ (is : List Item). messages_after before time is) (append_assoc front (own ∷ []) others)
    ∙ after_definitions before time (is_timed timed m.local) needs m.definition (own ∷ others)
    ∙ first_message (before ++ front) time (plain_definition m) m.local (plain_content_moved shift m) others here
    ∙ ap (λ (first : Message). first ∷ messages_after ((before ++ front) ++ own ∷ []) after others) again
    ∙ ap (λ (ms : List Message). moved shift (message_here m) ∷ ms) rest

-- no item is compressed
plain_front : (shift : Shift) (has needs : Bool) (d : Definition) (m : LentData) (others : List Item) → AllByRecursion IsPlain others
    → AllByRecursion IsPlain ((definitions_before has needs d ++ plain_data_moved shift m ∷ []) ++ others)
plain_front shift true true d m others plain = (refl, plain)
plain_front shift false false d m others plain = (refl, plain)
plain_front shift true false d m others plain = (tt, (refl, plain))
plain_front shift false true d m others plain = (tt, (refl, plain))

all_plain : (shift : Shift) (timed : List Bool) (items : List LentItem) → AllByRecursion IsPlain (plain_after_moved shift timed items)
all_plain shift timed [] = tt
all_plain shift timed (DefinesHere d ∷ items) = (tt, all_plain shift (slice_set timed d.local false) items)
all_plain shift timed (DataHere m ∷ items) =
    plain_front shift (is_timed timed m.local) (is_some m.time) m.definition m (plain_after_moved shift (slice_set timed m.local (is_some m.time)) items)
    (all_plain shift (slice_set timed m.local (is_some m.time)) items)

-- ---- a file

front_filled : (o : Option Definition) (local : ℕ) (offset time : Option ℕ) (content : List ℕ) (others : List LentItem)
    → IsSomeAnd o (λ d. content_size d ≡ length content) → AllByRecursion IsFilled others
    → AllByRecursion IsFilled (option_to_list (option_map (λ d. DataHere (data_under d local offset time content)) o) ++ others)
front_filled None local offset time content others defined filled = absurd defined
front_filled (Some d) local offset time content others defined filled = (defined, filled)

lent_filled : (before : List Item) (time : ℕ) (items : List Item) → AllCanFollow before items
    → AllByRecursion IsFilled (lent_after before time items)
lent_filled before time [] follow = tt
lent_filled before time (Defines d ∷ items) follow = (tt, lent_filled (before ++ Defines d ∷ []) time items follow.1)
lent_filled before time (Data local offset content ∷ items) follow =
    let item = Data local offset content in
    let after = unwrap_or (time_given before time item) time in
    front_filled (in_force before local) local offset (compressed_time time offset) content (lent_after (before ++ item ∷ []) after items)
    follow.0.defined (lent_filled (before ++ item ∷ []) after items follow.1)

none_named : AreNamed (in_force [])
none_named l d e = absurd (none-some d e)

states_moved : (shift : Shift) (v : FileValue) → CanBeFile v
    → messages_of (plain_items_moved shift v.items) ≡ map (moved shift) (messages_of v.items)
states_moved shift v can =
    moved_messages shift (in_force []) none_timed [] 0 (items_lent v.items) none_named (lent_under [] 0 v.items can.items_follow) refl
    (λ l. refl) (lent_filled [] 0 v.items can.items_follow)
    ∙ ap (map (moved shift)) (lent_messages [] 0 v.items)

pub is_shifted : (shift : Shift) (v : FileValue) → CanBeFile v → stuck_at shift v ≡ None → IsShifted shift v (plain_of_moved shift v)
is_shifted shift v can movable = record {
  frame = refl;
  messages = states_moved shift v can;
  movable = subst (AllByRecursion {X = Message} (λ m. can_move shift m ≡ true)) (lent_messages [] 0 v.items)
      (none_stuck shift v.frame.header_size (items_lent v.items) movable);
  written_out = all_plain shift none_timed (items_lent v.items);
}
