-- The plain form encodes the messages of the items, and none of its items has a compressed timestamp.
use Rattle.std.proofs.Common.{◌≡◌, ◌<◌, ℕ, List, [], ◌∷◌, ◌++◌, Bool, true, false, length, drop, Option, Some, None, refl, sym, ap, ◌∙◌, arith, append-nil, append_assoc}
use Rattle.std.specs.Prelude.{slice_set, is_some, unwrap_or}
use Rattle.std.specs.List.{AllByRecursion}
use Rattle.std.proofs.Math.Seq.{drop-append-add}
use Rattle.std.proofs.lemmas.List.{get_or-set_same, length-set}
use Rattle.std.proofs.lemmas.List.Sums.{sum_by-cons}
use Rattle.fit_base.specs.declared.order.Arch.{Arch}
use Rattle.fit_base.specs.declared.order.Arch.TheVariants.{Little, Big}
use Rattle.fit_base.specs.Value.{Numbers}
use Rattle.fit_grammar.specs.declared.definition.Definition.{Definition}
use Rattle.fit_grammar.specs.declared.definition.FieldDefinition.{FieldDefinition}
use Rattle.fit_grammar.specs.Format.Item.{Item, Defines, Data, fields_size}
use Rattle.fit_grammar.specs.Format.Records.{in_force}
use Rattle.fit_grammar.specs.Format.Message.{Message, MessageField, fields_of, developer_of, time_field, message_under, messages_after, time_given}
use Rattle.std.specs.Prelude.{option_map, option_to_list}
use Rattle.fit_grammar.specs.Calls.Table.{in_force_after}
use Rattle.fit_grammar.specs.Calls.LentItem.{LentItem, DefinesHere, DataHere, LentData, messages_in, message_here, AllUnder}
use Rattle.fit_grammar.specs.Calls.PlainForm.{time_definition, time_bytes, time_front, timed_definition, plain_definition, plain_content, plain_data, is_timed, definitions_before, plain_after, IsPlain}
use Rattle.fit_grammar.specs.Private.PlainSoFar.{AreTimed}
use Rattle.fit_grammar.proofs.Encoder.Encoded.{four_again}
use Rattle.fit_grammar.proofs.PlainForm.Timed.{AreNamed, timed-definition, named_after, timed-before, timed-data, here_timed}

-- ---- one message

abbrev timed_fields : List MessageField → ℕ → List MessageField
timed_fields others time = record { number = 253; base = 0x86; values = Numbers (time ∷ []) } ∷ others

time_again : (arch : Arch) (time : ℕ) (fields : List FieldDefinition) (content : List ℕ)
    → fields_of arch (time_definition ∷ fields) (time_bytes arch time ++ content) ≡ time_field time ∷ fields_of arch fields content
time_again Little time fields content = ap (timed_fields (fields_of Little fields content)) (four_again time)
time_again Big time fields content = ap (timed_fields (fields_of Big fields content)) (four_again time)

-- what comes after the fields also does so with the time in front
developer_again : (d : Definition) (arch : Arch) (time : ℕ) (content : List ℕ)
    → drop (fields_size (timed_definition true d)) (time_bytes arch time ++ content) ≡ drop (fields_size d) content
developer_again d Little time content =
    ap (λ (n : ℕ). drop n (time_bytes Little time ++ content)) (sum_by-cons (λ field. field.size) time_definition d.fields.items)
    ∙ drop-append-add (time_bytes Little time) content (fields_size d)
developer_again d Big time content =
    ap (λ (n : ℕ). drop n (time_bytes Big time ++ content)) (sum_by-cons (λ field. field.size) time_definition d.fields.items)
    ∙ drop-append-add (time_bytes Big time) content (fields_size d)

abbrev message_by : Definition → List MessageField → List ℕ → Message
message_by d fields content = record { global = d.global; fields = fields; developer = developer_of d.arch d.developer.items content }

message_again : (d : Definition) (time : Option ℕ) (content : List ℕ)
    → message_under (timed_definition (is_some time) d) None (time_front d.arch time ++ content) ≡ message_under d time content
message_again d None content = refl
message_again d (Some time) content =
    ap (λ (fields : List MessageField). message_by d fields (drop (fields_size (timed_definition true d)) (time_bytes d.arch time ++ content)))
    (time_again d.arch time d.fields.items content)
    ∙ ap (message_by d (time_field time ∷ fields_of d.arch d.fields.items content)) (developer_again d d.arch time content)

-- ---- all messages

-- a definition before other items is no message
after_definitions : (before : List Item) (time : ℕ) (has needs : Bool) (d : Definition) (others : List Item)
    → messages_after before time (definitions_before has needs d ++ others) ≡ messages_after (before ++ definitions_before has needs d) time others
after_definitions before time true true d others = ap (λ (b : List Item). messages_after b time others) (sym (append-nil before))
after_definitions before time false false d others = ap (λ (b : List Item). messages_after b time others) (sym (append-nil before))
after_definitions before time true false d others = refl
after_definitions before time false true d others = refl

-- the message of a data message whose definition is in force
first_message : (before : List Item) (time : ℕ) (d : Definition) (local : ℕ) (content : List ℕ) (others : List Item)
    → in_force before local ≡ Some d
    → messages_after before time (Data local None content ∷ others)
    ≡ message_under d None content ∷ messages_after (before ++ Data local None content ∷ [])
    (unwrap_or (time_given before time (Data local None content)) time) others
first_message before time d local content others here =
    ap (λ (o : Option Definition). option_to_list (option_map (λ e. message_under e None content) o)
    ++ messages_after (before ++ Data local None content ∷ []) (unwrap_or (time_given before time (Data local None content)) time) others) here

pub same_messages : (f : ℕ → Option Definition) (timed : List Bool) (before : List Item) (time : ℕ) (items : List LentItem) → AreNamed f
    → AllUnder f items → length timed ≡ 16 → AreTimed f timed before → messages_after before time (plain_after timed items) ≡ messages_in items
same_messages f timed before time [] named under count are = refl
same_messages f timed before time (DefinesHere d ∷ items) named under count are =
    same_messages (in_force_after (Defines d) f) (slice_set timed d.local false) (before ++ Defines d ∷ []) time items
    (named_after f d named) under.1 (length-set timed d.local false ∙ count)
    (timed-definition f timed before d (omega (arith, under.0, count)) are)
same_messages f timed before time (DataHere m ∷ items) named under count are =
    let needs = is_some m.time in
    let set = slice_set timed m.local needs in
    let front = definitions_before (is_timed timed m.local) needs m.definition in
    let others = plain_after set items in
    let small : m.local < length timed = omega (arith, under.0, count) in
    let prepared = timed-before f timed before m.definition m.local (is_timed timed m.local) needs small
    (named m.local m.definition under.1) under.1 refl are in
    let flag : is_timed set m.local ≡ needs = get_or-set_same timed m.local needs false small in
    let here = here_timed f set (before ++ front) m.definition m.local needs prepared under.1 flag in
    let after = unwrap_or (time_given (before ++ front) time (plain_data m)) time in
    let rest = same_messages f set ((before ++ front) ++ plain_data m ∷ []) after items named under.2 (length-set timed m.local needs ∙ count)
    (timed-data f set (before ++ front) m.local None (plain_content m) prepared) in
    ap (λ (is : List Item). messages_after before time is) (append_assoc front (plain_data m ∷ []) others)
    ∙ after_definitions before time (is_timed timed m.local) needs m.definition (plain_data m ∷ others)
    ∙ first_message (before ++ front) time (plain_definition m) m.local (plain_content m) others here
    ∙ ap (λ (first : Message). first ∷ messages_after ((before ++ front) ++ plain_data m ∷ []) after others)
    (message_again m.definition m.time m.content)
    ∙ ap (λ (ms : List Message). message_here m ∷ ms) rest

-- ---- no compressed timestamp

plain_front : (has needs : Bool) (d : Definition) (m : LentData) (others : List Item) → AllByRecursion IsPlain others
    → AllByRecursion IsPlain ((definitions_before has needs d ++ plain_data m ∷ []) ++ others)
plain_front true true d m others plain = (refl, plain)
plain_front false false d m others plain = (refl, plain)
plain_front true false d m others plain = (tt, (refl, plain))
plain_front false true d m others plain = (tt, (refl, plain))

pub all_plain : (timed : List Bool) (items : List LentItem) → AllByRecursion IsPlain (plain_after timed items)
all_plain timed [] = tt
all_plain timed (DefinesHere d ∷ items) = (tt, all_plain (slice_set timed d.local false) items)
all_plain timed (DataHere m ∷ items) =
    plain_front (is_timed timed m.local) (is_some m.time) m.definition m (plain_after (slice_set timed m.local (is_some m.time)) items)
    (all_plain (slice_set timed m.local (is_some m.time)) items)
