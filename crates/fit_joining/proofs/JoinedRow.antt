-- The items of the joined file: they are a file's, without compressed timestamps, and their messages are the joined ones. For
-- `write_joined`.
use Rattle.std.proofs.Common.{◌≡◌, ℕ, ◌<◌, Bool, true, false, List, [], ◌∷◌, ◌++◌, ◌==◌, length, map, Option, Some, None, refl, sym, ap, subst, ◌∙◌, arith, append_assoc, append-nil, if◌then◌else◌}
use Rattle.std.specs.Prelude.{option_map, option_to_list, unwrap_or, IsSomeAnd}
use Rattle.std.specs.List.{AllByRecursion}
use Rattle.std.specs.Option.{option_or}
use Rattle.std.proofs.lemmas.Option.{none-some}
use Rattle.fit_grammar.specs.declared.definition.Definition.{Definition}
use Rattle.fit_grammar.specs.Format.Item.{Item, Defines, Data, content_size}
use Rattle.fit_grammar.specs.Format.Encoding.{encoded, encoded_item, encoded_items, HasEncoding}
use Rattle.fit_grammar.specs.Format.Records.{in_force, IsDefined, RecordsAfter}
use Rattle.fit_grammar.specs.Format.File.{FileValue, FileOf, IsFrame}
use Rattle.fit_grammar.specs.Format.Message.{Message, message_under, message_at, messages_after, messages_of, time_given}
use Rattle.fit_grammar.specs.Calls.Table.{in_force_after}
use Rattle.fit_grammar.specs.Calls.LentItem.{LentItem, DefinesHere, DataHere, LentData, items_lent, message_here, messages_in, AllUnder}
use Rattle.fit_grammar.specs.Calls.PlainForm.{IsPlain}
use Rattle.fit_grammar.specs.Calls.Possible.{CanBeFile}
use Rattle.fit_grammar.proofs.Encoder.Encoded.{framed_is_file, framed_items}
use Rattle.fit_grammar.proofs.Encoder.Encoding.{encoded_spells}
use Rattle.fit_grammar.proofs.KeptRow.InForce.{in_force-append, in_force-data, in_force-defines}
use Rattle.fit_grammar.proofs.KeptRow.Lent.{lent_messages, lent_under}
use Rattle.fit_finishing.specs.declared.sport.SportStated.{SportStated}
use Rattle.fit_joining.specs.declared.part.Part.{Part}
use Rattle.fit_joining.specs.declared.tally.Tally.{Tally}
use Rattle.fit_joining.specs.Part.{changed, part, stays, tally_after, tally_before, tally_past}
use Rattle.fit_joining.specs.Timer.{event_at, span_of, start_due, stop_due, timer_message}
use Rattle.fit_joining.specs.Joined.{first_tally, is_followed, joined_after, joined_messages, joined_one, laps_stay, next_tally, sport_added, sport_due}
use Rattle.fit_joining.specs.Content.{content_changed}
use Rattle.fit_joining.specs.Events.{event_content, event_definition, sport_content, sport_definition}
use Rattle.fit_joining.specs.Makers.{Maker, declared_past, no_makers}
use Rattle.fit_joining.specs.JoinedItems.{data_changed, definition_given, event_items, items_after, joined_file, joined_items, one_items, own_messages, part_items, parts_items, sport_items}
use Rattle.fit_joining.specs.Private.Row.{IsWhole}
use Rattle.fit_joining.proofs.ChangedMessage.{message_again, content_length, size_given}
use Rattle.fit_joining.proofs.EventMessage.{event_stated, sport_stated}
use Rattle.fit_joining.proofs.WrittenRow.{lent_whole}

-- ---- one more item

-- the message of a last data message
pub last_data : (before : List Item) (time : ℕ) (items : List Item) (local : ℕ) (content : List ℕ) (d : Definition)
    → in_force (before ++ items) local ≡ Some d
    → messages_after before time (items ++ Data local None content ∷ []) ≡ messages_after before time items ++ message_under d None content ∷ []
last_data before time [] local content d here =
    let now : in_force before local ≡ Some d = ap (λ (row : List Item). in_force row local) (sym (append-nil before)) ∙ here in
    ap (λ (o : Option Definition). option_to_list (option_map (λ e. message_under e None content) o) ++ []) now
last_data before time (item ∷ items) local content d here =
    let own = option_to_list (message_at before time item) in
    let later = unwrap_or (time_given before time item) time in
    let now : in_force ((before ++ item ∷ []) ++ items) local ≡ Some d =
    ap (λ (row : List Item). in_force row local) (append_assoc before (item ∷ []) items) ∙ here in
    ap (λ (ms : List Message). own ++ ms) (last_data (before ++ item ∷ []) later items local content d now)
    ∙ sym (append_assoc own (messages_after (before ++ item ∷ []) later items) (message_under d None content ∷ []))

-- a last definition has none
pub last_definition : (before : List Item) (time : ℕ) (items : List Item) (d : Definition)
    → messages_after before time (items ++ Defines d ∷ []) ≡ messages_after before time items
last_definition before time [] d = refl
last_definition before time (item ∷ items) d =
    let later = unwrap_or (time_given before time item) time in
    ap (λ (ms : List Message). option_to_list (message_at before time item) ++ ms) (last_definition (before ++ item ∷ []) later items d)

all_and_last : (items : List Item) (item : Item) → AllByRecursion IsPlain items → IsPlain item → AllByRecursion IsPlain (items ++ item ∷ [])
all_and_last [] item all last = (last, tt)
all_and_last (first ∷ items) item all last = (all.0, all_and_last items item all.1 last)

-- each item has an encoding, and each data message its definition
abbrev AllStand : List Item → List Item → Type 0
AllStand before [] = Unit {0}
AllStand before (item ∷ items) = (HasEncoding item × IsDefined before item) × AllStand (before ++ item ∷ []) items

stand_and_last : (before items : List Item) (item : Item) → AllStand before items → HasEncoding item → IsDefined (before ++ items) item
    → AllStand before (items ++ item ∷ [])
stand_and_last before [] item all encodes defined =
    ((encodes, subst (λ (row : List Item). IsDefined row item) (append-nil before) defined), tt)
stand_and_last before (first ∷ items) item all encodes defined = (
  all.0,
  stand_and_last (before ++ first ∷ []) items item all.1 encodes
      (subst (λ (row : List Item). IsDefined row item) (sym (append_assoc before (first ∷ []) items)) defined),
)

stand_records : (before items : List Item) → AllStand before items → RecordsAfter before (encoded_items items) items
stand_records before [] all = refl
stand_records before (item ∷ items) all = (
  encoded_items items,
  record { own = encoded_item item; joined = refl; spelled = encoded_spells item all.0.0; defined = all.0.1 },
  stand_records (before ++ item ∷ []) items all.1,
)

-- the bytes that such items are written as are a file of them
stand_file : (v : FileValue) → IsFrame v.frame → AllStand [] v.items → FileOf (encoded v) v
stand_file v frame all =
    subst (λ (bytes : List ℕ). FileOf bytes v) (framed_items v v.frame (encoded_items v.items) refl refl)
    (framed_is_file v.frame (encoded_items v.items) v.items frame (stand_records [] v.items all))

-- ---- a row that grows

-- to these items came more, with these messages
pub record Grown (before after : List Item) (more : List Message) : Type 0 where
  pub messages : messages_of after ≡ messages_of before ++ more
  pub stand : AllStand [] before → AllStand [] after
  pub plain : AllByRecursion IsPlain before → AllByRecursion IsPlain after

grown_none : (before : List Item) → Grown before before []
grown_none before = record { messages = sym (append-nil (messages_of before)); stand = λ all. all; plain = λ all. all }

grown_then : {a b c : List Item} {m n : List Message} → Grown a b m → Grown b c n → Grown a c (m ++ n)
grown_then {a = a} {m = m} {n = n} h k = record {
  messages = k.messages ∙ ap (λ (l : List Message). l ++ n) h.messages ∙ append_assoc (messages_of a) m n;
  stand = λ all. k.stand (h.stand all);
  plain = λ all. k.plain (h.plain all);
}

grown_same : {a b c : List Item} {m n : List Message} → Grown a b m → b ≡ c → m ≡ n → Grown a c n
grown_same {a = a} {b = b} {n = n} h is more =
    subst (λ (row : List Item). Grown a row n) is (subst (λ (own : List Message). Grown a b own) more h)

define_grows : (before : List Item) (d : Definition) → d.local < 16 → Grown before (before ++ Defines d ∷ []) []
define_grows before d small = record {
  messages = last_definition [] 0 before d ∙ sym (append-nil (messages_of before));
  stand = λ all. stand_and_last [] before (Defines d) all small tt;
  plain = λ all. all_and_last before (Defines d) all tt;
}

data_grows : (before : List Item) (local : ℕ) (content : List ℕ) (d : Definition) → in_force before local ≡ Some d → local < 16
    → content_size d ≡ length content → Grown before (before ++ Data local None content ∷ []) (message_under d None content ∷ [])
data_grows before local content d here small long = record {
  messages = last_data [] 0 before local content d here;
  stand = λ all. stand_and_last [] before (Data local None content) all small
      (subst (λ (o : Option Definition). IsSomeAnd o (λ e. content_size e ≡ length content)) (sym here) long);
  plain = λ all. all_and_last before (Data local None content) all refl;
}

-- ---- an event of the timer

one_event : (before : List Item) (time type : ℕ) → Grown before (before ++ event_items (Some time) type) (timer_message time type ∷ [])
one_event before time type =
    let own = event_content time type in
    let defined = before ++ Defines event_definition ∷ [] in
    grown_same
    (grown_then (define_grows before event_definition (omega arith))
    (data_grows defined 0 own event_definition (in_force-defines before event_definition) (omega arith) refl))
    (append_assoc before (Defines event_definition ∷ []) (Data 0 None own ∷ []))
    (ap (λ (m : Message). m ∷ []) (event_stated time type))

event_grows : (before : List Item) (time : Option ℕ) (type : ℕ) → Grown before (before ++ event_items time type) (event_at time type)
event_grows before None type = grown_same (grown_none before) (sym (append-nil before)) refl
event_grows before (Some time) type = one_event before time type

-- ---- the sport

sport_grows : (before : List Item) (sport : Option SportStated) → Grown before (before ++ sport_items sport) (sport_added sport)
sport_grows before None = grown_same (grown_none before) (sym (append-nil before)) refl
sport_grows before (Some s) =
    let defined = before ++ Defines sport_definition ∷ [] in
    grown_same
    (grown_then (define_grows before sport_definition (omega arith))
    (data_grows defined 0 (sport_content s) sport_definition (in_force-defines before sport_definition) (omega arith) refl))
    (append_assoc before (Defines sport_definition ∷ []) (Data 0 None (sport_content s) ∷ []))
    (ap (λ (m : Message). m ∷ []) (sport_stated s))

-- ---- a part

-- each definition that is in force in the part is so in the row, its developer fields with the indices that are given to them
abbrev AreInForce : List (Option ℕ) → (ℕ → Option Definition) → List Item → Type 0
AreInForce given f items = (l : ℕ) (d : Definition) → f l ≡ Some d → in_force items l ≡ Some (definition_given given d)

or_more : (given : List (Option ℕ)) (is_own : Bool) (d e : Definition) (p q : Option Definition)
    → (p ≡ Some e → q ≡ Some (definition_given given e)) → option_or (if is_own then Some d else None) p ≡ Some e
    → option_or (if is_own then Some (definition_given given d) else None) q ≡ Some (definition_given given e)
or_more given true d e p q more is = ap (option_map (definition_given given)) is
or_more given false d e p q more is = more is

defined_on : (given : List (Option ℕ)) (f : ℕ → Option Definition) (items : List Item) (d : Definition) → AreInForce given f items
    → AreInForce given (in_force_after (Defines d) f) (items ++ Defines (definition_given given d) ∷ [])
defined_on given f items d are l e is =
    in_force-append items (Defines (definition_given given d)) l ∙ or_more given (d.local == l) d e (f l) (in_force items l) (are l e) is

data_on : (given : List (Option ℕ)) (f : ℕ → Option Definition) (items : List Item) (local : ℕ) (content : List ℕ) → AreInForce given f items
    → AreInForce given f (items ++ Data local None content ∷ [])
data_on given f items local content are l d is = in_force-data items local None content l ∙ are l d is

-- a data message that stays
stays_grows : (given : List (Option ℕ)) (before : List Item) (t : Tally) (m : LentData)
    → in_force before m.local ≡ Some (definition_given given m.definition) → m.local < 16 → IsWhole (DataHere m)
    → Grown before (before ++ data_changed given t m ∷ []) (changed given t (message_here m) ∷ [])
stays_grows given before t m here small whole =
    let d = m.definition in
    let bytes = content_changed given t d.global d.arch d.fields.items m.content in
    grown_same
    (data_grows before m.local bytes (definition_given given d) here small
    (size_given given d ∙ whole.2 ∙ sym (content_length given t d m.content (omega (arith, whole.2))))) refl
    (ap (λ (own : Message). own ∷ [])
    (message_again given t d m.content (omega (arith, whole.2))
    ∙ ap (λ (time : Option ℕ). changed given t (message_under d time m.content)) (sym whole.1)))

by_stays : (given : List (Option ℕ)) (b : Bool) (before : List Item) (t u : Tally) (own : Item) (left : List LentItem) (message : Message)
    (messages : List Message)
    → Grown before (before ++ (own ∷ [] ++ part_items given u left)) (message ∷ part given u messages)
    → Grown before (before ++ part_items given t left) (part given t messages)
    → Grown before (before ++ ((if b then own ∷ [] else []) ++ part_items given (if b then u else t) left))
    (if b then message ∷ part given u messages else part given t messages)
by_stays given true before t u own left message messages stay go = stay
by_stays given false before t u own left message messages stay go = go

items_grow : (given : List (Option ℕ)) (f : ℕ → Option Definition) (before : List Item) (t : Tally) (left : List LentItem) → AllUnder f left
    → AreInForce given f before → AllByRecursion IsWhole left
    → Grown before (before ++ part_items given t left) (part given t (messages_in left))
items_grow given f before t [] under are whole = grown_same (grown_none before) (sym (append-nil before)) refl
items_grow given f before t (DefinesHere d ∷ left) under are whole =
    let own = Defines (definition_given given d) in
    grown_same
    (grown_then (define_grows before (definition_given given d) under.0)
    (items_grow given (in_force_after (Defines d) f) (before ++ own ∷ []) t left under.1 (defined_on given f before d are) whole.1))
    (append_assoc before (own ∷ []) (part_items given t left)) refl
items_grow given f before t (DataHere m ∷ left) under are whole =
    let own = data_changed given t m in
    let u = tally_after t (message_here m) in
    let bytes = content_changed given t m.definition.global m.definition.arch m.definition.fields.items m.content in
    by_stays given (stays t (message_here m)) before t u own left (changed given t (message_here m)) (messages_in left)
    (grown_same
    (grown_then (stays_grows given before t m (are m.local m.definition under.1) under.0 whole.0)
    (items_grow given f (before ++ own ∷ []) u left under.2 (data_on given f before m.local bytes are) whole.1))
    (append_assoc before (own ∷ []) (part_items given u left)) refl)
    (items_grow given f before t left under.2 are whole.1)

part_grows : (given : List (Option ℕ)) (before : List Item) (t : Tally) (v : FileValue) → CanBeFile v → AllByRecursion IsPlain v.items
    → Grown before (before ++ part_items given t (items_lent v.items)) (part given t (messages_of v.items))
part_grows given before t v can plain =
    grown_same
    (items_grow given (in_force []) before t (items_lent v.items) (lent_under [] 0 v.items can.items_follow)
    (λ l d is. absurd (none-some d is)) (lent_whole [] 0 v.items can.items_follow plain))
    refl (ap (part given t) (lent_messages [] 0 v.items))

-- ---- all parts

one_grows : (given : List (Option ℕ)) (before : List Item) (t : Tally) (followed : Bool) (v : FileValue) → CanBeFile v
    → AllByRecursion IsPlain v.items → Grown before (before ++ one_items given t followed v.items) (joined_one given t followed (messages_of v.items))
one_grows given before t followed v can plain =
    let span = span_of t.keeps_laps (messages_of v.items) in
    let start = event_items (start_due t.follows span) 0 in
    let own = part_items given t (items_lent v.items) in
    let stop = event_items (stop_due followed span) 4 in
    grown_same
    (grown_then (event_grows before (start_due t.follows span) 0)
    (grown_then (part_grows given (before ++ start) t v can plain) (event_grows ((before ++ start) ++ own) (stop_due followed span) 4)))
    (append_assoc (before ++ start) own stop ∙ append_assoc before start (own ++ stop)) refl

all_grow : (makers : List (Option Maker)) (before : List Item) (t : Tally) (parts : List Part) → AllByRecursion (λ p. CanBeFile p.file) parts
    → AllByRecursion (λ p. AllByRecursion IsPlain p.file.items) parts
    → Grown before (before ++ items_after makers t parts) (joined_after makers t (map (λ p. messages_of p.file.items) parts))
all_grow makers before t [] can plain = grown_same (grown_none before) (sym (append-nil before)) refl
all_grow makers before t (p ∷ parts) can plain =
    let followed = is_followed (map (λ q. messages_of q.file.items) parts) in
    let past = declared_past makers (messages_of p.file.items) in
    let u = tally_before t (messages_of p.file.items) in
    let own = one_items past.given u followed p.file.items in
    let next = next_tally (tally_past u (messages_of p.file.items)) in
    grown_same
    (grown_then (one_grows past.given before u followed p.file can.0 plain.0) (all_grow past.makers (before ++ own) next parts can.1 plain.1))
    (append_assoc before own (items_after past.makers next parts)) refl

joined_grows : (parts : List Part) → AllByRecursion (λ p. CanBeFile p.file) parts
    → AllByRecursion (λ p. AllByRecursion IsPlain p.file.items) parts
    → Grown [] (joined_items parts) (joined_messages (own_messages parts))
joined_grows parts can plain =
    let all = own_messages parts in
    grown_then (all_grow no_makers [] (first_tally (laps_stay all)) parts can plain) (sport_grows (parts_items parts) (sport_due all))

-- of the joined file

pub joined_is_file : (first : Part) (others : List Part) → IsFrame first.file.frame → AllByRecursion (λ p. CanBeFile p.file) (first ∷ others)
    → AllByRecursion (λ p. AllByRecursion IsPlain p.file.items) (first ∷ others) → FileOf (encoded (joined_file first others)) (joined_file first others)
joined_is_file first others frame can plain =
    stand_file (joined_file first others) frame ((joined_grows (first ∷ others) can plain).stand tt)

pub joined_states : (first : Part) (others : List Part) → AllByRecursion (λ p. CanBeFile p.file) (first ∷ others)
    → AllByRecursion (λ p. AllByRecursion IsPlain p.file.items) (first ∷ others)
    → messages_of (joined_file first others).items ≡ joined_messages (messages_of first.file.items ∷ map (λ p. messages_of p.file.items) others)
joined_states first others can plain = (joined_grows (first ∷ others) can plain).messages

pub joined_is_plain : (first : Part) (others : List Part) → AllByRecursion (λ p. CanBeFile p.file) (first ∷ others)
    → AllByRecursion (λ p. AllByRecursion IsPlain p.file.items) (first ∷ others) → AllByRecursion IsPlain (joined_file first others).items
joined_is_plain first others can plain = (joined_grows (first ∷ others) can plain).plain tt
