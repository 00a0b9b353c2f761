-- A message more of the walk, or one that is passed over: for `walk`.
use Rattle.std.proofs.Common.{◌≡◌, ℕ, ◌+◌, ◌<◌, ◌≤◌, ◌==◌, max, Bool, true, false, not, ◌||◌, List, [], ◌∷◌, length, get_or, map, refl, sym, ap, ◌∙◌, eq-eqb, arith, rules}
use Rattle.std.proofs.lemmas.List.{length-map}
use Rattle.std.proofs.lemmas.List.Filters.{length-filter_both}
use Rattle.std.specs.Option.{is_some}
use Rattle.fit_grammar.specs.Format.Item.{Item}
use Rattle.fit_grammar.specs.Format.Message.{Message, messages_of}
use Rattle.fit_grammar.specs.Calls.LentItem.{LentItem, LentData, DefinesHere, DataHere, items_lent, message_here, messages_in}
use Rattle.fit_grammar.proofs.KeptRow.Lent.{lent_messages}
use Rattle.fit_columns.specs.Columns.{messages_numbered}
use Rattle.fit_columns.specs.Fields.{Notes, fields_here, held_in, timed_in}
use Rattle.fit_columns.specs.Rows.{Row, rows_from, rows_of}
use Rattle.fit_columns.proofs.RowLemmas.{message_at}

abbrev pub row_at : ℕ → LentData → Row
row_at place m = record { place = place; lent = m }

pub rows_more : (message place : ℕ) (m : LentData) (items : List LentItem) → m.definition.global ≡ message →
    rows_from message place (DataHere m ∷ items) ≡ row_at place m ∷ rows_from message (place + 1) items
rows_more message place m items is =
    let yes : (m.definition.global == message) ≡ true = eq-eqb _ _ is in
    rw yes refl

pub rows_skip : (message place : ℕ) (m : LentData) (items : List LentItem) → (m.definition.global ≡ message → ⊥) →
    rows_from message place (DataHere m ∷ items) ≡ rows_from message (place + 1) items
rows_skip message place m items other =
    let no : (m.definition.global == message) ≡ false = search rules in
    rw no refl

-- the rows have the messages of the number
pub rows_messages : (message place : ℕ) (items : List LentItem) →
    map message_at (rows_from message place items) ≡ messages_numbered message (messages_in items)
rows_messages message place [] = refl
rows_messages message place (DefinesHere d ∷ items) = rows_messages message place items
rows_messages message place (DataHere m ∷ items) = by_number (m.definition.global == message) refl (rows_messages message (place + 1) items)
  where
    by_number : (b : Bool) → (m.definition.global == message) ≡ b →
        map message_at (rows_from message (place + 1) items) ≡ messages_numbered message (messages_in items) →
        map message_at (rows_from message place (DataHere m ∷ items)) ≡ messages_numbered message (messages_in (DataHere m ∷ items))
    by_number true is rest = rw is (ap (λ ms. message_here m ∷ ms) rest)
    by_number false is rest = rw is rest

pub rows_count : (message place : ℕ) (items : List LentItem) →
    length (rows_from message place items) ≡ length (messages_numbered message (messages_in items))
rows_count message place items =
    sym (length-map (rows_from message place items) message_at) ∙ ap length (rows_messages message place items)

-- no more of them than messages
pub few_rows : (message place : ℕ) (items : List LentItem) → length (rows_from message place items) ≤ length (messages_in items)
few_rows message place items =
    omega (
      arith,
      rows_count message place items,
      length-filter_both (λ (m : Message). m.global == message) (λ m. not (m.global == message)) (λ _. refl) (messages_in items),
    )

pub held_step : (message code : ℕ) (before after : List ℕ) (m : LentData) (items : List LentItem) (all : ℕ) → m.definition.global ≡ message →
    code < length before → Notes (fields_here m.definition) before after →
    max (get_or before code 0) (held_in message (DataHere m ∷ items) code) ≡ all →
    max (get_or after code 0) (held_in message items code) ≡ all
held_step message code before after m items all is below notes h =
    let yes : (m.definition.global == message) ≡ true = eq-eqb _ _ is in
    let kept = rw yes at h in
    omega (arith, notes code below, kept)

pub held_skip : (message code : ℕ) (m : LentData) (items : List LentItem) → (m.definition.global ≡ message → ⊥) →
    held_in message (DataHere m ∷ items) code ≡ held_in message items code
held_skip message code m items other =
    let no : (m.definition.global == message) ≡ false = search rules in
    let none : max 0 (held_in message items code) ≡ held_in message items code = omega arith in
    rw no none

pub timed_step : (message : ℕ) (before has after : Bool) (m : LentData) (items : List LentItem) (all : Bool) → m.definition.global ≡ message →
    has ≡ is_some m.time → after ≡ (before || has) → (before || timed_in message (DataHere m ∷ items)) ≡ all →
    (after || timed_in message items) ≡ all
timed_step message before has after m items all is same is_after h =
    let yes : (m.definition.global == message) ≡ true = eq-eqb _ _ is in
    let kept = rw yes at h in
    joined before has (timed_in message items) after all is_after (ap (λ b. before || (b || timed_in message items)) same ∙ kept)
  where
    joined : (old has rest new all : Bool) → new ≡ (old || has) → (old || (has || rest)) ≡ all → (new || rest) ≡ all
    joined true has rest new all is before = ap (λ b. b || rest) is ∙ before
    joined false true rest new all is before = ap (λ b. b || rest) is ∙ before
    joined false false rest new all is before = ap (λ b. b || rest) is ∙ before

-- ---- all rows of a file

pub all_messages : (message : ℕ) (items : List Item) →
    map message_at (rows_of message (items_lent items)) ≡ messages_numbered message (messages_of items)
all_messages message items =
    rows_messages message 0 (items_lent items) ∙ ap (λ ms. messages_numbered message ms) (lent_messages [] 0 items)

pub all_count : (message : ℕ) (items : List Item) →
    length (rows_of message (items_lent items)) ≡ length (messages_numbered message (messages_of items))
all_count message items = sym (length-map (rows_of message (items_lent items)) message_at) ∙ ap length (all_messages message items)
