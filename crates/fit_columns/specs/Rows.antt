-- The messages of one number, in their places among those of a file.
use Rattle.std.specs.Prelude.{ℕ, ◌+◌, List, [], ◌∷◌, Option, ◌==◌, if◌then◌else◌}
use Rattle.fit_grammar.specs.declared.item.data_message.DataMessage.{DataMessage}
use Rattle.fit_grammar.specs.Calls.LentItem.{LentItem, LentData, DefinesHere, DataHere, data_under}

-- a data message, and its place among the messages of the file
pub record Row : Type 0 where
  pub place : ℕ
  pub lent : LentData

abbrev pub row_of : ℕ → Option ℕ → DataMessage → Row
row_of place time m =
    record { place = place; lent = data_under m.definition m.local m.offset time m.content.now }

-- the messages with this global number, the first of the items in this place
abbrev pub rows_from : ℕ → ℕ → List LentItem → List Row
rows_from message place [] = []
rows_from message place (DefinesHere d ∷ items) = rows_from message place items
rows_from message place (DataHere m ∷ items) =
    if m.definition.global == message
    then record { place = place; lent = m } ∷ rows_from message (place + 1) items
    else rows_from message (place + 1) items

abbrev pub rows_of : ℕ → List LentItem → List Row
rows_of message items = rows_from message 0 items
