-- What is known while the items of a part are written.
use Rattle.std.specs.Prelude.{◌≡◌, ◌<◌, ℕ, List, ◌++◌, length, Option, None, Ok}
use Rattle.std.specs.List.{AllByRecursion}
use Rattle.fit_grammar.specs.declared.item.data_message.DataMessage.{DataMessage}
use Rattle.fit_grammar.specs.Format.Item.{content_size}
use Rattle.fit_grammar.specs.Format.Encoding.{encoded_items}
use Rattle.fit_grammar.specs.Calls.CheckedOutput.{WritesChecked}
use Rattle.fit_grammar.specs.Calls.LentItem.{LentItem, DefinesHere, DataHere, data_under, messages_in}
use Rattle.fit_joining.specs.declared.tally.Tally.{Tally}
use Rattle.fit_joining.specs.Part.{tally_past}
use Rattle.fit_joining.specs.JoinedItems.{part_items}

-- a data message of a part, which has no compressed timestamp
abbrev pub data_lent : DataMessage → LentItem
data_lent m = DataHere (data_under m.definition m.local m.offset None m.content.now)

-- the local number is one, and a data message has no compressed timestamp and a content as long as its definition requires
abbrev pub IsWhole : LentItem → Type 0
IsWhole (DefinesHere d) = d.local < 16
IsWhole (DataHere m) =
    (m.offset ≡ None) × (m.time ≡ None) × (content_size m.definition ≡ length m.content)

-- this much of the text was handed over and added to the checksum, and the rest of it is left
pub record LeavesChecked (old now : Option (List ℕ)) (before after : ℕ) (text rest : List ℕ) : Type 0 where
  pub done : List ℕ
  pub split : text ≡ done ++ rest
  pub written : WritesChecked {T = Unit {0}} {E = Unit {0}} old now before after (Ok tt) done

-- the part was written up to the items `left`, and what is counted after all of it is `past`
pub record LeavesPart (old now : Option (List ℕ)) (before after : ℕ) (text : List ℕ) (past tally : Tally)
    (given : List (Option ℕ)) (left : List LentItem) : Type 0 where
  pub whole : AllByRecursion IsWhole left
  pub counts : tally_past tally (messages_in left) ≡ past
  pub leaves : LeavesChecked old now before after text (encoded_items (part_items given tally left))
