-- What the calls over fields of every kind answer.
use Rattle.std.specs.Prelude.{◌≡◌, ℕ, ◌<◌, ◌≤◌, ◌⊎◌, List, length, take}
use Rattle.fit_grammar.specs.Calls.LentItem.{items_lent}
use Rattle.fit_grammar.specs.Format.File.{FileValue, FileOf}
use Rattle.fit_grammar.specs.Format.Message.{messages_of}
use Rattle.fit_columns.specs.declared.values.ValueHead.{ValueHead}
use Rattle.fit_columns.specs.Columns.{messages_numbered}
use Rattle.fit_columns.specs.Fields.{SaysHeld}
use Rattle.fit_columns.specs.Rows.{rows_of}
use Rattle.fit_columns.specs.Values.{AreHeads, values_of}

-- the bytes are a file, and each code has what the messages of this number hold there
pub record HasFields (bytes : List ℕ) (message : ℕ) (held : List ℕ) : Type 0 where
  pub file : FileValue
  pub is : FileOf bytes file
  pub says : SaysHeld message (items_lent file.items) held

-- the bytes are a file, with so many messages of this number, and so many bytes of values of these fields in them; each column has
-- the heads of its field's values, and the bytes of the values are there
pub record HasValues (bytes : List ℕ) (message : ℕ) (fields : List ℕ) (room rows len : ℕ)
    (heads : List ValueHead) (values : List ℕ) : Type 0 where
  pub file : FileValue
  pub is : FileOf bytes file
  pub rows_are : rows ≡ length (messages_numbered message (messages_of file.items))
  pub fit : rows ≤ room
  pub heads_are : AreHeads fields room (rows_of message (items_lent file.items)) heads
  pub within : len ≤ length values
  pub are : take len values ≡ values_of fields (rows_of message (items_lent file.items))

-- the bytes are a file, with so many messages and bytes of values, and one of these has no room
pub record NeedsRoomForValues (bytes : List ℕ) (message : ℕ) (fields : List ℕ)
    (room size rows len : ℕ) : Type 0 where
  pub file : FileValue
  pub is : FileOf bytes file
  pub rows_are : rows ≡ length (messages_numbered message (messages_of file.items))
  pub len_is : len ≡ length (values_of fields (rows_of message (items_lent file.items)))
  pub short : (room < rows) ⊎ (size < len)
