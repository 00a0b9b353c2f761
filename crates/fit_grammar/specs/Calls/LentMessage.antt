-- Messages as they are lent from a data message: what contracts see of them.
use Rattle.std.specs.Prelude.{ℕ, Option, None, Some}
use Rattle.std.specs.Option.{option_or}
use Rattle.fit_grammar.specs.declared.item.Item.{Item as ReadItem}
use Rattle.fit_grammar.specs.declared.item.Item.TheVariants as items
use Rattle.fit_grammar.specs.Format.Message.{Message, message_under, compressed_time, time_stated}

-- a message, and the time of its compressed timestamp, if it has one
pub record LentMessage : Type 0 where
  pub compressed : Option ℕ
  pub message : Message

-- the message of an item, after the time before it; a definition has none
abbrev pub message_lent : ReadItem → ℕ → Option LentMessage
message_lent (items.Definition d) before = None
message_lent (items.Data m) before =
    let time = compressed_time before m.offset in
    Some (record { compressed = time; message = message_under m.definition time m.content.now })

-- the time that a message gives: that of its compressed timestamp, or else the one that its fields state
abbrev pub lent_time : LentMessage → Option ℕ
lent_time m = option_or m.compressed (time_stated m.message.fields)
