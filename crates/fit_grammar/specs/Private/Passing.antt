-- What is known of a file while its items are passed over where they are.
use Rattle.std.specs.Prelude.{◌≡◌, ℕ, ◌+◌, ◌≤◌, List, Option}
use Rattle.fit_grammar.specs.declared.definition.Definition.{Definition}
use Rattle.fit_grammar.specs.declared.file.frame.Frame.{Frame}
use Rattle.fit_grammar.specs.declared.file.header.Header.{Header}
use Rattle.fit_grammar.specs.Format.Item.{Item, item_size}
use Rattle.fit_grammar.specs.Format.Records.{in_force, data_size}
use Rattle.fit_grammar.specs.Format.File.{FileValue}
use Rattle.fit_grammar.specs.Calls.Step.{ItemAtFront}
use Rattle.fit_grammar.specs.Calls.Table.{in_force_after}
use Rattle.fit_grammar.specs.Private.Decoding.{Reached}

-- an item of `used` bytes is at the front of the window, and is written as `written` bytes; the definitions are those after it
pub record PassesItem (before after : ℕ → Option Definition) (window : List ℕ)
    (left used written : ℕ) : Type 0 where
  pub item : Item
  pub at_front : ItemAtFront before window item used
  pub inside : used ≤ left
  pub written_is : written ≡ item_size item
  pub taken : after ≡ in_force_after item before

abbrev pub framed_items : Frame → List Item → FileValue
framed_items frame items = record { frame = frame; items = items }

-- the end of the records
abbrev pub end_of : Header → ℕ
end_of header = header.frame.header_size + header.data_size

-- the items up to the place were passed; they are written as `size` bytes, and these definitions are in force after them
pub record HasPassedTo (definition_for : ℕ → Option Definition) (bytes : List ℕ) (header : Header)
    (at size : ℕ) : Type 0 where
  pub items : List Item
  pub reached : Reached bytes (framed_items header.frame items) at (end_of header)
  pub size_is : size ≡ data_size items
  pub in_force_are : definition_for ≡ in_force items

-- all of them were
pub record HasPassedAll (bytes : List ℕ) (header : Header) (size : ℕ) : Type 0 where
  pub items : List Item
  pub reached : Reached bytes (framed_items header.frame items) (end_of header) (end_of header)
  pub size_is : size ≡ data_size items
