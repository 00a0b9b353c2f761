-- What the front of a window of bytes shows about an item.
use Rattle.std.specs.Prelude.{◌≡◌, ℕ, ◌+◌, ◌*◌, ◌<◌, ◌≤◌, Bool, true, false, List, [], ◌∷◌, ◌++◌, length, take, slice_index, Option, Some, None, Result, Ok, Err, nat_lt, if◌then◌else◌}
use Rattle.fit_grammar.specs.declared.definition.Definition.{Definition}
use Rattle.fit_grammar.specs.declared.item.Item.{Item as ReadItem}
use Rattle.fit_grammar.specs.declared.item.Item.TheVariants as items
use Rattle.fit_grammar.specs.declared.item.ItemFault.{ItemFault}
use Rattle.fit_grammar.specs.declared.item.ItemFault.TheVariants.{UndefinedLocal}
use Rattle.fit_grammar.specs.declared.item.Step.{Step}
use Rattle.fit_grammar.specs.declared.item.Step.TheVariants as steps
use Rattle.fit_grammar.specs.Format.Item.{Item, Defines, Data, Head, DefinitionHead, DataHead, head_of, Spells, content_size, part_size}
use Rattle.fit_grammar.specs.Format.Records.{IsDefinedBy}

-- an item as it was read
abbrev pub item_of : ReadItem → Item
item_of (items.Definition d) = Defines d
item_of (items.Data m) = Data m.local m.offset m.content.now

-- the least number of bytes of a definition, by its first bytes; its fields end at `end`, and developer fields are announced or
-- not
abbrev pub after_fields : Bool → ℕ → List ℕ → ℕ
after_fields false end window = end
after_fields true end window =
    if nat_lt end (length window)
    then end + part_size true (slice_index window end) else end + part_size true 0

-- the same, by its first bytes alone
abbrev pub definition_length_of : Bool → List ℕ → ℕ
definition_length_of announced window =
    if nat_lt (length window) 6
    then 6 else after_fields announced (6 + 3 * slice_index window 5) window

-- how many bytes a data message has under a definition
abbrev pub data_length_of : ℕ → Option Definition → Result ℕ ItemFault
data_length_of local None = Err (UndefinedLocal local)
data_length_of local (Some d) = Ok (1 + content_size d)

abbrev pub length_by : (ℕ → Option Definition) → Head → List ℕ → Result ℕ ItemFault
length_by definition_for (DefinitionHead local announced) window =
    Ok (definition_length_of announced window)
length_by definition_for (DataHead local offset) window =
    data_length_of local (definition_for local)

-- the least number of bytes of the item at the front of a window, as far as the window shows; or why there is none
abbrev pub least_length_of : (ℕ → Option Definition) → List ℕ → Result ℕ ItemFault
least_length_of definition_for [] = Ok 1
least_length_of definition_for (first ∷ rest) =
    length_by definition_for (head_of first) (first ∷ rest)

-- a spelling of length `whole` has at least n bytes, and exactly n if that many are there
pub record IsLeastLength (n there whole : ℕ) : Type 0 where
  pub least : n ≤ whole
  pub exact : n ≤ there → n ≡ whole

-- the first bytes of the window spell the item, which is defined
pub record ItemAtFront (definition_for : ℕ → Option Definition) (window : List ℕ) (item : Item)
    (used : ℕ) : Type 0 where
  pub within : used ≤ length window
  pub spelled : Spells item (take used window)
  pub defined : IsDefinedBy definition_for item

-- with some more bytes after it, the window spells an item that is defined
pub record ItemBegun (definition_for : ℕ → Option Definition) (window : List ℕ) : Type 0 where
  pub item : Item
  pub rest : List ℕ
  pub more : 1 ≤ length rest
  pub spelled : Spells item (window ++ rest)
  pub defined : IsDefinedBy definition_for item

-- the first byte is that of a data message of this local number, which has no definition
pub record ShowsUndefined (definition_for : ℕ → Option Definition) (window : List ℕ)
    (local : ℕ) : Type 0 where
  pub first : ℕ
  pub rest : List ℕ
  pub offset : Option ℕ
  pub joined : window ≡ first ∷ rest
  pub head : head_of first ≡ DataHead local offset
  pub undefined : definition_for local ≡ None

-- what a step states about the window
abbrev pub StepReports : (ℕ → Option Definition) → List ℕ → Step → Type 0
StepReports definition_for window (steps.Item item used) =
    ItemAtFront definition_for window (item_of item) used
StepReports definition_for window steps.NeedMore = ItemBegun definition_for window
StepReports definition_for window (steps.Refused (UndefinedLocal local)) =
    ShowsUndefined definition_for window local

-- the step found this item
abbrev pub IsStepItem : Step → Item → ℕ → Type 0
IsStepItem (steps.Item found count) item used = (item_of found ≡ item) × (count ≡ used)
IsStepItem _ item used = ⊥

-- a data message that was found has the definition of its local number
abbrev pub LendsFrom : (ℕ → Option Definition) → Step → Type 0
LendsFrom definition_for (steps.Item (items.Data m) used) =
    definition_for m.local ≡ Some m.definition
LendsFrom definition_for _ = Unit {0}

-- a definition that was found has a local number below this
abbrev pub DefinesBelow : ℕ → Step → Type 0
DefinesBelow count (steps.Item (items.Definition d) used) = d.local < count
DefinesBelow count _ = Unit {0}

-- the step is right for the window under these definitions
pub record IsStep (definition_for : ℕ → Option Definition) (window : List ℕ)
    (step : Step) : Type 0 where
  pub states : StepReports definition_for window step
  pub lent : LendsFrom definition_for step
  pub local : DefinesBelow 16 step
