-- What the decoder knows on its way through the bytes of a file.
use Rattle.std.specs.Prelude.{◌≡◌, ◌≢◌, ℕ, ◌+◌, ◌^◌, ◌≤◌, ◌<◌, List, ◌++◌, length, take, drop, slice_index, Ok, Err, Option, ◌⊎◌}
use Rattle.fit_base.specs.Number.{low_first}
use Rattle.fit_base.specs.Checksum.{crc}
use Rattle.fit_grammar.specs.declared.definition.Definition.{Definition}
use Rattle.fit_grammar.specs.declared.file.header.Header.{Header}
use Rattle.fit_grammar.specs.declared.file.fault.FaultKind.{FaultKind}
use Rattle.fit_grammar.specs.declared.file.fault.FaultKind.TheVariants.{Truncated, UndefinedLocal, SplitMessage, FileCrc, TrailingBytes, Memory}
use Rattle.fit_grammar.specs.declared.file.fault.FileFault.{FileFault}
use Rattle.fit_grammar.specs.declared.item.ItemFault.TheVariants as items
use Rattle.fit_grammar.specs.Format.Item.{Item}
use Rattle.fit_grammar.specs.Format.Records.{in_force}
use Rattle.fit_grammar.specs.Calls.Step.{least_length_of, ItemAtFront, ItemBegun}
use Rattle.fit_grammar.specs.Format.File.{FileValue, IsHeader, IsClosing}
use Rattle.fit_grammar.specs.Calls.Adding.{with_item}
use Rattle.fit_grammar.specs.Format.Refusal.{Front, front_bytes, front_end, IsFront, Refusal}

-- the bytes are a front, whose items the file has, and more bytes after it
pub record Reached (bytes : List ℕ) (v : FileValue) (at end : ℕ) : Type 0 where
  pub front : Front
  pub rest : List ℕ
  pub is_front : IsFront front
  pub frame_is : front.frame ≡ v.frame
  pub items_are : front.items ≡ v.items
  pub joined : bytes ≡ front_bytes front ++ rest
  pub at_is : at ≡ front_end front
  pub end_is : end ≡ length front.header + front.size
  pub fits : front.size < 2 ^ 32

-- the bytes end within their header
abbrev pub IsShort : List ℕ → Type 0
IsShort bytes = (length bytes < 14) × ((length bytes ≡ 0) ⊎ (length bytes < slice_index bytes 0))

-- the bytes begin with this header
pub record BeginsWith (bytes : List ℕ) (header : Header) : Type 0 where
  pub within : header.frame.header_size ≤ length bytes
  pub is_header : IsHeader (take header.frame.header_size bytes) header.frame header.data_size

-- the bytes are refused with this fault, which is not lack of memory
abbrev pub IsRefusedBy : List ℕ → FileFault → Type 0
IsRefusedBy bytes fault = (fault.kind ≢ Memory) × Refusal bytes fault.kind fault.place

-- an item of `used` bytes was taken from the front of the window into the file
pub record TakesItem (old new : FileValue) (window : List ℕ) (left used : ℕ) : Type 0 where
  pub item : Item
  pub at_front : ItemAtFront (in_force old.items) window item used
  pub inside : used ≤ left
  pub added : new ≡ with_item old item

-- the item at the front of the window has this length; all of it is there, and within what is left of the data
pub record IsWholeLength (definition_for : ℕ → Option Definition) (window : List ℕ)
    (left used : ℕ) : Type 0 where
  pub least : least_length_of definition_for window ≡ Ok used
  pub inside : used ≤ left
  pub there : used ≤ length window

-- what the window shows if no item is taken, with so much left of the data
abbrev pub WindowShows : (ℕ → Option Definition) → List ℕ → ℕ → FaultKind → Type 0
WindowShows definition_for window left (UndefinedLocal local) =
    least_length_of definition_for window ≡ Err (items.UndefinedLocal local)
WindowShows definition_for window left SplitMessage =
    (least : ℕ) × (least_length_of definition_for window ≡ Ok least) × (left < least)
WindowShows definition_for window left Truncated =
    (least : ℕ) × (least_length_of definition_for window ≡ Ok least) × (least ≤ left)
    × ItemBegun definition_for window
WindowShows definition_for window left _ = ⊥

-- lack of memory for an item whose first byte is there, or the fault that the window shows
abbrev pub IsItemFault : (ℕ → Option Definition) → List ℕ → ℕ → FaultKind → Type 0
IsItemFault definition_for window left kind =
    ((kind ≡ Memory) × (1 ≤ length window)) ⊎ WindowShows definition_for window left kind

-- a fault is at its item, or, if the input ends too soon, at the end of the input
abbrev pub fault_of : FaultKind → ℕ → ℕ → FileFault
fault_of Truncated at len = record { kind = Truncated; place = len }
fault_of kind at len = record { kind = kind; place = at }

-- what the bytes show after their records, which end at `end`
abbrev pub EndShows : List ℕ → ℕ → FaultKind → ℕ → Type 0
EndShows bytes end Truncated place = (place ≡ length bytes) × (length bytes < end + 2)
EndShows bytes end FileCrc place =
    (place ≡ end) × (end + 2 ≤ length bytes)
    × (low_first (take 2 (drop end bytes)) ≢ crc (take end bytes))
EndShows bytes end TrailingBytes place =
    (place ≡ end + 2) × (end + 2 < length bytes)
    × IsClosing (take end bytes) (take 2 (drop end bytes))
EndShows bytes end _ place = ⊥
