-- What a file in memory can be: every number fits into the bits or bytes that it is written in, and every data message has its
-- definition.
use Rattle.std.specs.Prelude.{◌^◌, ◌<◌, List, [], ◌∷◌, ◌++◌, length}
use Rattle.std.specs.List.{AllByRecursion}
use Rattle.fit_grammar.specs.declared.definition.FieldDefinition.{FieldDefinition}
use Rattle.fit_grammar.specs.declared.definition.DeveloperFieldDefinition.{DeveloperFieldDefinition}
use Rattle.fit_grammar.specs.declared.definition.Definition.{Definition}
use Rattle.fit_grammar.specs.declared.file.frame.Frame.{Frame}
use Rattle.fit_grammar.specs.Format.Item.{Item, Defines, Data}
use Rattle.fit_grammar.specs.Format.Records.{IsDefined, data_size}
use Rattle.fit_grammar.specs.Format.Encoding.{HasEncoding}
use Rattle.fit_grammar.specs.Format.File.{FileValue, IsFrame}

-- one byte of a header for the protocol version, and two for the profile version
pub record FrameFits (frame : Frame) : Type 0 where
  pub protocol : frame.protocol < 256
  pub profile : frame.profile < 65536

-- the three bytes of a field
pub record FieldFits (field : FieldDefinition) : Type 0 where
  pub number : field.number < 256
  pub size : field.size < 256
  pub base : field.base < 256

-- the three bytes of a developer field
pub record DeveloperFieldFits (field : DeveloperFieldDefinition) : Type 0 where
  pub number : field.number < 256
  pub size : field.size < 256
  pub index : field.index < 256

-- two bytes for the global number, one for the number of fields, and the fields; the same for the developer fields
pub record DefinitionFits (d : Definition) : Type 0 where
  pub global : d.global < 65536
  pub count : length d.fields.items < 256
  pub fields : AllByRecursion FieldFits d.fields.items
  pub developer_count : length d.developer.items < 256
  pub developer : AllByRecursion DeveloperFieldFits d.developer.items

-- the numbers of an item fit into their bytes
abbrev pub ItemFits : Item → Type 0
ItemFits (Defines d) = DefinitionFits d
ItemFits (Data local offset content) = AllByRecursion (λ byte. byte < 256) content

-- the item has a spelling, and after these items it is defined
pub record CanFollow (before : List Item) (item : Item) : Type 0 where
  pub encodable : HasEncoding item
  pub fits : ItemFits item
  pub defined : IsDefined before item

-- after these items, each of the items can be in its place
abbrev pub AllCanFollow : List Item → List Item → Type 0
AllCanFollow before [] = Unit {0}
AllCanFollow before (item ∷ items) =
    CanFollow before item × AllCanFollow (before ++ item ∷ []) items

-- what a file can be
pub record CanBeFile (v : FileValue) : Type 0 where
  pub is_frame : IsFrame v.frame
  pub frame_fits : FrameFits v.frame
  pub items_follow : AllCanFollow [] v.items
  pub bound : data_size v.items < 2 ^ 32
