-- Fields of a message, as they are lent.
use Rattle.std.specs.Prelude.{ℕ, [], ◌∷◌}
use Rattle.fit_base.specs.declared.base.BaseType.{BaseType}
use Rattle.fit_base.specs.Base.{row_of}
use Rattle.fit_base.specs.Value.{Numbers, values_of}
use Rattle.fit_grammar.specs.declared.message.developer.DeveloperField.{DeveloperField}
use Rattle.fit_grammar.specs.declared.message.fields.Field.{Field}
use Rattle.fit_grammar.specs.Format.Message.{MessageDeveloperField, MessageField}

-- its number, its base type byte and its values
abbrev pub field_view : Field → MessageField
field_view field =
    record {
      number = field.number;
      base = field.value.base;
      values = values_of field.value;
    }

-- the field of this number and this type with this one value
abbrev pub field_with : ℕ → BaseType → ℕ → MessageField
field_with number base value =
    record {
      number = number;
      base = (row_of base).code;
      values = Numbers (value ∷ []);
    }

-- a developer field's index, number and bytes, with their order
abbrev pub developer_view : DeveloperField → MessageDeveloperField
developer_view field =
    record {
      index = field.index;
      number = field.number;
      arch = field.arch;
      bytes = field.bytes.now;
    }
