-- Fields of one value each, and messages of such fields.
use Rattle.std.specs.Prelude.{ℕ, ◌^◌, ◌<◌, ◌≤◌, Bool, List, [], ◌∷◌, map, flat_map, sum_by, Option, IfSome, unwrap_or, ◌==◌}
use Rattle.std.specs.Int.{bytes_low_first}
use Rattle.std.specs.List.{AllByRecursion, filter_map}
use Rattle.fit_base.specs.declared.base.BaseType.{BaseType}
use Rattle.fit_base.specs.declared.order.Arch.TheVariants.{Little}
use Rattle.fit_base.specs.Base.{row_of}
use Rattle.fit_base.specs.Value.{Numbers}
use Rattle.fit_grammar.specs.declared.definition.FieldDefinition.{FieldDefinition}
use Rattle.fit_grammar.specs.declared.definition.Definition.{Definition}
use Rattle.fit_grammar.specs.Format.Item.{native_definition}
use Rattle.fit_grammar.specs.Format.Message.{Message, MessageField}
use Rattle.fit_activity.specs.declared.speaking.profile_field.ProfileField.{ProfileField}

-- the field of this number in the profile, of this base type, with this value as an unsigned number
abbrev pub profile_field : ℕ → BaseType → ℕ → ProfileField
profile_field number base value = record { number = number; base = base; value = value }

-- the invalid value of a base type, which stands for no value
abbrev pub invalid_of : BaseType → ℕ
invalid_of base = (row_of base).invalid

-- the field with this value, or with the invalid value if there is none
abbrev pub profile_field_or_invalid : ℕ → BaseType → Option ℕ → ProfileField
profile_field_or_invalid number base value =
    profile_field number base (unwrap_or value (invalid_of base))

abbrev pub is_invalid : ProfileField → Bool
is_invalid field = field.value == invalid_of field.base

-- the value fits into the bytes of its base type, which are at most four
pub record ProfileFieldFits (field : ProfileField) : Type 0 where
  pub value : field.value < 256 ^ (row_of field.base).size
  pub short : (row_of field.base).size ≤ 4

-- its base type has at most four bytes
abbrev pub IsShortField : ProfileField → Type 0
IsShortField field = (row_of field.base).size ≤ 4

-- the fields that are present
abbrev pub present : List (Option ProfileField) → List ProfileField
present fields = filter_map (λ field. field) fields

abbrev pub OptionFits : Option ProfileField → Type 0
OptionFits field = IfSome field ProfileFieldFits

-- the field in a message
abbrev pub message_field : ProfileField → MessageField
message_field field =
    record {
      number = field.number;
      base = (row_of field.base).code;
      values = Numbers (field.value ∷ []);
    }

-- a message by its global number and its fields, under a local number
pub record ProfileMessage : Type 0 where
  pub local : ℕ
  pub global : ℕ
  pub fields : List ProfileField

-- each of its values fits
abbrev pub ProfileMessageFits : ProfileMessage → Type 0
ProfileMessageFits profile_message = AllByRecursion ProfileFieldFits profile_message.fields

-- the message as it is read, which does not depend on the local number; it has no developer fields
abbrev pub as_message : ProfileMessage → Message
as_message profile_message =
    record {
      global = profile_message.global;
      fields = map message_field profile_message.fields;
      developer = [];
    }

-- its definition, little-endian
abbrev pub field_definition : ProfileField → FieldDefinition
field_definition field =
    record {
      number = field.number;
      size = (row_of field.base).size;
      base = (row_of field.base).code;
    }

abbrev pub as_definition : ProfileMessage → Definition
as_definition profile_message =
    native_definition profile_message.local Little profile_message.global
    (map field_definition profile_message.fields)

-- the bytes of its content, little-endian
abbrev pub field_content : ProfileField → List ℕ
field_content field = bytes_low_first 0 (row_of field.base).size field.value

abbrev pub as_content : ProfileMessage → List ℕ
as_content profile_message = flat_map field_content profile_message.fields

-- how many bytes the fields have together
abbrev pub content_length : List ProfileField → ℕ
content_length fields = sum_by (λ field. (row_of field.base).size) fields
