-- The definition that bytes spell, read from left to right.
use Rattle.std.specs.Prelude.{◌≡◌, ℕ, ◌+◌, ◌*◌, ◌%◌, ◌≤◌, Bool, List, [], ◌∷◌, length, map, take, drop, slice_index, slice_range}
use Rattle.fit_base.specs.Number.{number}
use Rattle.fit_grammar.specs.declared.definition.FieldDefinition.{FieldDefinition}
use Rattle.fit_grammar.specs.declared.definition.DeveloperFieldDefinition.{DeveloperFieldDefinition}
use Rattle.fit_grammar.specs.declared.definition.Definition.{Definition}
use Rattle.fit_grammar.specs.Format.Item.{DefinitionHead, head_of, arch_of, part_size}

-- the fields that bytes spell, three bytes for each
abbrev pub fields_in : List ℕ → List FieldDefinition
fields_in (number ∷ size ∷ base ∷ bytes) = record { number = number; size = size; base = base }
    ∷ fields_in bytes
fields_in _ = []

-- the developer fields that bytes spell; they have their index in the place of a base type
abbrev pub as_developer : FieldDefinition → DeveloperFieldDefinition
as_developer field = record { number = field.number; size = field.size; index = field.base }

abbrev pub developer_in : List ℕ → List DeveloperFieldDefinition
developer_in bytes = map as_developer (fields_in bytes)

-- six bytes, the fields, and after one more byte the developer fields
abbrev pub definition_at : List ℕ → Definition
definition_at bytes =
    record {
      local = slice_index bytes 0 % 16;
      arch = arch_of (slice_index bytes 2);
      global = number (arch_of (slice_index bytes 2)) (slice_range bytes 3 5);
      fields = record { items = fields_in (take (3 * slice_index bytes 5) (drop 6 bytes)) };
      developer = record {
        items = developer_in
            (drop (3 * slice_index bytes 5 + 1) (drop 6 bytes));
      };
    }

-- the bytes of one definition, no more and no less
pub record AreDefinition (bytes : List ℕ) : Type 0 where
  pub announced : Bool
  pub head : head_of (slice_index bytes 0) ≡ DefinitionHead (slice_index bytes 0 % 16) announced
  pub fields : 6 + 3 * slice_index bytes 5 ≤ length bytes
  pub whole : length bytes
      ≡ 6 + 3 * slice_index bytes 5 + part_size announced
      (slice_index bytes (6 + 3 * slice_index bytes 5))
