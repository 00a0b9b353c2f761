-- The content of a message whose fields change one by one.
use Rattle.std.specs.Prelude.{ℕ, List, [], ◌∷◌, ◌++◌, take, drop}
use Rattle.fit_grammar.specs.declared.definition.FieldDefinition.{FieldDefinition}

-- the bytes of these fields, each changed, and what comes after them
abbrev pub content_with : (FieldDefinition → List ℕ → List ℕ) → List FieldDefinition → List ℕ
    → List ℕ
content_with change [] content = content
content_with change (field ∷ fields) content =
    change field (take field.size content) ++ content_with change fields (drop field.size content)
