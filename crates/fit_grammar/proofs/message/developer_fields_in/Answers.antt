use Rattle.std.proofs.Common.{◌≡◌, ◌*◌, ◌≤◌, ℕ, List, [], ◌∷◌, length, drop, refl, ap, arith}
use Rattle.std.proofs.lemmas.List.{length-map}
use Rattle.fit_base.specs.declared.order.Arch.{Arch}
use Rattle.fit_grammar.specs.declared.definition.DeveloperFieldDefinition.{DeveloperFieldDefinition}
use Rattle.fit_grammar.specs.Format.Message.{developer_of}
use Rattle.fit_grammar.specs.Private.DefinitionBytes.{fields_in, as_developer, developer_in}
use Rattle.fit_grammar.proofs.message.developer_fields_in.Goals as goal

-- each field is spelled by three bytes
few_fields : (bytes : List ℕ) → 3 * length (fields_in bytes) ≤ length bytes
few_fields [] = omega arith
few_fields (a ∷ []) = omega arith
few_fields (a ∷ b ∷ []) = omega arith
few_fields (a ∷ b ∷ c ∷ bytes) = omega (arith, few_fields bytes)

as_many : (arch : Arch) (fields : List DeveloperFieldDefinition) (content : List ℕ) → length (developer_of arch fields content) ≡ length fields
as_many arch [] content = refl
as_many arch (field ∷ fields) content = omega (arith, as_many arch fields (drop field.size content))

pub returns-clause-bound : goal.returns-clause-bound
returns-clause-bound c =
    let bytes = c.developer-fields.result.now in
    omega (
      arith,
      ap length c.new-2.ensures,
      as_many c.arch-arch.result (developer_in bytes) c.split_at.result.1.now,
      length-map (fields_in bytes) as_developer,
      few_fields bytes,
      c.developer-fields.ensures.bound,
    )
