use Rattle.std.proofs.Common.{ℕ, List, Option, Some, None, map, ap, ◌∙◌, arith}
use Rattle.std.specs.Prelude.{option_map, slice_set}
use Rattle.std.proofs.lemmas.List.{map-set, length-map, get_or-set_same, get_or-set_other}
use Rattle.fit_grammar.specs.declared.definition.Definition.{Definition}
use Rattle.fit_grammar.specs.declared.definition.lent.SizedBytes.{SizedBytes}
use Rattle.fit_grammar.specs.Private.DefinitionBytes.{definition_at}
use Rattle.fit_grammar.specs.Calls.Table.{definition_in}
use Rattle.fit_grammar.proofs.definition.latest.Latest.take.Goals as goal

abbrev spelled : Option SizedBytes → Option Definition
spelled slot = option_map (λ sized. definition_at sized.bytes.now) slot

pub returns-clause-taken : goal.returns-clause-taken
returns-clause-taken c =
    let slots = c.self.inside.slots in
    let local = c.args.definition.now.local in
    let taken = Some (definition_at c.bytes.result.bytes.now) in
    ap (λ (s : List (Option Definition)). definition_in s local) (map-set spelled slots c.local.result (Some c.bytes.result))
    ∙ ap (λ (i : ℕ). definition_in (slice_set (map spelled slots) i taken) local) c.local.ensures
    ∙ get_or-set_same (map spelled slots) local taken None (omega (arith, length-map slots spelled, c.self.invariant.count, c.requires))
    ∙ ap (λ (d : Definition). Some d) c.bytes.ensures.bytes

pub returns-clause-others : goal.returns-clause-others
returns-clause-others c = λ l other.
    let slots = c.self.inside.slots in
    ap (λ (s : List (Option Definition)). definition_in s l) (map-set spelled slots c.local.result (Some c.bytes.result))
    ∙ get_or-set_other (map spelled slots) c.local.result l (Some (definition_at c.bytes.result.bytes.now)) None
    (λ e. other (e ∙ c.local.ensures))
    ∙ ap (λ (s : List (Option Definition)). definition_in s l) c.self.view_is
