use Rattle.std.proofs.Common.{◌≤◌, sym, subst, arith}
use Rattle.fit_grammar.specs.Format.Item.{Defines, item_size}
use Rattle.fit_grammar.specs.Calls.Table.{longest_short}
use Rattle.fit_grammar.proofs.OneItem.DefinitionSize.{spelled_length}
use Rattle.fit_grammar.proofs.definition.short.ShortDefinition.new.Goals as goal

pub at_front-requires : goal.at_front-requires
at_front-requires c =
    let short = subst (λ definition. item_size (Defines definition) ≤ longest_short) (sym c.bytes-content_size.ensures.bytes) c.requires in
    omega (arith, short, spelled_length _ c.bytes-content_size.ensures.sized.definition)
