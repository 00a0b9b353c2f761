use Rattle.std.proofs.Common.{◌≡◌, ◌-◌, ◌∙◌, ap, sym, arith}
use Rattle.fit_grammar.specs.Format.Item.{fields_size}
use Rattle.fit_table.proofs.NamedLemmas.{empty_viewed, name_of, sizes}
use Rattle.fit_table.proofs.named.plan_for.Goals as goal

pub returns-then-is_empty : goal.returns-then-is_empty
returns-then-is_empty c = rw (empty_viewed name_of c.args.names.now (sym c.if-is_empty.ensures), c.new.ensures) tt

pub returns : goal.returns
returns c =
    let d = c.args.definition.now in
    let fields = c.as_slice-fields.ensures.value ∙ ap (λ d. d.developer.items) c.read-definition.ensures in
    let start : c.content_size-size.result - c.size_of.result ≡ fields_size d =
    omega (arith, c.content_size-size.ensures.size, c.size_of.ensures, ap sizes fields) in
    rw (c.as_slice.ensures.value, c.told_of-told.ensures, c.as_slice-fields.ensures.value, c.read-definition.ensures, start) at c.plan_of.ensures
