use Rattle.std.proofs.Common.{◌≡◌, ◌+◌, length, subst, arith}
use Rattle.fit_grammar.specs.Format.Item.{Defines, item_size}
use Rattle.fit_grammar.proofs.OneItem.DefinitionSize.{written_size}
use Rattle.fit_grammar.proofs.definition.lent.DefinitionMessage.size.Goals as goal

pub returns-then-bytes-end : goal.returns-then-bytes-end
returns-then-bytes-end c =
    let size = c.fields_size-end.ensures.size in
    let written = (written_size c.self.inside.sized.bytes.now c.self.invariant.definition).0 (omega (arith, size, c.if-bytes-end.true)) in
    subst (λ definition. 6 + c.fields_size-end.result ≡ item_size (Defines definition)) c.self.view_is (omega (arith, size, written))

pub returns-else-bytes-end : goal.returns-else-bytes-end
returns-else-bytes-end c =
    let size = c.fields_size-end.ensures.size in
    let written = (written_size c.self.inside.sized.bytes.now c.self.invariant.definition).1
    (λ last. c.if-bytes-end.false (omega (arith, size, last))) in
    subst (λ definition. length c.self.inside.sized.bytes.now ≡ item_size (Defines definition)) c.self.view_is (omega (arith, written))
