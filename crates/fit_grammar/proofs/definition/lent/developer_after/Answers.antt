use Rattle.std.proofs.Common.{◌≡◌, ◌+◌, ◌*◌, ℕ, drop, sym, ap, ◌∙◌, length-drop, arith}
use Rattle.std.specs.Prelude.{slice_index}
use Rattle.std.proofs.lemmas.List.{take_all, drop-drop}
use Rattle.fit_grammar.specs.Private.DefinitionBytes.{developer_in}
use Rattle.fit_grammar.proofs.definition.lent.developer_after.Goals as goal

pub returns-then-end-bytes-clause-fields : goal.returns-then-end-bytes-clause-fields
returns-then-end-bytes-clause-fields c =
    let bytes = c.args.bytes.now in
    let end = 6 + c.fields_size-end.result + 1 in
    let sum : end ≡ 6 + (3 * slice_index bytes 5 + 1) = omega (arith, c.fields_size-end.ensures.size) in
    ap developer_in (take_all _ (drop end bytes) (omega (arith, length-drop end bytes))
    ∙ ap (λ (n : ℕ). drop n bytes) sum ∙ sym (drop-drop (3 * slice_index bytes 5 + 1) 6 bytes))
