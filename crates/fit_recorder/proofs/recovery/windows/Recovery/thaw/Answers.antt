use Rattle.std.proofs.Common.{ℕ, List, Option, take, ap, ap₂, ◌∙◌}
use Rattle.fit_grammar.specs.declared.definition.Definition.{Definition}
use Rattle.fit_recorder.specs.declared.checksums.Checksums.{Checksums}
use Rattle.fit_recorder.specs.Private.Checksums.{checksums_from}
use Rattle.fit_recorder.proofs.BodyChecksums.{both, checksums-none}
use Rattle.fit_recorder.proofs.recovery.windows.Recovery.thaw.Goals as goal

pub returns-then-thaw-clause-reading : goal.returns-then-thaw-clause-reading
returns-then-thaw-clause-reading c done =
    let f = c.args.numbers.now in
    ap₂ (λ (table : List (Option Definition)) (sums : Checksums). record { table = table; time = f.time; checksums = sums; at = f.at; len = f.len })
    (c.thaw-2.ensures.table c.if-thaw.true)
    (ap (λ (n : ℕ). checksums_from (both c.with_value.result c.with_value-2.result) (take n c.forget_window.new.self.window)) c.forget_window.ensures.from
    ∙ checksums-none (both c.with_value.result c.with_value-2.result) ∙ ap₂ both c.with_value.ensures c.with_value-2.ensures)
