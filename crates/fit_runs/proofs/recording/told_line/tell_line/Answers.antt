use Rattle.std.proofs.Common.{◌≡◌, ◌∙◌, Ok, Err, subst}
use Rattle.fit_grammar.specs.Calls.Output.{WritesText}
use Rattle.fit_files.specs.declared.fault.ReportFault.{ReportFault}
use Rattle.fit_files.specs.declared.fault.ReportFault.TheVariants.{Output}
use Rattle.fit_files.proofs.Reported.Printed.{line_made, of_line}
use Rattle.fit_runs.specs.Exchanges.{told}
use Rattle.fit_runs.proofs.Exchanged.{told_all, told_part}
use Rattle.fit_runs.proofs.recording.told_line.tell_line.Goals as goal

pub returns-in-Ok-tell-clause-line : goal.returns-in-Ok-tell-clause-line
returns-in-Ok-tell-clause-line g c =
    let old = told (g.P.Dialogue.story c.args.dialogue.now) in
    let new = told (g.P.Dialogue.story c.tell.new.self) in
    let put : c.as_bytes.result.now ≡ c.writeln.new.self.bytes = c.as_bytes.ensures.value ∙ c.as_str.ensures.value in
    of_line (λ bytes. WritesText {E = ReportFault} old new (Ok (tt {0})) bytes) c.writeln.new.self.bytes (g.L.Display.output c.args.line.now)
    (line_made c.new-text.result c.writeln.new.self _ c.new-text.ensures c.in-Ok.ensures.writes)
    (subst (λ bytes. WritesText {E = ReportFault} old new (Ok (tt {0})) bytes) put
    (told_all _ _ _ _ _ c.in-Ok-tell.field-0 (tt {0}) (rw c.in-Ok-tell.is at c.tell.ensures)))

pub returns-in-Err-clause-line : goal.returns-in-Err-clause-line
returns-in-Err-clause-line g c =
    let old = told (g.P.Dialogue.story c.args.dialogue.now) in
    let new = told (g.P.Dialogue.story c.tell.new.self) in
    let put : c.as_bytes.result.now ≡ c.writeln.new.self.bytes = c.as_bytes.ensures.value ∙ c.as_str.ensures.value in
    of_line (λ bytes. WritesText {T = Unit {0}} old new (Err Output) bytes) c.writeln.new.self.bytes (g.L.Display.output c.args.line.now)
    (line_made c.new-text.result c.writeln.new.self _ c.new-text.ensures c.in-Ok.ensures.writes)
    (subst (λ bytes. WritesText {T = Unit {0}} old new (Err Output) bytes) put
    (told_part _ _ _ _ _ c.in-Err.field-0 Output (rw c.in-Err.is at c.tell.ensures)))
