use Rattle.std.proofs.Common.{◌≡◌, ◌∙◌, ◌++◌, Ok, Err, subst}
use Rattle.fit_grammar.specs.Calls.Output.{AppendsBeginning}
use Rattle.fit_text.specs.Pen.{Continues, Puts}
use Rattle.fit_files.specs.declared.fault.ReportFault.{ReportFault}
use Rattle.fit_files.specs.declared.fault.ReportFault.TheVariants.{Output}
use Rattle.fit_files.proofs.Reported.Printed.{line_made, of_line}
use Rattle.fit_files.proofs.printing.put_line.Goals as goal

pub returns-in-Ok-put-clause-line : goal.returns-in-Ok-put-clause-line
returns-in-Ok-put-clause-line g c =
    let old = c.args.pen.now in
    let new = c.put.new.self in
    let put : c.as_bytes.result.now ≡ c.writeln.new.self.bytes = c.as_bytes.ensures.value ∙ c.as_str.ensures.value in
    of_line (λ bytes. Puts {E = ReportFault} old new (Ok (tt {0})) bytes) c.writeln.new.self.bytes (g.L.Display.output c.args.line.now)
    (line_made c.new-text.result c.writeln.new.self _ c.new-text.ensures c.in-Ok.ensures.writes)
    (record { same = c.in-Ok-put.ensures.same; all = subst (Continues old new) put c.in-Ok-put.ensures.all; beginning = tt })

pub returns-in-Err-clause-line : goal.returns-in-Err-clause-line
returns-in-Err-clause-line g c =
    let old = c.args.pen.now in
    let new = c.put.new.self in
    let put : c.as_bytes.result.now ≡ c.writeln.new.self.bytes = c.as_bytes.ensures.value ∙ c.as_str.ensures.value in
    of_line (λ bytes. Puts {T = Unit {0}} old new (Err Output) bytes) c.writeln.new.self.bytes (g.L.Display.output c.args.line.now)
    (line_made c.new-text.result c.writeln.new.self _ c.new-text.ensures c.in-Ok.ensures.writes)
    (record {
      same = c.in-Err.ensures.same;
      all = tt;
      beginning = subst (λ bytes. AppendsBeginning old.held new.held (old.waiting ++ bytes)) put c.in-Err.ensures.beginning;
    })
