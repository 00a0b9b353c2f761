use Rattle.fit_files.specs.Exports.Exported.{exported, Exports}
use Rattle.fit_files.proofs.Reported.Inputs.{shows_file, outcome_of, no_input}
use Rattle.fit_files.proofs.export.export_input.Goals as goal

pub returns-in-Ok-clause-shown : goal.returns-in-Ok-clause-shown
returns-in-Ok-clause-shown g c =
    let read = c.in-Ok.ensures in
    let shown = shows_file (exported c.args.form) _ _ read.0 c.in-Ok.file c.export_flushed.result read.2 c.export_flushed.ensures.text c.export_flushed.ensures.fault in
    outcome_of (Exports c.args.form _ _) (λ bytes why outcome. outcome.1) c.args.most _ _ read.0 c.export_flushed.result read.1 shown

pub returns-in-Ok-clause-quiet : goal.returns-in-Ok-clause-quiet
returns-in-Ok-clause-quiet g c = λ why is.
    let read = c.in-Ok.ensures in
    let shown = shows_file (exported c.args.form) _ _ read.0 c.in-Ok.file c.export_flushed.result read.2 c.export_flushed.ensures.text c.export_flushed.ensures.fault in
    no_input (Exports c.args.form _ _) (λ bytes why outcome. outcome.1) read.0 why c.export_flushed.result shown is
