use Rattle.fit_text.specs.Text.{text_of}
use Rattle.fit_files.specs.Printed.Shown.{ShowsBytes}
use Rattle.fit_files.proofs.Reported.Inputs.{shows_file, outcome_of, no_input}
use Rattle.fit_files.proofs.showing.show_input.Goals as goal

pub returns-in-Ok-clause-shown : goal.returns-in-Ok-clause-shown
returns-in-Ok-clause-shown g c =
    let read = c.in-Ok.ensures in
    let shown = shows_file (text_of c.args.utc) _ _ read.0 c.in-Ok.file c.show_flushed.result read.2 c.show_flushed.ensures.text c.show_flushed.ensures.fault in
    outcome_of (ShowsBytes c.args.utc _ _) (λ bytes why outcome. outcome.1) c.args.most _ _ read.0 c.show_flushed.result read.1 shown

pub returns-in-Ok-clause-quiet : goal.returns-in-Ok-clause-quiet
returns-in-Ok-clause-quiet g c = λ why is.
    let read = c.in-Ok.ensures in
    let shown = shows_file (text_of c.args.utc) _ _ read.0 c.in-Ok.file c.show_flushed.result read.2 c.show_flushed.ensures.text c.show_flushed.ensures.fault in
    no_input (ShowsBytes c.args.utc _ _) (λ bytes why outcome. outcome.1) read.0 why c.show_flushed.result shown is
