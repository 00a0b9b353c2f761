use Rattle.std.proofs.Common.{option_map}
use Rattle.fit_files.specs.Exports.Tabled.{ShowsTable}
use Rattle.fit_files.proofs.Reported.Inputs.{outcome_of, no_input}
use Rattle.fit_files.proofs.Exports.Tabled.{shows_table}
use Rattle.fit_files.proofs.export.table.table_input.Goals as goal

pub returns-in-Ok-clause-shown : goal.returns-in-Ok-clause-shown
returns-in-Ok-clause-shown g c =
    let read = c.in-Ok.ensures in
    let front = option_map (λ text. text.now) c.args.front in
    let shown = shows_table c.args.layout.now front _ _ read.0 c.in-Ok.file c.table_decoded.result read.2 c.table_decoded.ensures.text c.table_decoded.ensures.fault in
    outcome_of (ShowsTable c.args.layout.now front _ _) (λ bytes why outcome. outcome.1) c.args.most _ _ read.0 c.table_decoded.result read.1 shown

pub returns-in-Ok-clause-quiet : goal.returns-in-Ok-clause-quiet
returns-in-Ok-clause-quiet g c = λ why is.
    let read = c.in-Ok.ensures in
    let front = option_map (λ text. text.now) c.args.front in
    let shown = shows_table c.args.layout.now front _ _ read.0 c.in-Ok.file c.table_decoded.result read.2 c.table_decoded.ensures.text c.table_decoded.ensures.fault in
    no_input (ShowsTable c.args.layout.now front _ _) (λ bytes why outcome. outcome.1) read.0 why c.table_decoded.result shown is
