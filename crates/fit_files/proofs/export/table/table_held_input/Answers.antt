use Rattle.std.proofs.Common.{None, subst}
use Rattle.fit_grammar.specs.Format.File.{FileValue}
use Rattle.fit_files.specs.Exports.Held.{AreHeld, numbers_held}
use Rattle.fit_files.specs.Exports.Tabled.{ShowsHeld}
use Rattle.fit_files.proofs.Reported.Inputs.{outcome_of, no_input}
use Rattle.fit_files.proofs.Exports.Tabled.{finds_held, held_refused, shows_table}
use Rattle.fit_files.proofs.export.table.table_held_input.Goals as goal

pub returns-in-Ok-clause-shown : goal.returns-in-Ok-clause-shown
returns-in-Ok-clause-shown g c =
    let read = c.in-Ok.ensures in
    let shown = shows_table (record c.args.layout.now { fields = c.as_slice.result }) None _ _ read.0 c.in-Ok.file c.table_decoded.result read.2 c.table_decoded.ensures.text c.table_decoded.ensures.fault in
    let found = finds_held c.args.layout.now.message c.find.new.self c.as_slice.result.now read.0 c.in-Ok.file c.table_decoded.result read.2 c.as_slice.ensures.value (subst (λ (v : FileValue). AreHeld (numbers_held c.args.layout.now.message v.items) c.find.new.self) c.lend.ensures c.find.ensures) c.table_decoded.ensures.fault in
    outcome_of (ShowsHeld c.args.layout.now c.find.new.self _ _) (λ bytes why outcome. outcome.1.1) c.args.most _ _ read.0 c.table_decoded.result read.1 (c.as_slice.result, shown, found)

pub returns-in-Ok-clause-quiet : goal.returns-in-Ok-clause-quiet
returns-in-Ok-clause-quiet g c = λ why is.
    let read = c.in-Ok.ensures in
    let shown = shows_table (record c.args.layout.now { fields = c.as_slice.result }) None _ _ read.0 c.in-Ok.file c.table_decoded.result read.2 c.table_decoded.ensures.text c.table_decoded.ensures.fault in
    let found = finds_held c.args.layout.now.message c.find.new.self c.as_slice.result.now read.0 c.in-Ok.file c.table_decoded.result read.2 c.as_slice.ensures.value (subst (λ (v : FileValue). AreHeld (numbers_held c.args.layout.now.message v.items) c.find.new.self) c.lend.ensures c.find.ensures) c.table_decoded.ensures.fault in
    no_input (ShowsHeld c.args.layout.now c.find.new.self _ _) (λ bytes why outcome. outcome.1.1) read.0 why c.table_decoded.result (c.as_slice.result, shown, found) is

pub returns-in-Err-clause-shown : goal.returns-in-Err-clause-shown
returns-in-Err-clause-shown g c = held_refused _ c.args.layout.now _ _ _ _ _ c.in-Err.fault c.in-Err.ensures
