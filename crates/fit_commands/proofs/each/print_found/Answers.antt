use Rattle.fit_commands.proofs.Found.{nothing_written, some_line}
use Rattle.fit_commands.proofs.each.print_found.Goals as goal

pub returns-in_err-text-in-Err-clause-line : goal.returns-in_err-text-in-Err-clause-line
returns-in_err-text-in-Err-clause-line g c =
    let some = some_line c.args.json c.args.name.now c.args.found.now in
    (some.0, some.1, nothing_written _ _ some.0 c.from_residual.ensures.0)
