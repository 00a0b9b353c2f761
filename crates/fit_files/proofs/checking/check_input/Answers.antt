use Rattle.fit_files.specs.Printed.Checked.{ChecksBytes}
use Rattle.fit_files.proofs.Reported.Inputs.{outcome_of, no_input}
use Rattle.fit_files.proofs.checking.check_input.Goals as goal

pub returns-in-Ok-clause-checked : goal.returns-in-Ok-clause-checked
returns-in-Ok-clause-checked g c =
    let read = c.in-Ok.ensures in
    outcome_of (ChecksBytes _ _) (λ bytes why outcome. outcome) c.args.most _ _ read.0 c.check.result read.1 (c.check.ensures read.0 read.2)

pub returns-in-Ok-clause-quiet : goal.returns-in-Ok-clause-quiet
returns-in-Ok-clause-quiet g c = λ why is.
    let read = c.in-Ok.ensures in
    no_input (ChecksBytes _ _) (λ bytes why outcome. outcome) read.0 why c.check.result (c.check.ensures read.0 read.2) is
