use Rattle.fit_files.specs.Printed.PlainFile.{PlainsTo}
use Rattle.fit_files.proofs.Reported.Inputs.{outcome_of}
use Rattle.fit_files.proofs.plain.plain_input.Goals as goal

pub returns : goal.returns
returns g c =
    let read = c.in_ok-file.ensures in
    outcome_of PlainsTo (λ bytes why outcome. outcome) c.args.most _ _ read.0 c.plain_of.result read.1 (c.plain_of.ensures read.0 read.2.0 read.2.1)
