use Rattle.fit_files.proofs.Reported.Salvaged.{no_form, not_decoded}
use Rattle.fit_files.proofs.salvage.Salvage.plain.Goals as goal

pub returns-in-Err-clause-taken : goal.returns-in-Err-clause-taken
returns-in-Err-clause-taken c = λ all bytes found.
    not_decoded c.args.self.now _ c.in-Err.fault (c.decoded.ensures.file all bytes found) c.in-Err.ensures.decodes

pub returns-in-Ok-clause-taken : goal.returns-in-Ok-clause-taken
returns-in-Ok-clause-taken c = λ all bytes found.
    let decoded = c.in-Ok.ensures.decodes in
    no_form _ _ c.plain_of.result (c.decoded.ensures.file all bytes found) (c.plain_of.ensures _ decoded.0 decoded.1)
