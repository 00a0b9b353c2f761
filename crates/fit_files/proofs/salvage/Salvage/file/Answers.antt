use Rattle.fit_files.proofs.Reported.Salvaged.{not_decoded}
use Rattle.fit_files.proofs.salvage.Salvage.file.Goals as goal

pub returns-clause-taken : goal.returns-clause-taken
returns-clause-taken c = λ all bytes found.
    not_decoded c.args.self.now _ c.in-Err.fault (c.decoded.ensures.file all bytes found) c.in-Err.ensures.decodes
