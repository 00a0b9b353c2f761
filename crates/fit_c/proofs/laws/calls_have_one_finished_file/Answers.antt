use Rattle.std.proofs.Common.{◌∙◌, ap}
use Rattle.fit_grammar.specs.Calls.PlainForm.{plain_of}
use Rattle.fit_grammar.specs.Format.Encoding.{encoded}
use Rattle.fit_recordings.proofs.Saved.{one_value_of}
use Rattle.fit_c.proofs.laws.calls_have_one_finished_file.Goals as goal

pub returns-clause-repaired : goal.returns-clause-repaired
returns-clause-repaired c before after numbers repaired =
    record { list = repaired.list; stood = repaired.stood; is = repaired.is }

pub returns-clause-saved : goal.returns-clause-saved
returns-clause-saved c before bytes out v numbers have file saved =
    saved.bytes_are
    ∙ ap (λ v. encoded (plain_of v)) (one_value_of before saved.list saved.file v bytes saved.finished have file)
