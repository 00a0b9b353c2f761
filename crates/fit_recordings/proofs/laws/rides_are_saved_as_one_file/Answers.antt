use Rattle.std.proofs.Common.{◌∙◌, ap}
use Rattle.fit_grammar.specs.Calls.PlainForm.{plain_of}
use Rattle.fit_recordings.proofs.Saved.{one_value_of}
use Rattle.fit_recordings.proofs.laws.rides_are_saved_as_one_file.Goals as goal

pub returns : goal.returns
returns c contents bytes v saved have file saves =
    saves.2.plain_is ∙ ap plain_of (one_value_of contents saves.1.0 saves.0 v bytes saves.1.1 have file)
