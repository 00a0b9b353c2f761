use Rattle.fit_recordings.proofs.Saved.{finished_of}
use Rattle.fit_recordings.proofs.saving.finished_in.Goals as goal

pub returns-in-Ok-decode_file : goal.returns-in-Ok-decode_file
returns-in-Ok-decode_file c =
    let recovered = c.in-Ok.ensures.decides in
    (recovered.list, finished_of _ _ _ recovered _ _ c.content.ensures.content c.in-Ok-decode_file.ensures.file, recovered.sums_up)
