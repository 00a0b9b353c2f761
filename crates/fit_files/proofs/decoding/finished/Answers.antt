use Rattle.fit_files.proofs.decoding.finished.Goals as goal

pub returns-in-Ok : goal.returns-in-Ok
returns-in-Ok c = λ bytes was. (c.in-Ok.ensures.file bytes was, c.in-Ok.ensures.places bytes was)
