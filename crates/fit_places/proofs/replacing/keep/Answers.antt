use Rattle.fit_places.proofs.Runs.{kept_lost, kept_goes, kept_gives}
use Rattle.fit_places.proofs.replacing.keep.Goals as goal

pub returns-in_err-sync_file-clause-goes : goal.returns-in_err-sync_file-clause-goes
returns-in_err-sync_file-clause-goes g c honest out beside bytes number start apart moved = kept_lost out beside bytes number start apart _ _ _ _ c.from_residual.ensures.0 moved (c.in_err-sync_file.ensures honest)

pub returns-clause-goes : goal.returns-clause-goes
returns-clause-goes g c honest out beside bytes number start apart moved = kept_goes out beside bytes number start apart _ _ _ _ _ moved (c.in_ok-sync_file.ensures honest) (c.sync_folder.ensures honest)

pub returns-clause-ok : goal.returns-clause-ok
returns-clause-ok g c honest out beside bytes number start apart moved = kept_gives out beside bytes number start apart _ _ _ _ _ moved (c.in_ok-sync_file.ensures honest) (c.sync_folder.ensures honest)
