use Rattle.fit_places.proofs.Runs.{fill_kept, fill_broken, fill_goes, fill_gives}
use Rattle.fit_places.proofs.replacing.fill.Goals as goal

pub returns-in_err-keep_mode-clause-goes : goal.returns-in_err-keep_mode-clause-goes
returns-in_err-keep_mode-clause-goes g c honest beside number start begun = fill_kept _ beside (g.C.Content.bytes c.args.content.now) _ number start _ _ _ _ c.from_residual.ensures.0 (c.in_err-keep_mode.ensures.goes honest beside number start begun)

pub returns-in_err-write-clause-goes : goal.returns-in_err-write-clause-goes
returns-in_err-write-clause-goes g c honest beside number start begun =
    fill_broken _ beside _ _ number start _ _ _ _ _ _ c.from_residual-in_err-write.ensures.0 (c.in_ok-keep_mode.ensures.goes honest beside number start begun) (c.in_err-write.ensures honest)

pub returns-clause-goes : goal.returns-clause-goes
returns-clause-goes g c honest beside number start begun =
    fill_goes _ beside _ _ number start _ _ _ _ _ _ _ (c.in_ok-keep_mode.ensures.goes honest beside number start begun) (c.in_ok-write.ensures honest) (c.sync_file.ensures honest)

pub returns-clause-filled : goal.returns-clause-filled
returns-clause-filled g c honest beside number start begun =
    fill_gives _ beside _ _ number start _ _ _ _ _ _ _ (c.in_ok-keep_mode.ensures.goes honest beside number start begun)
    (c.in_ok-keep_mode.ensures.mode honest beside number start begun) (c.in_ok-write.ensures honest) (c.sync_file.ensures honest)
