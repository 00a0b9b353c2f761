use Rattle.fit_places.specs.Private.{IsMoved}
use Rattle.fit_places.proofs.Runs.{kept_failed, removed_failed, put_run, put_lacks, remove_run, remove_gives}
use Rattle.fit_places.proofs.replacing.write_and_move.Goals as goal

pub returns-in-Ok-clause-any_moment : goal.returns-in-Ok-clause-any_moment
returns-in-Ok-clause-any_moment g c honest number start begun =
    put_run c.args.out.now c.args.beside.now _ number start begun.apart _ _ _ _ _ (c.in-Ok.ensures.goes honest number start begun)
    (c.keep.ensures.goes honest c.args.out.now c.args.beside.now _ number start begun.apart (c.in-Ok.ensures.ok honest number start begun))

pub returns-in-Ok-clause-ok : goal.returns-in-Ok-clause-ok
returns-in-Ok-clause-ok g c honest number start begun =
    c.keep.ensures.ok honest c.args.out.now c.args.beside.now _ number start begun.apart (c.in-Ok.ensures.ok honest number start begun)

pub returns-in-Ok-clause-err : goal.returns-in-Ok-clause-err
returns-in-Ok-clause-err g c honest number start begun =
    put_lacks c.args.out.now c.args.beside.now _ number start begun.apart _ _ _ _ _ (c.in-Ok.ensures.goes honest number start begun)
    (c.keep.ensures.goes honest c.args.out.now c.args.beside.now _ number start begun.apart (c.in-Ok.ensures.ok honest number start begun))

pub returns-in-Err-clause-any_moment : goal.returns-in-Err-clause-any_moment
returns-in-Err-clause-any_moment g c honest number start begun =
    remove_run c.args.out.now c.args.beside.now _ number start begun.apart _ _ _ _ (c.in-Err.ensures.goes honest number start begun).run (c.in-Err.ensures.err honest number start begun) (c.remove.ensures honest)

pub returns-in-Err-clause-err : goal.returns-in-Err-clause-err
returns-in-Err-clause-err g c honest number start begun =
    remove_gives c.args.out.now c.args.beside.now _ number start begun.apart _ (g.P.Place.story c.args.place.now) _ _ (c.in-Err.ensures.err honest number start begun) (c.in-Err.ensures.goes honest number start begun).err (c.remove.ensures honest)

pub returns-in-Ok-clause-failed : goal.returns-in-Ok-clause-failed
returns-in-Ok-clause-failed g c honest number start begun =
    kept_failed (IsMoved c.args.out.now c.args.beside.now (g.C.Content.bytes c.args.content.now) number start) _ (g.P.Place.story c.args.place.now) (g.P.Place.story c.fill_and_move.new.place) _ (c.in-Ok.ensures.goes honest number start begun).ok
    (c.keep.ensures.goes honest c.args.out.now c.args.beside.now _ number start begun.apart (c.in-Ok.ensures.ok honest number start begun))

pub returns-in-Err-clause-failed : goal.returns-in-Err-clause-failed
returns-in-Err-clause-failed g c honest number start begun =
    removed_failed _ _ (g.P.Place.story c.args.place.now) _ _ (c.in-Err.ensures.goes honest number start begun).err (c.remove.ensures honest)
