use Rattle.std.proofs.Common.{◌∙◌}
use Rattle.std.proofs.Common.{refl}
use Rattle.std.specs.Prelude.{option_map}
use Rattle.fit_places.specs.Replaced.{HasCause}
use Rattle.fit_places.proofs.Runs.{if_err, fails, err_as, cause_refused, cause_taken, looked, on_err, unchanged_after, prepared}
use Rattle.fit_places.proofs.replacing.prepare.Goals as goal

pub returns-in_err-refuse_other-clause-err : goal.returns-in_err-refuse_other-clause-err
returns-in_err-refuse_other-clause-err g c honest = on_err _ (c.in_err-refuse_other.ensures.err honest)

pub returns-in_err-is_there-clause-err : goal.returns-in_err-is_there-clause-err
returns-in_err-is_there-clause-err g c honest = on_err _ (unchanged_after _ _ _ (c.in_ok-refuse_other.ensures.ok honest) (c.in_err-is_there.ensures.err honest))

pub returns-in_err-open_folder-clause-err : goal.returns-in_err-open_folder-clause-err
returns-in_err-open_folder-clause-err g c honest =
    on_err _ (unchanged_after _ _ _ (c.in_ok-is_there.ensures.ok honest ∙ c.in_ok-refuse_other.ensures.ok honest) (looked _ _ _ _ (c.in_err-open_folder.ensures honest)))

pub returns-in_err-beside-clause-err : goal.returns-in_err-beside-clause-err
returns-in_err-beside-clause-err g c honest =
    on_err _ (unchanged_after _ _ _ ((c.in_ok-open_folder.ensures honest).ok ∙ c.in_ok-is_there.ensures.ok honest ∙ c.in_ok-refuse_other.ensures.ok honest) (c.in_err-beside.ensures.err honest))

pub returns-clause-ok : goal.returns-clause-ok
returns-clause-ok g c honest =
    prepared _ _ _ _ _ _ _ _ _ (c.in_ok-refuse_other.ensures.ok honest) (c.in_ok-is_there.ensures.ok honest) (c.in_ok-open_folder.ensures honest).ok
    (c.in_ok-refuse_other.ensures.alone honest) (c.in_ok-is_there.ensures.ready honest) (c.in_ok-beside.ensures.ok honest)

pub returns-in_err-refuse_other-clause-cause : goal.returns-in_err-refuse_other-clause-cause
returns-in_err-refuse_other-clause-cause g c honest =
    if_err _ (λ fault. cause_refused _ _ fault (g.P.Place.story c.args.place.now) (g.P.Place.story c.args.place.now) (g.P.Place.story c.refuse_other.new.place) refl (c.in_err-refuse_other.ensures.cause honest _))

pub returns-in_err-is_there-clause-cause : goal.returns-in_err-is_there-clause-cause
returns-in_err-is_there-clause-cause g c honest =
    if_err _ (λ fault. cause_refused _ _ fault (g.P.Place.story c.args.place.now) (g.P.Place.story c.refuse_other.new.place) (g.P.Place.story c.lock_old.new.place) (c.in_ok-refuse_other.ensures.ok honest) (c.in_err-is_there.ensures.cause honest _))

pub returns-in_err-open_folder-clause-cause : goal.returns-in_err-open_folder-clause-cause
returns-in_err-open_folder-clause-cause g c honest =
    if_err _ (λ fault. cause_refused _ _ fault (g.P.Place.story c.args.place.now) (g.P.Place.story c.lock_old.new.place) (g.P.Place.story c.open_folder.new.self) (c.in_ok-is_there.ensures.ok honest ∙ c.in_ok-refuse_other.ensures.ok honest) (fails _ _ _ _ (c.in_err-open_folder.ensures honest)))

pub returns-in_err-beside-clause-cause : goal.returns-in_err-beside-clause-cause
returns-in_err-beside-clause-cause g c honest =
    err_as (λ fault. HasCause c.args.out.now (option_map (λ other. other.now) c.args.other) fault (g.P.Place.story c.args.place.now) (g.P.Place.story c.create_beside.new.place)) _ _ c.from_residual-in_err-beside.ensures.1
    (cause_taken _ _ _ (g.P.Place.story c.args.place.now) (g.P.Place.story c.open_folder.new.self) (g.P.Place.story c.create_beside.new.place) ((c.in_ok-open_folder.ensures honest).ok ∙ c.in_ok-is_there.ensures.ok honest ∙ c.in_ok-refuse_other.ensures.ok honest) (c.in_err-beside.ensures.cause honest))
