use Rattle.std.proofs.Common.{inr, Some, sym, ◌∙◌, ap}
use Rattle.fit_places.proofs.Runs.{fails, fails_after, refused_kind, looked, on_err}
use Rattle.fit_places.proofs.replacing.lock_old.Goals as goal

pub returns-in_err-look-clause-err : goal.returns-in_err-look-clause-err
returns-in_err-look-clause-err g c honest = on_err _ (looked _ _ _ _ (c.in_err-look.ensures.does honest))

pub returns-in_err-look-clause-cause : goal.returns-in_err-look-clause-cause
returns-in_err-look-clause-cause g c honest other = on_err _ (fails _ _ _ _ (c.in_err-look.ensures.does honest))

pub returns-in-Some-Other-clause-cause : goal.returns-in-Some-Other-clause-cause
returns-in-Some-Other-clause-cause g c honest other = inr (refused_kind _ other _ (sym (c.in-Some-Other.is ∙ ap (λ kind. Some kind) c.in-Some-Other.field-0-is) ∙ c.in_ok-look.ensures.found honest))

pub returns-in_err-lock-in-Some-File-clause-cause : goal.returns-in_err-lock-in-Some-File-clause-cause
returns-in_err-lock-in-Some-File-clause-cause g c honest other = on_err _ (fails_after (g.P.Place.story c.args.place.now) (g.P.Place.story c.look.new.self) (g.P.Place.story c.lock.new.self) (c.in_ok-look.ensures.does honest).ok (fails _ _ _ _ (c.in_err-lock-in-Some-File.ensures.does honest)))
