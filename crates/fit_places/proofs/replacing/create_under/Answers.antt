use Rattle.std.proofs.Common.{sym, ◌∙◌}
use Rattle.fit_places.proofs.Runs.{creates_failed, creates_ok, creates_err, other_name}
use Rattle.fit_places.proofs.replacing.create_under.Goals as goal

pub returns-clause-ok : goal.returns-clause-ok
returns-clause-ok g c honest = creates_ok _ _ _ _ _ (other_name _ _ (sym c.eq.ensures ∙ c.if-eq.false)) (c.create.ensures honest)

pub returns-clause-err : goal.returns-clause-err
returns-clause-err g c honest = creates_err _ _ _ _ (c.create.ensures honest)

pub returns-clause-failed : goal.returns-clause-failed
returns-clause-failed g c honest = creates_failed _ _ _ _ (c.create.ensures honest)
