use Rattle.fit_runs_tests.proofs.direct.arrange.Goals as goal

pub returns-in-Ok : goal.returns-in-Ok
returns-in-Ok c = c.cut_at.ensures.same.goes_on (rw c.in-Ok.is at c.requires.goes_on)

pub returns-in-Ok-2 : goal.returns-in-Ok-2
returns-in-Ok-2 c = c.fail_at.ensures.same.goes_on (rw c.in-Ok.is at c.requires.goes_on)
