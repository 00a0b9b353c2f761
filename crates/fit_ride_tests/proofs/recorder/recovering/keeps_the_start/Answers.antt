use Rattle.fit_ride_tests.proofs.recorder.recovering.keeps_the_start.Goals as goal

pub commit-requires : goal.commit-requires
commit-requires g c = c.fail_at.ensures.same.goes_on c.hand.ensures.after.goes_on
