use Rattle.fit_ride_tests.proofs.recorder.calls.stopped_until.Goals as goal

pub one-fault-requires : goal.one-fault-requires
one-fault-requires c = c.fail_at.ensures.same.goes_on c.play.ensures
