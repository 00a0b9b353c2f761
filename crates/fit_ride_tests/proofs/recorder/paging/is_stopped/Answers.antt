use Rattle.fit_ride_tests.proofs.recorder.paging.is_stopped.Goals as goal

pub stop-requires : goal.stop-requires
stop-requires c = c.cut_at.ensures.same.goes_on c.hand_until.ensures
