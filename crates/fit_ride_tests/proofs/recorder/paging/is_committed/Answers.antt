use Rattle.fit_ride_tests.proofs.recorder.paging.is_committed.Goals as goal

pub commit-requires : goal.commit-requires
commit-requires c = c.cut_at.ensures.same.goes_on c.hand_until.ensures
