use Rattle.fit_ride_tests.proofs.recorder.paging.written_until.Goals as goal

pub hand_until-taken-requires : goal.hand_until-taken-requires
hand_until-taken-requires c = c.cut_at.ensures.same.goes_on c.in_ok-recorder.ensures
