use Rattle.fit_ride_tests.proofs.recorder.paging.a_page_that_is_not_written_is_reported.Goals as goal

pub hand-requires-clause-stands : goal.hand-requires-clause-stands
hand-requires-clause-stands g c = c.fail_at.ensures.same.goes_on c.hand_until.ensures
