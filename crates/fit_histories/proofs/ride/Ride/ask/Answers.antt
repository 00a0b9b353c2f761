use Rattle.fit_histories.proofs.ride.Ride.ask.Goals as goal

pub returns-in-Entry-Stop-clause-form : goal.returns-in-Entry-Stop-clause-form
returns-in-Entry-Stop-clause-form g c honest before stands = rw c.in-Entry-Stop.is (c.stop.ensures.form c.args.checked honest before stands)

pub returns-in-Entry-clause-form : goal.returns-in-Entry-clause-form
returns-in-Entry-clause-form g c honest before stands = rw c.in-Entry.is (c.hand-reply.ensures.form c.args.checked honest before stands)

pub returns-in-Commit-clause-form : goal.returns-in-Commit-clause-form
returns-in-Commit-clause-form g c honest before stands = rw c.in-Commit.is (c.commit-reply.ensures.form c.args.checked honest before stands)

pub returns-in-Recover-clause-form : goal.returns-in-Recover-clause-form
returns-in-Recover-clause-form g c honest before stands = rw c.in-Recover.is (c.recover.ensures.form c.args.checked honest before stands)

pub returns-in-Reopen-clause-form : goal.returns-in-Reopen-clause-form
returns-in-Reopen-clause-form g c honest before stands = rw c.in-Reopen.is (c.reopen.ensures.form c.args.checked honest before stands)
