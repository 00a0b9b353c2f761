use Rattle.fit_mending.proofs.rides.+ride_after.Given as goal

abbrev pub decreases-ride_after : goal.decreases-ride_after
decreases-ride_after l = l.most
