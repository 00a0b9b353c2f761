use Rattle.fit_mending.proofs.fitting.fits_after_fault.Goals as goal

pub returns-clause-all : goal.returns-clause-all
returns-clause-all c = c.follows.ensures.all 8 c.after_fault.ensures.all
