use Rattle.fit_device.proofs.recovering.lent.Given as goal

abbrev pub ghost-over : goal.ghost-over
ghost-over g a = g.before
