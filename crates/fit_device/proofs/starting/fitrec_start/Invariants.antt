use Rattle.fit_device.proofs.Lending.{sized}
use Rattle.fit_device.proofs.starting.fitrec_start.Given as goal

abbrev pub ghost-over : goal.ghost-over
ghost-over g a = sized g.before a.data_size
