use Rattle.fit_device.proofs.Lending.{chosen}
use Rattle.fit_device.proofs.recovering.fitrec_reopen.Given as goal

abbrev pub ghost-lent : goal.ghost-lent
ghost-lent g a = chosen g.before a.data_bytes.now a._journal_bytes.now
