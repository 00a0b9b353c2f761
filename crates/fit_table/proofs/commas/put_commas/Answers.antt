use Rattle.std.proofs.lemmas.List.{take-replicate}
use Rattle.fit_text.proofs.PenLemmas.{puts_same}
use Rattle.fit_table.proofs.commas.put_commas.Goals as goal

pub returns : goal.returns
returns g c = puts_same c.put-2.ensures (take-replicate c.args.count 256 44 c.requires)
