use Rattle.fit_table.proofs.JsonLemmas.{known_none}
use Rattle.fit_table.proofs.json.known.Known.new.Goals as goal

pub invariant_of-result : goal.invariant_of-result
invariant_of-result c = known_none 512
