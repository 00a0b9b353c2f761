use Rattle.std.specs.Float.{binary32}
use Rattle.fit_table.proofs.FloatLemmas.{decimal_put, none_put}
use Rattle.fit_table.proofs.float.put_float32.Goals as goal

pub returns-in-Some : goal.returns-in-Some
returns-in-Some g c = decimal_put binary32 c.args.bits c.in-Some.float c.args.none.now c.in-Some.ensures c.put_finite.ensures

pub returns-in-None : goal.returns-in-None
returns-in-None g c = none_put binary32 c.args.bits c.args.none.now c.in-None.ensures c.put.ensures
