use Rattle.std.specs.Float.{binary32}
use Rattle.fit_table.proofs.FloatLemmas.{no_float, is_float}
use Rattle.fit_table.proofs.float.finite32.Goals as goal

pub returns-then-bits-gt2139095040 : goal.returns-then-bits-gt2139095040
returns-then-bits-gt2139095040 c = no_float binary32 c.args.bits c.if-bits-gt2139095040.true

pub float_from_bits-float : goal.float_from_bits-float
float_from_bits-float c = is_float binary32 c.args.bits c.if-bits-gt2139095040.false
