use Rattle.std.specs.Float.{binary64}
use Rattle.fit_table.proofs.FloatLemmas.{no_float, is_float}
use Rattle.fit_table.proofs.float.finite64.Goals as goal

pub returns-then-bits-gt9218868437227405312 : goal.returns-then-bits-gt9218868437227405312
returns-then-bits-gt9218868437227405312 c = no_float binary64 c.args.bits c.if-bits-gt9218868437227405312.true

pub float_from_bits-float : goal.float_from_bits-float
float_from_bits-float c = is_float binary64 c.args.bits c.if-bits-gt9218868437227405312.false
