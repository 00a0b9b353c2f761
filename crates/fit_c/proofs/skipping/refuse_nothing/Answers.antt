use Rattle.std.proofs.Common.{inl, inr, arith}
use Rattle.fit_c.proofs.skipping.refuse_nothing.Goals as goal

pub returns-then-kept-gt0-clause-content : goal.returns-then-kept-gt0-clause-content
returns-then-kept-gt0-clause-content c = inl (omega (arith, c.if-kept-gt0.true))

pub returns-in-Ok-clause-content : goal.returns-in-Ok-clause-content
returns-in-Ok-clause-content c = inr (c.in-Ok._header.frame, c.in-Ok._header.data_size, c.in-Ok.ensures.header)
