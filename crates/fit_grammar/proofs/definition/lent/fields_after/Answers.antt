use Rattle.std.proofs.Common.{◌+◌, ◌-◌, drop, take, ap, arith, ℕ}
use Rattle.std.proofs.lemmas.List.{length-take}
use Rattle.fit_grammar.specs.Private.DefinitionBytes.{fields_in}
use Rattle.fit_grammar.proofs.definition.lent.fields_after.Goals as goal

pub returns-clause-fields : goal.returns-clause-fields
returns-clause-fields c =
    ap (λ (n : ℕ). fields_in (take n (drop 6 c.args.bytes.now))) (omega (arith, c.fields_size-size.ensures.size))

pub returns-clause-bound : goal.returns-clause-bound
returns-clause-bound c =
    omega (arith, c.fields_size-size.ensures.bound, length-take (6 + c.fields_size-size.result - 6) (drop 6 c.args.bytes.now))
