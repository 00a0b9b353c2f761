use Rattle.std.proofs.Common.{arith}
use Rattle.fit_grammar.proofs.LentRow.Closing.{ends_short, ends_wrong, ends_followed, ends_right}
use Rattle.fit_grammar.proofs.file.passing.close.Goals as goal

pub returns-then-after-lt2-clause-refused : goal.returns-then-after-lt2-clause-refused
returns-then-after-lt2-clause-refused c =
    rw c.fault.ensures (ends_short c.args.bytes.now c.split_at.result.0.now c.split_at.result.1.now c.requires.0 c.args.end
    (record { reached = c.requires.1; before_is = c.split_at.ensures.front; after_is = c.split_at.ensures.back }) c.if-after-lt2.true)

pub returns-then-read_u16-of-clause-refused : goal.returns-then-read_u16-of-clause-refused
returns-then-read_u16-of-clause-refused c =
    rw c.fault-then-read_u16-of.ensures (ends_wrong c.args.bytes.now c.split_at.result.0.now c.split_at.result.1.now c.requires.0
    c.args.end c.read_u16.result c.of.result
    (record { reached = c.requires.1; before_is = c.split_at.ensures.front; after_is = c.split_at.ensures.back })
    (record { two = omega (arith, c.if-after-lt2.false); given_is = c.read_u16.ensures; sum_is = c.of.ensures })
    c.if-read_u16-of.true)

pub returns-then-after-gt2-clause-refused : goal.returns-then-after-gt2-clause-refused
returns-then-after-gt2-clause-refused c =
    rw c.fault-then-after-gt2.ensures (ends_followed c.args.bytes.now c.split_at.result.0.now c.split_at.result.1.now c.requires.0
    c.args.end c.read_u16.result c.of.result
    (record { reached = c.requires.1; before_is = c.split_at.ensures.front; after_is = c.split_at.ensures.back })
    (record { two = omega (arith, c.if-after-lt2.false); given_is = c.read_u16.ensures; sum_is = c.of.ensures })
    c.if-read_u16-of.false c.if-after-gt2.true)

pub returns-clause-file : goal.returns-clause-file
returns-clause-file c = λ v reached.
    ends_right c.args.bytes.now c.split_at.result.0.now c.split_at.result.1.now v c.args.end c.read_u16.result c.of.result
    (record { reached = reached; before_is = c.split_at.ensures.front; after_is = c.split_at.ensures.back })
    (record { two = omega (arith, c.if-after-lt2.false); given_is = c.read_u16.ensures; sum_is = c.of.ensures })
    c.if-read_u16-of.false (omega (arith, c.if-after-gt2.false))
