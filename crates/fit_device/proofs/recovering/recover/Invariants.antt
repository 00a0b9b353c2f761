use Rattle.std.proofs.Common.{◌-◌}
use Rattle.fit_device.specs.Lending.{SyncsAndFinds}
use Rattle.fit_device.proofs.recovering.recover.Given as goal

-- the recovery reads on in what was found
abbrev pub invariant-loop-answer : goal.invariant-loop-answer
invariant-loop-answer l = SyncsAndFinds l.fn.files l.files l.recovery

-- each window moves it on
abbrev pub decreases-loop-answer : goal.decreases-loop-answer
decreases-loop-answer l = l.recovery.reader.len - l.recovery.reader.at
