use Rattle.std.proofs.Common.{◌-◌, length}
use Rattle.fit_grammar.specs.Calls.Table.{definition_in}
use Rattle.fit_grammar.specs.Private.FrontPassed.{HasPassed}
use Rattle.fit_grammar.proofs.item.front.longest_front.Given as goal

abbrev pub invariant-loop-item : goal.invariant-loop-item
invariant-loop-item l = HasPassed (definition_in l.latest) l.bytes l.front

abbrev pub decreases-loop-item : goal.decreases-loop-item
decreases-loop-item l = length l.bytes - l.front
