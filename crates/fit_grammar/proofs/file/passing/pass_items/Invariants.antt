use Rattle.std.proofs.Common.{◌≡◌, ◌-◌}
use Rattle.fit_grammar.specs.Calls.Table.{definition_in}
use Rattle.fit_grammar.specs.Private.Passing.{HasPassedTo, end_of}
use Rattle.fit_grammar.proofs.file.passing.pass_items.Given as goal

abbrev pub invariant-loop-at : goal.invariant-loop-at
invariant-loop-at l = record {
  passed : HasPassedTo (definition_in l.latest) l.bytes l.fn.header l.at l.size;
  end_is : l.end ≡ end_of l.fn.header;
}

abbrev pub decreases-loop-at : goal.decreases-loop-at
decreases-loop-at l = l.end - l.at
