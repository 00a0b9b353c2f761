use Rattle.fit_grammar.specs.Calls.PlainForm.{plain_items}
use Rattle.fit_grammar.specs.Private.PlainWritten.{WrittenTo}
use Rattle.fit_grammar.proofs.plain.writing.put_items.Given as goal

abbrev pub invariant-loop-item : goal.invariant-loop-item
invariant-loop-item g l =
    WrittenTo (plain_items l.fn.file.items) (g.S.Sink.held l.initial.out) (g.S.Sink.held l.out) l.initial.checksum l.checksum
    l.timed l.item-iterator
