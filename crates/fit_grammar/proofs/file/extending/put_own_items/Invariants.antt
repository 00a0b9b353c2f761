use Rattle.fit_grammar.specs.Private.ItemsWritten.{ItemsWritten}
use Rattle.fit_grammar.proofs.file.extending.put_own_items.Given as goal

abbrev pub invariant-loop-item : goal.invariant-loop-item
invariant-loop-item g l =
    ItemsWritten l.fn.file.items (g.S.Sink.held l.initial.out) (g.S.Sink.held l.out) l.initial.checksum l.checksum l.item-iterator
