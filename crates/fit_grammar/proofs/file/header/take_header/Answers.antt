use Rattle.std.proofs.Common.{refl, ◌++◌}
use Rattle.std.proofs.lemmas.Bool.{false≢true}
use Rattle.fit_grammar.proofs.Pieces.Begun.{header_waits, header_shown}
use Rattle.fit_grammar.proofs.file.header.take_header.Goals as goal

pub returns-then-is_cut-clause-taken : goal.returns-then-is_cut-clause-taken
returns-then-is_cut-clause-taken c =
    let cut = c.if-is_cut.ensures.0 refl in
    header_waits (c.args.header.now.items ++ c.args.bytes.now) c.add_header.new.header.items c.in-Err.fault
    c.add_header.ensures (rw c.deref.ensures.0 at c.in-Err.ensures.refused) cut
    (rw c.deref.ensures.0 at (c.in-Err.ensures.short cut))

pub returns-else-is_cut-clause-refused : goal.returns-else-is_cut-clause-refused
returns-else-is_cut-clause-refused c =
    header_shown (c.args.header.now.items ++ c.args.bytes.now) c.add_header.new.header.items c.in-Err.fault
    c.add_header.ensures (rw c.deref.ensures.0 at c.in-Err.ensures.refused)
    (λ e. false≢true (c.if-is_cut.ensures.1 e))
