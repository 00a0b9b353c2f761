use Rattle.std.proofs.Common.{sym, ◌∙◌, arith}
use Rattle.fit_table.proofs.CellLemmas.{special_here, special_later, special_none}
use Rattle.fit_table.proofs.string.has_special.Goals as goal

pub returns-then-is_special : goal.returns-then-is_special
returns-then-is_special c =
    sym (c.loop-byte.invariant ∙ special_here c.args.text.now c.loop-byte.byte-index (omega arith) (sym c.if-is_special.ensures))

pub loop-byte-preserved : goal.loop-byte-preserved
loop-byte-preserved c =
    c.loop-byte.invariant ∙ special_later c.args.text.now c.loop-byte.byte-index (omega arith) (sym c.if-is_special.ensures)

pub returns : goal.returns
returns c = sym (c.loop-byte.invariant ∙ special_none c.args.text.now c.loop-byte.byte-index (omega arith))
