use Rattle.std.proofs.Common.{◌≡◌}
use Rattle.fit_grammar.specs.Private.PlainSoFar.{PlainSoFar}
use Rattle.fit_grammar.proofs.plain.plain_file.Given as goal

abbrev pub invariant-loop-item : goal.invariant-loop-item
invariant-loop-item l =
    (l.plain.file.frame ≡ l.fn.file.frame)
    × PlainSoFar l.fn.file l.plain.file.items l.plain.timed l.written l.item-iterator
