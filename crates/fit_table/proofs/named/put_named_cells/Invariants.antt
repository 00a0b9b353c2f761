use Rattle.std.proofs.Common.{length}
use Rattle.fit_table.specs.NamedPlans.{AreNamedIn, spread, tokens_of}
use Rattle.fit_table.proofs.TokenLemmas.{LeavesTokens}
use Rattle.fit_table.proofs.named.put_named_cells.Given as goal

abbrev pub invariant-loop-left : goal.invariant-loop-left
invariant-loop-left g l = record {
  inside : AreNamedIn (length l.content) (spread l.left l.plan.rest);
  put : LeavesTokens l.initial.pen l.pen (tokens_of l.raw (spread l.plan.cells.items l.plan.rest) l.arch l.content)
      (tokens_of l.raw (spread l.left l.plan.rest) l.arch l.content);
}

abbrev pub decreases-loop-left : goal.decreases-loop-left
decreases-loop-left g l = length l.left
