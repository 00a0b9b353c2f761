use Rattle.std.proofs.Common.{length}
use Rattle.std.specs.Prelude.{map}
use Rattle.fit_mending.specs.Chained.{AreNumbered}
use Rattle.fit_mending.proofs.Files.{EndsWith}
use Rattle.fit_mending.proofs.chained.split_files.Given as goal

abbrev pub invariant-loop-rest : goal.invariant-loop-rest
invariant-loop-rest l =
    record {
      ends : EndsWith l.bytes (map (λ part. part.bytes.now) l.parts.items) l.rest;
      numbered : AreNumbered 0 l.parts.items;
    }

abbrev pub decreases-loop-rest : goal.decreases-loop-rest
decreases-loop-rest l = length l.rest
