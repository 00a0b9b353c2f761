use Rattle.std.proofs.Common.{◌≡◌, drop}
use Rattle.std.specs.Prelude.{slice_get}
use Rattle.fit_places.specs.NameChanges.{earlier_by}
use Rattle.fit_places.proofs.memory_folder.earlier_in.Given as goal

abbrev pub invariant-loop-change : goal.invariant-loop-change
invariant-loop-change l = slice_get (earlier_by (drop l.change-index l.changes) l.name) l.left ≡ slice_get (earlier_by l.changes l.name) l.back
