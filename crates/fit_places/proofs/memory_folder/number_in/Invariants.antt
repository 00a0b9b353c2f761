use Rattle.std.proofs.Common.{◌≡◌, drop}
use Rattle.fit_places.specs.NameChanges.{number_by}
use Rattle.fit_places.proofs.memory_folder.number_in.Given as goal

abbrev pub invariant-loop-change : goal.invariant-loop-change
invariant-loop-change l = number_by (drop l.change-index l.changes) l.name ≡ number_by l.changes l.name
