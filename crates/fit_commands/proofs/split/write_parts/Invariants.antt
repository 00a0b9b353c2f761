use Rattle.std.proofs.Common.{◌≡◌, List, ℕ, ◌++◌, length}
use Rattle.std.specs.Io.KnownBytes.{Appends}
use Rattle.fit_mending.specs.declared.chained.Part.{Part}
use Rattle.fit_files.specs.Printed.Parts.{AreLines}
use Rattle.fit_commands.specs.Reported.{WritesParts}
use Rattle.fit_commands.proofs.split.write_parts.Given as goal

abbrev pub invariant-loop-rest : goal.invariant-loop-rest
invariant-loop-rest g l =
    (done : List Part) × (text : List ℕ) × (l.parts ≡ done ++ l.rest) × AreLines done text
    × Appends (g.O.Write.contents l.initial.out) (g.O.Write.contents l.out) text
    × WritesParts l.folder done (g.F.NamedFiles.held l.initial.files) (g.F.NamedFiles.held l.files)

abbrev pub decreases-loop-rest : goal.decreases-loop-rest
decreases-loop-rest g l = length l.rest
