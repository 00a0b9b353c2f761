use Rattle.std.proofs.Common.{◌≡◌, List, ℕ, ◌+◌, ◌≤◌, ◌++◌, length, map}
use Rattle.std.specs.Prelude.{string_bytes}
use Rattle.std.specs.Io.KnownBytes.{Appends}
use Rattle.fit_commands.specs.Each.{AreFoundLines, FoundFile, name_of}
use Rattle.fit_commands.proofs.each.check_all.Given as goal

abbrev pub invariant-loop-rest : goal.invariant-loop-rest
invariant-loop-rest g l = (l.refused + length l.rest ≤ length l.names)
    × ((files : List FoundFile) × (text : List ℕ)
    × (map string_bytes l.names ≡ map name_of files ++ map string_bytes l.rest) × AreFoundLines l.json (g.F.NamedFiles.held l.files) files text l.refused
    × Appends (g.O.Write.contents l.initial.out) (g.O.Write.contents l.out) text)

abbrev pub decreases-loop-rest : goal.decreases-loop-rest
decreases-loop-rest g l = length l.rest
