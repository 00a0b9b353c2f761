use Rattle.std.proofs.Common.{◌≡◌, ◌++◌, length, map}
use Rattle.std.specs.List.{AllByRecursion}
use Rattle.fit_commands.specs.Reported.{IsFormOfFile}
use Rattle.fit_commands.specs.JoinedFile.{AreNoParts}
use Rattle.fit_commands.specs.declared.fault.Fault.{Fault}
use Rattle.fit_commands.proofs.join.files_of.Given as goal

abbrev pub invariant-loop-rest : goal.invariant-loop-rest
invariant-loop-rest g l = record {
  names : map (λ named. named.name) l.named.items ++ l.rest ≡ map (λ named. named.name) l.initial.named.items ++ l.others;
  forms : AllByRecursion (λ named. IsFormOfFile (g.F.NamedFiles.held l.files named.name.now) named.file) l.named.items;
  reported : (fault : Fault) → AreNoParts (g.F.NamedFiles.held l.files) l.rest fault → AreNoParts (g.F.NamedFiles.held l.files) l.others fault;
}

abbrev pub decreases-loop-rest : goal.decreases-loop-rest
decreases-loop-rest g l = length l.rest
