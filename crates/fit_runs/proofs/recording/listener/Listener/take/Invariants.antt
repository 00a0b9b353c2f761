use Rattle.std.proofs.Common.{◌+◌, ◌++◌, ℕ, List, Option, take}
use Rattle.fit_disk.specs.Story.{Story}
use Rattle.fit_runs.specs.Exchanges.{OnlyTells, told}
use Rattle.fit_runs.specs.Rides.Turns.{Turn}
use Rattle.fit_runs.specs.Rides.Listening.{CanHear, HasHeard}
use Rattle.fit_runs.proofs.recording.listener.Listener.take.Given as goal

abbrev pub invariant-loop-byte : goal.invariant-loop-byte
invariant-loop-byte g l =
    let honest = g.D.Disk.honest in
    let story = g.D.Disk.story in
    record {
      tells : OnlyTells (g.P.Dialogue.story l.initial.dialogue) (g.P.Dialogue.story l.dialogue) (g.P.Dialogue.sides l.initial.dialogue)
          (g.P.Dialogue.sides l.dialogue);
      able : (count : ℕ) → CanHear honest story count l.initial.listener → CanHear honest story (count + l.byte-index) l.listener;
      heard : (every : Option ℕ) (old : Story) (bytes : List ℕ) (turns : List Turn) (before : Option (List ℕ)) →
          HasHeard honest story every old bytes turns before l.initial.listener (told (g.P.Dialogue.story l.initial.dialogue)) →
          (own : List Turn) × HasHeard honest story every old (bytes ++ take l.byte-index l.piece) (turns ++ own) before l.listener
          (told (g.P.Dialogue.story l.dialogue));
    }
