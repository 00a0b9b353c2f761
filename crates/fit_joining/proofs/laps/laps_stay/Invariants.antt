use Rattle.std.proofs.Common.{◌≡◌, ◌∷◌, length, map}
use Rattle.fit_grammar.specs.Format.Message.{messages_of}
use Rattle.fit_joining.specs.Joined.{laps_stay}
use Rattle.fit_joining.proofs.laps.laps_stay.Given as goal

abbrev pub invariant-loop-rest : goal.invariant-loop-rest
invariant-loop-rest l =
    laps_stay (map (λ part. messages_of part.file.items) l.rest)
    ≡ laps_stay (messages_of l.first.file.items ∷ map (λ part. messages_of part.file.items) l.others)

abbrev pub decreases-loop-rest : goal.decreases-loop-rest
decreases-loop-rest l = length l.rest
