use Rattle.std.proofs.Common.{◌≡◌, ◌∷◌, length, map}
use Rattle.fit_grammar.specs.Format.Message.{messages_of}
use Rattle.fit_joining.specs.Joined.{sport_after, sport_due}
use Rattle.fit_joining.proofs.sport.sport_due.Given as goal

abbrev pub invariant-loop-rest : goal.invariant-loop-rest
invariant-loop-rest l =
    sport_after l.sport (map (λ part. messages_of part.file.items) l.rest)
    ≡ sport_due (messages_of l.first.file.items ∷ map (λ part. messages_of part.file.items) l.others)

abbrev pub decreases-loop-rest : goal.decreases-loop-rest
decreases-loop-rest l = length l.rest
