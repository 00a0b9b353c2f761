use Rattle.std.proofs.Common.{◌<◌, ◌++◌, ℕ, List, false, length, get_or}
use Rattle.fit_files.specs.Exports.Held.{AreHeld, others_below}
use Rattle.fit_files.proofs.export.held.Held.add_others.Given as goal

abbrev pub invariant-loop-number : goal.invariant-loop-number
invariant-loop-number l =
    (numbers : List ℕ) → length numbers < 2 → AreHeld numbers l.initial.self
    → AreHeld (numbers ++ others_below (λ number. get_or l.held number false) l.number) l.self
