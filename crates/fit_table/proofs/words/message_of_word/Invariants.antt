use Rattle.std.proofs.Common.{◌≡◌, ℕ, ◌<◌, ◌-◌}
use Rattle.fit_table.specs.Table.{title_of}
use Rattle.fit_table.proofs.words.message_of_word.Given as goal

abbrev pub invariant-loop-profile : goal.invariant-loop-profile
invariant-loop-profile l = (n : ℕ) → n < l.number → title_of l.profile n ≡ l.word → ⊥

abbrev pub decreases-loop-profile : goal.decreases-loop-profile
decreases-loop-profile l = 65535 - l.number
