use Rattle.std.proofs.Common.{◌≡◌, ℕ, ◌<◌, ◌-◌}
use Rattle.fit_table.specs.Table.{name_of}
use Rattle.fit_table.proofs.words.field_of_word.Given as goal

abbrev pub invariant-loop-profile : goal.invariant-loop-profile
invariant-loop-profile l = (n : ℕ) → n < l.number → name_of l.profile l.message n ≡ l.word → ⊥

abbrev pub decreases-loop-profile : goal.decreases-loop-profile
decreases-loop-profile l = 255 - l.number
