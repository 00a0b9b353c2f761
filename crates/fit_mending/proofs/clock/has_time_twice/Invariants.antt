use Rattle.std.proofs.Common.{◌≡◌}
use Rattle.fit_mending.specs.Times.{states_more, states_twice}
use Rattle.fit_mending.proofs.clock.has_time_twice.Given as goal

abbrev pub invariant-loop-field : goal.invariant-loop-field
invariant-loop-field l = states_more l.found l.field-iterator ≡ states_twice l.initial.field-iterator
