use Rattle.std.proofs.Common.{ap, sym, ◌∙◌}
use Rattle.std.specs.Result.{result_err}
use Rattle.fit_activity_tests.proofs.activity.spell.Goals as goal

pub speak-requires : goal.speak-requires
speak-requires g c =
    let ride = c.ride-totals.ensures in (ride.0, ride.1, sym (c.check.ensures.first ride.0 ride.1) ∙ ap result_err c.in-Ok.is)
