use Rattle.std.proofs.Common.{sym, ap, ◌∙◌}
use Rattle.fit_plan.specs.Plan.{plan_story}
use Rattle.fit_device.proofs.Stepping.{goes_on_at}
use Rattle.fit_device.proofs.handle.Handle.put.Goals as goal

pub seal_with-requires : goal.seal_with-requires
seal_with-requires c = record {
  possible = c.freeze.ensures.possible;
  going = c.freeze.ensures.failed ∙ c.requires.going;
  goes_on = goes_on_at _ _ _ _ _ _ (sym c.freeze.ensures.state) (sym c.freeze.ensures.failed) (sym (c.after.ensures.story ∙ ap plan_story c.disk.ensures)) c.requires.goes_on;
}
