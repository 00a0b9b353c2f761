use Rattle.std.proofs.Common.{◌≤◌, ◌+◌, ◌∙◌, subst}
use Rattle.fit_activity.specs.declared.recording.entry.Entry.TheVariants.{Sample}
use Rattle.fit_activity.specs.declared.recording.entry.Sample.{Sample as AnySample}
use Rattle.fit_recorder.specs.Calls.Recorder.{timed_size}
use Rattle.fit_device.proofs.handing.fitrec_add_sample.Goals as goal

pub returns-clause-times : goal.returns-clause-times
returns-clause-times c plain list handed zero =
    subst (λ (s : AnySample). c.args.handle.now.recorder.len + timed_size list (Sample s) ≤ c.hand.new.handle.recorder.len) c.sample_of.ensures
    (c.hand.ensures.times (c.has_plain_time.ensures ∙ plain) list handed zero)
