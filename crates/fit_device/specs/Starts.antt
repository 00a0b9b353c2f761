-- What a start plans for two files.
use Rattle.std.specs.Prelude.{◌≡◌, ℕ, [], ◌∷◌}
use Rattle.fit_activity.specs.declared.recording.start.Start.{Start}
use Rattle.fit_activity.specs.Rides.Recording.{Started}
use Rattle.fit_device.specs.Answer.{code_of_fault}
use Rattle.fit_device.specs.declared.handle.Handle.{Handle}
use Rattle.fit_device.specs.declared.plan.DevicePlan.{DevicePlan}
use Rattle.fit_device.specs.Handle.{handle_story, IsRecorder, HandleNeverFills, HandleStands}
use Rattle.fit_device.specs.Planned.{carried_out, IsWellFormed}
use Rattle.fit_disk.specs.Story.{Story, seen_of}
use Rattle.fit_disk.specs.declared.disk.Which.TheVariants.{Data}
use Rattle.fit_recorder.specs.Calls.Answers.{StartAnswers}
use Rattle.fit_recorder.specs.Calls.FaultCode.{fault_code}
use Rattle.fit_recorder.specs.Calls.Start.{InStart}
use Rattle.fit_recorder.specs.declared.fault.RecFault.{RecFault}
use Rattle.fit_recorder.specs.declared.fault.RecFault.TheVariants.{Device, NotEmpty}

-- After 0 the start is committed, and the journal never fills. Else a rule refuses it, or the data file has bytes; the handle is none of a
-- recorder, the plan has no calls, and the files stay. No call of the plan fails for want of room. Any part of it leaves nothing recorded, or
-- the start alone.
pub record Starts (start : Start) (old : Story) (new : Handle) (plan : DevicePlan) (code : ℕ) : Type 0 where
  pub well_formed : IsWellFormed plan old
  pub no_device : code ≡ fault_code Device → ⊥
  pub ok : code ≡ 0 → (handle_story new ≡ carried_out plan old)
      × HandleStands new (Started start ∷ []) (Started start ∷ []) × HandleNeverFills new
  pub was_empty : code ≡ 0 → seen_of Data old ≡ []
  pub refused : (code ≡ 0 → ⊥)
      → (fault : RecFault) × (code ≡ code_of_fault fault) × StartAnswers start fault
  pub gone : (code ≡ 0 → ⊥) → IsRecorder new → ⊥
  pub not_empty : code ≡ fault_code NotEmpty → seen_of Data old ≡ [] → ⊥
  pub same : (code ≡ 0 → ⊥) → (plan.count ≡ 0) × (carried_out plan old ≡ old)
  pub any_moment : InStart start old (carried_out plan old)
