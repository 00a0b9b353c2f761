use Rattle.std.proofs.Common.{ℕ, Ok, Err}
use Rattle.fit_activity.specs.declared.activity.Summary.{Summary}
use Rattle.fit_disk.specs.State.{Contents}
use Rattle.fit_grammar.specs.Calls.PlainForm.{IsRefusedAt}
use Rattle.fit_grammar.specs.Format.File.{FileValue}
use Rattle.fit_grammar.specs.declared.plain.fault.PlainFaultKind.{PlainFaultKind}
use Rattle.fit_grammar.specs.declared.plain.fault.PlainFaultKind.TheVariants.{TooLong, Memory}
use Rattle.fit_recordings.specs.Saved.{FinishesRide, SavesRide, fault_of_plain}
use Rattle.fit_recordings.proofs.saving.save_ride.Goals as goal

-- a plain form that was not made
not_plain : (contents : Contents) (v : FileValue) (summary : Summary) (kind : PlainFaultKind) (place : ℕ) → FinishesRide contents (Ok (v, summary)) → IsRefusedAt v kind place →
    SavesRide contents (Err (fault_of_plain kind))
not_plain contents v summary TooLong place finishes refused = (v, summary, finishes, place, refused)
not_plain contents v summary Memory place finishes refused = tt

pub returns-clause-saved : goal.returns-clause-saved
returns-clause-saved c =
    let finished = c.in-Ok.finished in
    let fault = c.in-Err-plain_file.ensures.fault in
    rw c.fault_of_plain.ensures (not_plain _ finished.0 finished.1 _ fault.written c.in-Ok.ensures fault.refused)
