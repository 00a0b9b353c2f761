-- A ride over the memory disk: its state in a history when a failure is arranged, and after a power cut.
use Rattle.std.proofs.Common.{◌≡◌, true, false, ℕ, List, drop, sym, ap, subst, ◌∙◌}
use Rattle.fit_disk.specs.declared.memory.Memory.{Memory}
use Rattle.fit_disk.specs.Cycle.{cycled, left_by, taken_by}
use Rattle.fit_disk.specs.Memory.{memory_story}
use Rattle.fit_disk.specs.State.{State, Contents, BothLeft, LeavesOnly, seen_in}
use Rattle.fit_disk.specs.Story.{Story}
use Rattle.fit_disk.proofs.Leaving.{rest_left}
use Rattle.fit_journal.specs.Turn.{slots_left}
use Rattle.fit_recorder.specs.declared.recorder.Recorder.{Recorder}
use Rattle.fit_recorder.specs.Files.NeverFull.{NeverFills}
use Rattle.fit_recorder.specs.Calls.OnMemory.{StandsAsBefore}
use Rattle.fit_histories.specs.declared.ride.Ride.TheVariants as rides
use Rattle.fit_histories.specs.Histories.Table.{History, Idle, Riding}
use Rattle.fit_histories.specs.Rides.NeverFull.{NeverFull}
use Rattle.fit_histories.specs.Rides.Standing.{LeavesAllowed, StandsIn}
use Rattle.fit_histories.proofs.Histories.Claims.{same_contents}

-- no content and no promise changed, so the ride is in the same state
pub same_stands : (old new : Recorder Memory) → StandsAsBefore old new → (history : History) →
    StandsIn true memory_story (rides.Riding old) history → StandsIn true memory_story (rides.Riding new) history
same_stands old new same (Idle claims begun) stands = stands
same_stands old new same (Riding list promise reopened false) stands = record {
  committed = stands.committed;
  rest = stands.rest;
  begins = stands.begins;
  promised = stands.promised;
  stands = same.stands list stands.committed stands.stands;
  going = same.failed ∙ stands.going;
  no_stop = stands.no_stop;
  turns = λ anew. ap slots_left same.slots ∙ stands.turns anew;
}
same_stands old new same (Riding list promise reopened true) stands =
    (same.failed ∙ stands.0, subst (λ story. LeavesAllowed (Riding list promise reopened true) story) (sym same.story) stands.1)

-- Both files are at rest after a power cut: a crash leaves of them what reads give, and that is what the cut left.
pub cut_rests : (P : Contents → Type 0) (choices : List ℕ) (old new : State) → new ≡ cycled choices old →
    BothLeft old (seen_in new) → LeavesOnly P old → LeavesOnly P new
cut_rests P choices old new is left rests contents after =
    let in_data = left_by old.data_file choices in
    let in_journal = left_by old.journal_file (drop (taken_by old.data_file choices) choices) in
    let same : contents ≡ seen_in new = same_contents contents (seen_in new)
    (rest_left new.data_file in_data contents.in_data (ap (λ (s : State). s.data_file) is) after.data_left
    ∙ sym (ap (λ (s : State). s.data_file.seen) is))
    (rest_left new.journal_file in_journal contents.in_journal (ap (λ (s : State). s.journal_file) is) after.journal_left
    ∙ sym (ap (λ (s : State). s.journal_file.seen) is)) in
    subst P (sym same) (rests (seen_in new) left)

pub same_never_full : (old new : Recorder Memory) → StandsAsBefore old new → NeverFull memory_story (rides.Riding old) → NeverFull memory_story (rides.Riding new)
same_never_full old new same never = (
  λ going. ap slots_left same.slots ∙ never.0 (sym same.failed ∙ going),
  λ broken. subst (λ (story : Story). LeavesOnly NeverFills story.now) (sym same.story) (never.1 (sym same.failed ∙ broken)),
)
