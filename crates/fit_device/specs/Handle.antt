-- What a handle in the memory of C stands for.
use Rattle.std.specs.Prelude.{◌≡◌, true, false, List, None}
use Rattle.fit_activity.specs.Rides.Frozen.{totals_in}
use Rattle.fit_activity.specs.Rides.Recording.{Recorded}
use Rattle.fit_activity.specs.Rides.RunningTotals.{AreTotals}
use Rattle.fit_device.specs.declared.handle.Handle.{Handle}
use Rattle.fit_device.specs.Sealed.{IsSealed}
use Rattle.fit_disk.specs.Story.{Story}
use Rattle.fit_journal.specs.Frozen.{slots_in}
use Rattle.fit_journal.specs.Turn.{slots_left}
use Rattle.fit_recorder.specs.Calls.Frozen.{StandsFrozen, has_failed_in}

-- the story of the two files, once the last plan was carried out
abbrev pub handle_story : Handle → Story
handle_story h = h.notes.story

-- its numbers are those of a recorder
abbrev pub IsRecorder : Handle → Type 0
IsRecorder h = IsSealed h.mark h.seal h.recorder h.data_size

-- its journal has no last slot
abbrev pub HandleNeverFills : Handle → Type 0
HandleNeverFills h = slots_left (slots_in h.recorder.journal) ≡ None

-- a recorder that was handed this list and has not failed
pub record HandleWasHanded (h : Handle) (list : List Recorded) : Type 0 where
  pub recorder : IsRecorder h
  pub going : has_failed_in h.recorder ≡ false
  pub totals : AreTotals (totals_in h.recorder.totals) list

-- and of which this prefix of the list is committed
pub record HandleStands (h : Handle) (list committed : List Recorded) : Type 0 where
  pub recorder : IsRecorder h
  pub going : has_failed_in h.recorder ≡ false
  pub at : StandsFrozen true h.recorder (handle_story h) list committed
