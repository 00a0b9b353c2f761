-- What closing the file of a recorder does.
use Rattle.std.specs.Prelude.{◌≡◌, ◌+◌, Bool, IsTrue, Result, OnOk}
use Rattle.fit_disk.specs.Story.{Story}
use Rattle.fit_recorder.specs.declared.recorder.Recorder.{Recorder}
use Rattle.fit_recorder.specs.Calls.After.{EachMoment, SameHead}
use Rattle.fit_recorder.specs.Calls.Recorder.{AtEach, disk_of, data_len}
use Rattle.fit_recorder.specs.Files.Body.{EitherStands}
use Rattle.fit_recorder.specs.Files.Finished.{IsFinished, HasAtMost}
use Rattle.fit_recorder.specs.Files.Limits.{longest_closing}

-- All entries are committed, and the data file is the finished file of the list. At each moment the files stand for what was committed
-- before, or for the list.
pub record Closes {D T E : Type 0} (honest : Bool) (story : D → Story) (result : Result T E)
    (old new : Recorder D) : Type 0 where
  pub totals : new.totals ≡ old.totals
  pub finished : IsTrue honest
      → AtEach honest story old
      (λ list committed. OnOk result (IsFinished list (story (disk_of new))))
  pub within : IsTrue honest
      → AtEach honest story old
      (λ list committed. OnOk result
      (HasAtMost (data_len old + longest_closing) (story (disk_of new))))
  pub any_moment : EachMoment honest story (λ list committed. EitherStands committed list) old new
  pub head : SameHead honest story old new
