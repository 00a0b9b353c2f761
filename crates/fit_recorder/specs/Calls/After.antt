-- What holds after a call of a recorder, of the recorder before and after it.
use Rattle.std.specs.Prelude.{◌≡◌, ◌⊎◌, ℕ, ◌+◌, ◌<◌, ◌≤◌, Bool, true, false, IsTrue, List, [], ◌∷◌, ◌++◌, take, Result, OnOk, OnErr, IfErr, IsErrOf}
use Rattle.fit_activity.specs.declared.recording.entry.Entry.{Entry}
use Rattle.fit_activity.specs.Rides.Recording.{Recorded, Added}
use Rattle.fit_disk.specs.declared.disk.Which.TheVariants.{Data}
use Rattle.fit_disk.specs.Counts.{Log}
use Rattle.fit_disk.specs.Runs.{MakesAll, MakesWithin}
use Rattle.fit_disk.specs.State.{Contents, LeavesOnly}
use Rattle.fit_disk.specs.Story.{Story, Throughout, seen_of}
use Rattle.fit_journal.specs.Moments.{KeepsHead}
use Rattle.fit_journal.specs.Turn.{are_checked, committed_slots, fresh_slots}
use Rattle.fit_recorder.specs.Calls.Recorder.{StandsAt, AtEach, WasHanded, GoesOn, disk_of, has_failed, data_len, data_checksum, waiting, journal_slots}
use Rattle.fit_recorder.specs.Files.Earlier.{StandsBefore}
use Rattle.fit_recorder.specs.Files.Header.{recorded_header}
use Rattle.fit_recorder.specs.Files.Limits.{header_length, page_size}
use Rattle.fit_recorder.specs.declared.fault.RecFault.{RecFault}
use Rattle.fit_recorder.specs.declared.fault.RecFault.TheVariants.{Device, Failed}
use Rattle.fit_recorder.specs.declared.recorder.Recorder.{Recorder}

module _ {D : Type 0} where
  -- What holds after a call of a recorder: the next may be made; a recorder that failed before answers `Failed`; after an Ok it has
  -- not failed; after `Device` it has; and after every other refusal nothing changed.
  pub record AfterCall (honest : Bool) (story : D → Story) (result : Result (Unit {0}) RecFault)
      (old new : Recorder D) : Type 0 where
    pub goes_on : GoesOn honest story new
    pub failed : has_failed old ≡ true → IsErrOf result Failed
    pub going : OnOk result (has_failed new ≡ false)
    pub gone : IsErrOf result Device → has_failed new ≡ true
    pub same : IfErr result (λ fault. (fault ≡ Device) ⊎ (new ≡ old))

  -- a new recorder: the header states no records, nothing waits in the page, and the start is in the first slot of a new journal
  pub record IsNew (checked honest : Bool) (story : D → Story)
      (recorder : Recorder D) : Type 0 where
    pub header : IsTrue honest
        → take header_length (seen_of Data (story (disk_of recorder))) ≡ recorded_header 0
    pub waits : waiting recorder ≡ 0
    pub turns : journal_slots recorder
        ≡ committed_slots (fresh_slots checked) (data_len recorder) (data_checksum recorder)

  -- it was handed this entry after its list, and the same prefix is committed
  pub record AddsEntry (honest : Bool) (story : D → Story) (e : Entry)
      (old new : Recorder D) : Type 0 where
    pub handed : (list : List Recorded) → WasHanded old list → WasHanded new (list ++ Added e ∷ [])
    pub stands : AtEach honest story old (λ list committed. StandsAt honest story new (list
        ++ Added e ∷ []) committed)

  -- its list is the same, and all of it is committed
  pub record CommitsAll (honest : Bool) (story : D → Story) (old new : Recorder D) : Type 0 where
    pub handed : (list : List Recorded) → WasHanded old list → WasHanded new list
    pub stands : AtEach honest story old (λ list committed. StandsAt honest story new list list)

  -- In a journal with checksums the commit before the last is kept too: whatever a crash leaves stands for it without the last one.
  abbrev pub KeepsEarlier : Bool → (D → Story) → Recorder D → Recorder D → Type 0
  KeepsEarlier honest story old new =
      IsTrue honest
      → are_checked (journal_slots old) ≡ true
      → AtEach honest story old
      (λ list committed. LeavesOnly (StandsBefore committed) (story (disk_of new)).now)

  -- the journal is as it was, and so are the slots that the recorder knows
  pub record SameJournal (honest : Bool) (story : D → Story) (old new : Recorder D) : Type 0 where
    pub slots : journal_slots new ≡ journal_slots old
    pub file : IsTrue honest
        → (story (disk_of new)).now.journal_file ≡ (story (disk_of old)).now.journal_file

  -- at each moment of a call a crash leaves only contents of which this holds, for each list and prefix
  abbrev pub EachMoment : Bool → (D → Story) → (List Recorded → List Recorded → Contents → Type 0)
      → Recorder D → Recorder D → Type 0
  EachMoment honest story Holds old new =
      IsTrue honest
      → AtEach honest story old
      (λ list committed. Throughout (Holds list committed) (story (disk_of old))
      (story (disk_of new)))

  -- and the head of the journal is as it was
  abbrev pub SameHead : Bool → (D → Story) → Recorder D → Recorder D → Type 0
  SameHead honest story old new =
      IsTrue honest
      → AtEach honest story old
      (λ list committed. KeepsHead (story (disk_of old)) (story (disk_of new)))

  -- the device calls that it made, of which none reads the data file, and the room that they took
  abbrev pub MakesCalls : (D → Log) → ℕ → ℕ → Type 0 → Recorder D → Recorder D → Type 0
  MakesCalls log most bytes Reported old new =
      MakesWithin most bytes Reported (log (disk_of old)) (log (disk_of new))

  -- a recorder fails by its device alone, and notes it
  pub record FailsByDevice (result : Result (Unit {0}) RecFault)
      (old new : Recorder D) : Type 0 where
    pub fault : IfErr result (λ fault. fault ≡ Device)
    pub going : OnOk result (has_failed new ≡ has_failed old)
    pub gone : OnErr result (has_failed new ≡ true)

  -- Bytes that fit into the page after those that wait there make no call. Else one call writes the page, and only they wait.
  pub record FillsPage (log : D → Log) (bytes : ℕ) (old new : Recorder D) : Type 0 where
    pub fits : waiting old + bytes ≤ page_size
        → (disk_of new ≡ disk_of old) × (waiting new ≡ waiting old + bytes)
    pub full : page_size < waiting old + bytes
        → MakesAll 1 (log (disk_of old)).counts (log (disk_of new)).counts × (waiting new ≡ bytes)
