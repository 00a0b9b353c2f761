-- What a folder lacks in which nothing is recorded.
use Rattle.std.specs.Prelude.{ℕ, List, [], ◌∷◌, ◌++◌, length, codes, nat_lt, not, ◌==◌, ◌||◌, if◌then◌else◌}
use Rattle.fit_recordings.specs.declared.lack.Lack.{Lack}
use Rattle.fit_recordings.specs.declared.lack.Lack.TheVariants.{NoData, EmptyData, NoJournal, EmptyJournal, JournalHead, NoCommit}

-- of a journal with these bytes; 70 is the first byte of each journal, `F`
abbrev pub journal_lack : List ℕ → Lack
journal_lack [] = EmptyJournal
journal_lack (first ∷ rest) =
    if nat_lt (length rest) 7 || not (first == 70) then JournalHead else NoCommit

-- of a data file and a journal with these bytes
abbrev pub lack_of : List ℕ → List ℕ → Lack
lack_of [] in_journal = EmptyData
lack_of (byte ∷ bytes) in_journal = journal_lack in_journal

-- what can be done without the journal
abbrev pub to_salvage : List ℕ
to_salvage = codes "; salvage copies what is readable of activity.fit"

-- the line that reports it
abbrev pub lack_text : Lack → List ℕ
lack_text NoData = codes "activity.fit is missing"
lack_text EmptyData = codes "activity.fit is empty"
lack_text NoJournal = codes "activity.frj is missing" ++ to_salvage
lack_text EmptyJournal = codes "activity.frj is empty" ++ to_salvage
lack_text JournalHead = codes "activity.frj is damaged in its head" ++ to_salvage
lack_text NoCommit = codes "activity.frj states no commit" ++ to_salvage
