-- When a recording answers.
use Rattle.std.specs.Prelude.{◌≡◌, ◌⊎◌, ℕ, ◌^◌, Bool, List, [], ◌∷◌, ◌++◌, Option, Result, Ok, Err}
use Rattle.fit_disk.specs.Story.{Story}
use Rattle.fit_files.specs.declared.fault.ReportFault.{ReportFault}
use Rattle.fit_files.specs.declared.fault.ReportFault.TheVariants.{Input}
use Rattle.fit_files.specs.declared.reading.ReadFault.TheVariants.{TooLarge}
use Rattle.fit_runs.specs.Exchanges.{Exchange, Hear, HearFailed, Tell, TellFailed, AreTold, heard_in, told, reads_in}
use Rattle.fit_runs.specs.Rides.Heard.{lines_heard_in}
use Rattle.fit_runs.specs.Rides.Turns.{Turn, AnswersLines, Finishes, turns_text}

-- After these bytes were heard, these were told: the answer to each line that has ended, and nothing else. The answers are the first of
-- these turns.
pub record IsAnswered (every : Option ℕ) (turns : List Turn) (heard spoken : List ℕ) : Type 0 where
  pub own : List Turn
  pub later : List Turn
  pub split : turns ≡ own ++ later
  pub answers : AnswersLines every [] 1 (lines_heard_in heard).ended own
  pub text : spoken ≡ turns_text own

-- from here on, where these bytes were heard and these told, it is so at each read
abbrev pub AnswersAtReads : Option ℕ → List Turn → List ℕ → List ℕ → List Exchange → Type 0
AnswersAtReads every turns heard spoken [] = Unit {0}
AnswersAtReads every turns heard spoken (Hear bytes ∷ exchanges) =
    IsAnswered every turns heard spoken
    × AnswersAtReads every turns (heard ++ bytes) spoken exchanges
AnswersAtReads every turns heard spoken (HearFailed why ∷ exchanges) =
    IsAnswered every turns heard spoken × AnswersAtReads every turns heard spoken exchanges
AnswersAtReads every turns heard spoken (Tell bytes ∷ exchanges) =
    AnswersAtReads every turns heard (spoken ++ bytes) exchanges
AnswersAtReads every turns heard spoken (TellFailed bytes ∷ exchanges) =
    AnswersAtReads every turns heard (spoken ++ bytes) exchanges

-- this is the last read
pub record LastReads (read : Exchange) (exchanges : List Exchange) : Type 0 where
  pub before : List Exchange
  pub after : List Exchange
  pub split : exchanges ≡ before ++ read ∷ after
  pub are_told : AreTold after

-- All is done only if the last read found the end of the input. The fault of the input is that of the last read, or there were too many
-- reads.
abbrev pub EndsByReads : Result ℕ ReportFault → List Exchange → Type 0
EndsByReads (Ok refused) exchanges = LastReads (Hear []) exchanges
EndsByReads (Err (Input why)) exchanges =
    LastReads (HearFailed why) exchanges ⊎ ((why ≡ TooLarge) × (reads_in exchanges ≡ 2 ^ 40))
EndsByReads (Err fault) exchanges = Unit {0}

-- What passed at the dialogue: the bytes that were heard were done in these turns, and each line that had ended was answered before the
-- next read.
pub record RecordsInTurn (honest : Bool) (old new : Story) (every : Option ℕ)
    (begun ended : List Exchange) (result : Result ℕ ReportFault) : Type 0 where
  pub passed : List Exchange
  pub grown : ended ≡ begun ++ passed
  pub turns : List Turn
  pub finishes : Finishes honest old new every (heard_in passed) turns (told []) (told passed) result
  pub in_turn : AnswersAtReads every turns [] [] passed
  pub ends : EndsByReads result passed
