-- What a listener has heard and done.
use Rattle.std.specs.Prelude.{◌≡◌, ◌⊎◌, ◌≤◌, ℕ, ◌*◌, Bool, List, [], ◌++◌, length, Option, Result, OnOk}
use Rattle.std.specs.Io.KnownBytes.{Appends, Consumes, IsAtEnd}
use Rattle.fit_disk.specs.Story.{Story}
use Rattle.fit_files.specs.declared.fault.ReportFault.{ReportFault}
use Rattle.fit_runs.specs.Exchanges.{Exchange, Sides, heard_in, told, told_in, reads_in}
use Rattle.fit_runs.specs.Rides.InTurn.{AnswersAtReads, EndsByReads}
use Rattle.fit_runs.specs.declared.recording.listener.Listener.{Listener}
use Rattle.fit_histories.specs.Rides.Ride.{CanGoOn}
use Rattle.fit_runs.specs.Rides.Turns.{Turn, AnswersLines, AnswersUpTo, Finishes, PrintsPart, SoFar, turns_text}
use Rattle.fit_runs.specs.Rides.Heard.{IsHeld, lines_heard_in}

module _ {D : Type 0} (honest : Bool) (story : D → Story) where
  -- it can go on, and took at most so many lines
  pub record CanHear (count : ℕ) (listener : Listener D) : Type 0 where
    pub goes_on : CanGoOn honest story listener.session.ride
    pub lines : listener.session.line ≤ count
    pub few : listener.session.refused ≤ 2 * listener.session.line

  -- The lines that end in these bytes were done in these turns, whose text was printed; the bytes of the line after them are held.
  pub record HasHeard (every : Option ℕ) (old : Story) (bytes : List ℕ) (turns : List Turn)
      (before : Option (List ℕ)) (listener : Listener D) (after : Option (List ℕ)) : Type 0 where
    pub ended : List (List ℕ)
    pub whole : List ℕ
    pub line : List ℕ
    pub split : bytes ≡ whole ++ line
    pub to_newline : lines_heard_in whole ≡ record { ended = ended; held = [] }
    pub all : lines_heard_in bytes ≡ record { ended = ended; held = line }
    pub held : IsHeld line listener.held
    pub number : listener.session.line ≡ length ended
    pub answers : AnswersLines every [] 1 ended turns
    pub so_far : SoFar honest story every old turns listener.session
    pub printed : Appends before after (turns_text turns)

  -- the lines that end in the first of these bytes were done in these turns, whose text was cut short
  pub record BreaksOffAt (every : Option ℕ) (old : Story) (bytes : List ℕ) (turns : List Turn)
      (before : Option (List ℕ)) (listener : Listener D) (after : Option (List ℕ)) : Type 0 where
    pub ended : List (List ℕ)
    pub heard : List ℕ
    pub rest : List ℕ
    pub split : bytes ≡ heard ++ rest
    pub to_newline : lines_heard_in heard ≡ record { ended = ended; held = [] }
    pub answers : AnswersUpTo every ended turns ⊎ AnswersLines every [] 1 ended turns
    pub so_far : SoFar honest story every old turns listener.session
    pub cut : PrintsPart before after turns

  -- So far this passed at a dialogue that had begun before: the lines that end in what was heard were done in these turns and answered, and
  -- each read came after the answers to what was heard before it.
  pub record HasRecorded (every : Option ℕ) (old : Story) (begun now : List Exchange) (from to : Sides)
      (reads : ℕ) (listener : Listener D) : Type 0 where
    pub passed : List Exchange
    pub grown : now ≡ begun ++ passed
    pub turns : List Turn
    pub heard : HasHeard every old (heard_in passed) turns (told begun) listener (told now)
    pub in_turn : AnswersAtReads every turns [] [] passed
    pub consumed : Consumes from.left to.left (heard_in passed)
    pub written : Appends from.held to.held (told_in passed)
    pub name : to.name ≡ from.name
    pub counted : reads_in passed ≡ reads

-- all that passed, if the recording ended like this
pub record HasEnded (honest : Bool) (old new : Story) (every : Option ℕ) (begun ended : List Exchange)
    (from to : Sides) (result : Result ℕ ReportFault) : Type 0 where
  pub passed : List Exchange
  pub grown : ended ≡ begun ++ passed
  pub turns : List Turn
  pub finishes : Finishes honest old new every (heard_in passed) turns (told begun) (told ended) result
  pub in_turn : AnswersAtReads every turns [] [] passed
  pub ends : EndsByReads result passed
  pub consumed : Consumes from.left to.left (heard_in passed)
  pub all : OnOk result (IsAtEnd to.left)
  pub written : Appends from.held to.held (told_in passed)
  pub name : to.name ≡ from.name
