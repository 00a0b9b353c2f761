-- Whole histories: which answers may come to a list of events over two empty files.
use Rattle.std.specs.Prelude.{◌≢◌, List, [], ◌∷◌}
use Rattle.std.specs.List.{AllByRecursion}
use Rattle.fit_recorder.specs.declared.fault.RecFault.TheVariants.{JournalFull}
use Rattle.fit_histories.specs.declared.answer.Answer.{Answer}
use Rattle.fit_histories.specs.declared.answer.Answer.TheVariants as answers
use Rattle.fit_histories.specs.declared.event.Event.{Event}
use Rattle.fit_histories.specs.Histories.Arranged.{Arranged, nothing_arranged, MayFail, arranged_after}
use Rattle.fit_histories.specs.Histories.Table.{History, at_first, Step, Outcome, Done, Stopped, Recovered, Fault, NoRecorder}

-- what an answer reports
abbrev pub outcome_in : Answer → Outcome
outcome_in answers.Done = Done
outcome_in (answers.Stopped file) = Stopped file.items
outcome_in (answers.Recovered summary file) = Recovered summary file.items
outcome_in (answers.Refused fault) = Fault fault
outcome_in answers.NoRecorder = NoRecorder

-- From `before`, these answers may come to these events, one step after another. The device failed only if a failure or a power cut
-- was arranged.
abbrev pub Runs : History → Arranged → List Event → List Outcome → Type 0
Runs before arranged [] [] = Unit {0}
Runs before arranged (event ∷ events) (outcome ∷ outcomes) =
    (after : History) × Step before event.command outcome after × MayFail arranged outcome
    × Runs after (arranged_after arranged event.command outcome) events outcomes
Runs before arranged [] (outcome ∷ outcomes) = ⊥
Runs before arranged (event ∷ events) [] = ⊥

-- these answers may come to these events over two empty files
abbrev pub IsHistory : List Event → List Outcome → Type 0
IsHistory events outcomes = Runs at_first nothing_arranged events outcomes

-- no answer is that the journal is full
abbrev pub NoneFull : List Outcome → Type 0
NoneFull outcomes = AllByRecursion (λ outcome. outcome ≢ Fault JournalFull) outcomes
