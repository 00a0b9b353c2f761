-- Files stand for at most one list, and not also for nothing recorded.
use Rattle.std.proofs.Common.{◌≡◌, ◌⊎◌, inl, inr, ⊎_elim, ℕ, List, length, Result, Ok, Err, refl, sym, ◌∙◌, ap, subst, arith}
use Rattle.fit_grammar.specs.Format.Records.{Records}
use Rattle.fit_grammar.specs.Format.Message.{messages_of}
use Rattle.fit_activity.specs.declared.activity.Summary.{Summary}
use Rattle.fit_activity.specs.Files.Finished.{summary_of_list}
use Rattle.fit_activity.specs.Rides.Recording.{Recorded}
use Rattle.fit_activity.proofs.OneList.Reheard.{one-list}
use Rattle.fit_disk.specs.State.{Contents}
use Rattle.fit_disk.specs.Story.{Story}
use Rattle.fit_journal.specs.CommittedLength.{Nothing, Length}
use Rattle.fit_recorder.specs.Files.NothingRecorded.{IsNothing}
use Rattle.fit_recorder.specs.Files.Body.{StandsFor}
use Rattle.fit_recorder.specs.Files.Finished.{HaveFinished, IsFinished, finished}
use Rattle.fit_recorder.specs.Calls.Recovery.{RecoveryAnswers, RecoversList}
use Rattle.fit_recorder.specs.declared.fault.RecFault.{RecFault}
use Rattle.fit_recorder.specs.declared.fault.RecFault.TheVariants.{NotEmpty, Refused, Full, JournalFull, Device, Failed, NothingRecorded, Damaged}
use Rattle.fit_recorder.proofs.RecoveredList.Reading.{one_row}
use Rattle.fit_recorder.proofs.RecoveredList.Settled.{one_body}

pub one_list : (list other : List Recorded) (contents : Contents) → StandsFor list contents → StandsFor other contents → list ≡ other
one_list list other contents stands others =
    let same : others.body ≡ stands.body = one_body contents stands.body others.body stands.commits others.commits in
    let row = one_row stands.body stands.is_body.items others.is_body.items stands.is_body.records (subst (λ body. Records body others.is_body.items) same others.is_body.records) in
    one-list list other stands.allowed others.allowed (sym stands.is_body.messages ∙ ap messages_of (sym row) ∙ others.is_body.messages)

pub one_finished : (contents : Contents) (bytes others : List ℕ) → HaveFinished contents bytes → HaveFinished contents others → bytes ≡ others
one_finished contents bytes others one other =
    let body = one_body contents one.stood.body other.stood.body one.stood.commits other.stood.commits in
    let list = one_list one.list other.list contents one.stood other.stood in
    one.is ∙ ap (λ body. finished body one.list) (sym body) ∙ ap (finished other.stood.body) list ∙ sym other.is

pub not_nothing : (list : List Recorded) (contents : Contents) → StandsFor list contents → IsNothing contents → ⊥
not_nothing list contents stands nothing =
    let long = stands.commits.in_data.long in
    ⊎_elim (λ empty. let none : length contents.in_data ≡ 0 = ap (λ (bytes : List ℕ). length bytes) empty in omega (arith, long, none))
    (λ none. let clash : Length (length stands.body) stands.commits.counts.checksum ≡ Nothing = sym stands.commits.counts.is ∙ none in absurd cc) nothing

pub is_recovered : (list : List Recorded) (contents : Contents) (story : Story) (result : Result Summary RecFault) → StandsFor list contents → RecoveryAnswers contents story result
    → (result ≡ Err Device) ⊎ RecoversList list story result
is_recovered list contents story (Ok summary) stands recovered =
    let same = one_list recovered.list list contents recovered.stood stands in
    inr (subst (λ list. IsFinished list story) same recovered.finished, subst (λ list. summary ≡ summary_of_list list) same recovered.sums_up)
is_recovered list contents story (Err Device) stands answers = inl refl
is_recovered list contents story (Err NothingRecorded) stands nothing = absurd (not_nothing list contents stands nothing)
is_recovered list contents story (Err Damaged) stands damaged = absurd (damaged.no_list list stands)
is_recovered list contents story (Err NotEmpty) stands none = absurd none
is_recovered list contents story (Err (Refused refusal)) stands none = absurd none
is_recovered list contents story (Err Full) stands none = absurd none
is_recovered list contents story (Err JournalFull) stands none = absurd none
is_recovered list contents story (Err Failed) stands none = absurd none
