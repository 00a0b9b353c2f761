-- The calls over lent files lead from any files of which reads give these bytes.
use Rattle.std.proofs.lemmas.Bool.{cases_lt}
use Rattle.std.proofs.lemmas.List.{get_or-replicate, get_or_past, length-replicate}
use Rattle.std.proofs.Common.{◌≡◌, inl, inr, length, replicate, eqb, eq-eqb, eqb-true, arith, ℕ, Bool, true, false, List, [], refl, sym, ap, ◌∙◌, subst, Err}
use Rattle.std.specs.Str.{bytes_eq}
use Rattle.std.proofs.lemmas.Slice.Eq.{bytes_eq-Decides}
use Rattle.fit_device.specs.Recovering.{SoundFiles, AreLent}
use Rattle.fit_disk.proofs.Leaving.{left_rest}
use Rattle.fit_disk.proofs.Moments.{begins}
use Rattle.fit_disk.specs.Calls.{IsSound}
use Rattle.fit_disk.specs.Content.{IsBytes}
use Rattle.fit_disk.specs.State.{Contents, BothLeft}
use Rattle.fit_disk.specs.Stored.{at_rest}
use Rattle.fit_disk.specs.Story.{Story, Throughout, seen_of}
use Rattle.fit_disk.specs.declared.disk.Which.TheVariants.{Data, Journal}
use Rattle.fit_recorder.specs.Calls.Erasing.{LeftOrErased}
use Rattle.fit_recorder.specs.Calls.Recovery.{RecoveryAnswers, InRecovery}
use Rattle.fit_recorder.specs.declared.fault.RecFault.{RecFault}
use Rattle.fit_recorder.specs.declared.fault.RecFault.TheVariants.{NotEmpty, Refused, Full, JournalFull, Device, Failed, NothingRecorded, Damaged}

-- files with these contents, all of which is kept
abbrev rests : List ℕ → List ℕ → Story
rests in_data in_journal = record { now = record { data_file = at_rest in_data; journal_file = at_rest in_journal }; past = [] }

choose : (same_data same_journal : Bool) → Story → Story → Story
choose true true files others = files
choose true false files others = others
choose false same_journal files others = others

-- the files, if reads of them give these bytes, and else files that are at rest with these
pub chosen : SoundFiles → List ℕ → List ℕ → Story
chosen files in_data in_journal =
    choose (bytes_eq (seen_of Data files.story) in_data) (bytes_eq (seen_of Journal files.story) in_journal) files.story (rests in_data in_journal)

choice : (P : Story → Type 0) (same_data same_journal : Bool) (files others : Story) → (same_data ≡ true → same_journal ≡ true → P files) → P others
    → P (choose same_data same_journal files others)
unfolding choose
choice P true true files others here there = here refl refl
choice P true false files others here there = there
choice P false same_journal files others here there = there

pub chosen_sound : (files : SoundFiles) (in_data in_journal : List ℕ) → IsBytes in_data → IsBytes in_journal → IsSound (chosen files in_data in_journal).now
unfolding chosen
chosen_sound files in_data in_journal data_bytes journal_bytes =
    choice (λ (story : Story). IsSound story.now) _ _ files.story (rests in_data in_journal) (λ _ _. files.sound)
    (record { data_left = left_rest in_data data_bytes; journal_left = left_rest in_journal journal_bytes })

pub chosen_lent : (files : SoundFiles) (in_data in_journal : List ℕ)
    → (seen_of Data (chosen files in_data in_journal) ≡ in_data) × (seen_of Journal (chosen files in_data in_journal) ≡ in_journal)
unfolding chosen
chosen_lent files in_data in_journal =
    choice (λ (story : Story). (seen_of Data story ≡ in_data) × (seen_of Journal story ≡ in_journal)) _ _ files.story (rests in_data in_journal)
    (λ same_data same_journal. ((bytes_eq-Decides _ _).0 same_data, (bytes_eq-Decides _ _).0 same_journal)) (refl, refl)

pub chosen_is : (files : SoundFiles) (in_data in_journal : List ℕ) → AreLent files in_data in_journal → chosen files in_data in_journal ≡ files.story
unfolding chosen choose
chosen_is files in_data in_journal lent =
    let same_data : bytes_eq (seen_of Data files.story) in_data ≡ true = (bytes_eq-Decides _ _).1 lent.0 in
    let same_journal : bytes_eq (seen_of Journal files.story) in_journal ≡ true = (bytes_eq-Decides _ _).1 lent.1 in
    ap (λ (same : Bool). choose same (bytes_eq (seen_of Journal files.story) in_journal) files.story (rests in_data in_journal)) same_data
    ∙ ap (λ (same : Bool). choose true same files.story (rests in_data in_journal)) same_journal

-- the files, if the data file has this length, and else files that are at rest, of which one has
pub sized : SoundFiles → ℕ → Story
sized files size = choose (eqb (length (seen_of Data files.story)) size) true files.story (rests (replicate size 0) [])

zeros : (size : ℕ) → IsBytes (replicate size 0)
zeros size place =
    elim (cases_lt place size) [
      | inl within ↦ omega (arith, get_or-replicate {A = ℕ} size place 0 0 within)
      | inr past ↦ omega (arith, get_or_past {X = ℕ} (replicate size 0) place 0 (omega (arith, past, length-replicate {A = ℕ} size 0)))
    ]

pub sized_sound : (files : SoundFiles) (size : ℕ) → IsSound (sized files size).now
unfolding sized
sized_sound files size =
    choice (λ (story : Story). IsSound story.now) _ _ files.story (rests (replicate size 0) []) (λ _ _. files.sound)
    (record { data_left = left_rest (replicate size 0) (zeros size); journal_left = left_rest [] (λ place. omega arith) })

pub sized_long : (files : SoundFiles) (size : ℕ) → length (seen_of Data (sized files size)) ≡ size
unfolding sized
sized_long files size =
    choice (λ (story : Story). length (seen_of Data story) ≡ size) _ _ files.story (rests (replicate size 0) []) (λ same _. eqb-true _ _ same)
    (length-replicate size 0)

pub sized_is : (files : SoundFiles) (size : ℕ) → length (seen_of Data files.story) ≡ size → sized files size ≡ files.story
unfolding sized choose
sized_is files size long = ap (λ (same : Bool). choose same true files.story (rests (replicate size 0) [])) (eq-eqb _ _ long)

pub moments : (old earlier new later : Story) → old ≡ earlier → new ≡ later → Throughout (LeftOrErased old.now) old new → Throughout (LeftOrErased earlier.now) earlier later
moments old earlier new later olds news is =
    subst (λ (story : Story). Throughout (LeftOrErased earlier.now) earlier story) news (subst (λ (story : Story). Throughout (LeftOrErased story.now) story new) olds is)

pub in_recovery : (old earlier new later : Story) → old ≡ earlier → new ≡ later → InRecovery old new → InRecovery earlier later
in_recovery old earlier new later olds news is = subst (λ story. InRecovery earlier story) news (subst (λ story. InRecovery story new) olds is)

-- a plan without calls leaves what could be left
pub no_erasing : (old new : Story) → new ≡ old → Throughout (LeftOrErased old.now) old new
no_erasing old new same =
    subst (λ (story : Story). Throughout (LeftOrErased old.now) old story) (sym same) (begins (LeftOrErased old.now) old (λ contents left. inl left))

pub no_recovery : (old new : Story) → new ≡ old → InRecovery old new
no_recovery old new same = record { found = old; before = begins (BothLeft old.now) old (λ contents left. left); after = inl same }

-- why a recovery refuses does not depend on what its plan does
pub refusal_for : (fault : RecFault) (contents earlier : Contents) (before after : Story) → contents ≡ earlier → RecoveryAnswers contents before (Err fault)
    → RecoveryAnswers earlier after (Err fault)
refusal_for fault contents earlier before after same is = for fault (subst (λ (files : Contents). RecoveryAnswers files before (Err fault)) same is)
  where
    for : (fault : RecFault) → RecoveryAnswers earlier before (Err fault) → RecoveryAnswers earlier after (Err fault)
    for NothingRecorded is = is
    for Damaged is = is
    for Device is = is
    for NotEmpty is = is
    for (Refused refusal) is = is
    for Full is = is
    for JournalFull is = is
    for Failed is = is
