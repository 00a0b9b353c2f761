-- What the two files of a recording keep of the claims of its history.
use Rattle.std.proofs.Common.{◌≡◌, ◌≢◌, ◌⊎◌, inl, inr, ⊎_elim, ℕ, ◌≤◌, Bool, true, false, List, [], ◌∷◌, ◌++◌, length, refl, sym, ap, ◌∙◌, subst, arith}
use Rattle.std.specs.Prelude.{IsTrue}
use Rattle.std.proofs.lemmas.List.{append-nil}
use Rattle.fit_activity.specs.declared.recording.start.Start.{Start}
use Rattle.fit_activity.specs.Rides.Recording.{Recorded, Started}
use Rattle.fit_disk.specs.State.{Contents}
use Rattle.fit_recorder.specs.Files.NothingRecorded.{IsNothing}
use Rattle.fit_recorder.specs.Files.Body.{StandsFor}
use Rattle.fit_recorder.specs.Files.Settled.{IsDamaged}
use Rattle.fit_recorder.proofs.RecoveredList.OneList.{one_list, not_nothing}
use Rattle.fit_histories.specs.Histories.Claims.{Claim, claim_of, no_claim, whole, has_none, MayBe, with_start}
use Rattle.fit_histories.specs.Rides.Standing.{KeepsClaim}

pub same_contents : (one other : Contents) → one.in_data ≡ other.in_data → one.in_journal ≡ other.in_journal → one ≡ other
same_contents one other same_data same_journal =
    let with_data : List ℕ → Contents = λ bytes. record { in_data = bytes; in_journal = one.in_journal } in
    let with_journal : List ℕ → Contents = λ bytes. record { in_data = other.in_data; in_journal = bytes } in
    ap with_data same_data ∙ ap with_journal same_journal

-- ---- lists that are found

-- if nothing is recorded, the empty claim is present
pub nothing_there : (claims : List Claim) (contents : Contents) → KeepsClaim claims contents → IsNothing contents → IsTrue (has_none claims)
nothing_there claims contents (inl stood) nothing = absurd (not_nothing stood.0 contents stood.2 nothing)
nothing_there claims contents (inr none) nothing = none.0

-- a list that the files stand for may be recorded
pub list_there : (claims : List Claim) (contents : Contents) (list : List Recorded) → KeepsClaim claims contents → StandsFor list contents → MayBe claims list
list_there claims contents list (inl stood) stands = subst (MayBe claims) (one_list stood.0 list contents stood.2 stands) stood.1
list_there claims contents list (inr none) stands = absurd (not_nothing list contents stands none.1)

-- the files are not damaged
pub not_damaged : (claims : List Claim) (contents : Contents) → KeepsClaim claims contents → IsDamaged contents → ⊥
not_damaged claims contents (inl stood) damaged = damaged.no_list stood.0 stood.2
not_damaged claims contents (inr none) damaged = damaged.something none.1

-- no files stand for a list without a start
pub some_list : (list : List Recorded) (contents : Contents) → StandsFor list contents → list ≢ []
some_list [] contents stands is = stands.allowed
some_list (r ∷ list) contents stands is = absurd cc

-- ---- how a claim is kept

pub keeps_list : (claims : List Claim) (contents : Contents) (list : List Recorded) → MayBe claims list → StandsFor list contents → KeepsClaim claims contents
keeps_list claims contents list may stands = inl (list, may, stands)

-- a prefix that has what is promised
pub keeps_front : (list committed rest : List Recorded) (promise : ℕ) (contents : Contents) → list ≡ committed ++ rest → promise ≤ length committed
    → StandsFor committed contents → KeepsClaim (claim_of list promise ∷ []) contents
keeps_front list committed rest promise contents begins least stands =
    keeps_list (claim_of list promise ∷ []) contents committed (inl (record { rest = rest; begins = begins; least = least })) stands

-- the whole list
pub keeps_whole : (list : List Recorded) (contents : Contents) → StandsFor list contents → KeepsClaim (whole list ∷ []) contents
keeps_whole list contents stands = keeps_front list list [] (length list) contents (sym (append-nil list)) (omega arith) stands

-- nothing recorded, if the empty claim is the first
pub keeps_none : (claims : List Claim) (contents : Contents) → IsNothing contents → KeepsClaim (no_claim ∷ claims) contents
keeps_none claims contents nothing = inr (refl, nothing)

-- what was kept, with one more claim
pub keeps_more : (claim : Claim) (claims : List Claim) (contents : Contents) → KeepsClaim claims contents → KeepsClaim (claim ∷ claims) contents
keeps_more claim claims contents (inl stood) = inl (stood.0, inr stood.1, stood.2)
keeps_more claim claims contents (inr none) = inr (after (has_none (claim ∷ [])) none.0, none.1)
  where
    after : (b : Bool) → IsTrue (has_none claims) → IsTrue (has_none (claim ∷ claims))
    after b is = rw is (grind arith)

-- ---- a start that the device broke off

started_claims : (start : Start) (claims : List Claim) → has_none claims ≡ true → with_start start claims ≡ whole (Started start ∷ []) ∷ claims
started_claims start claims none = rw none refl

-- what was kept before is kept
pub keeps_before : (start : Start) (claims : List Claim) (contents : Contents) → KeepsClaim claims contents → KeepsClaim (with_start start claims) contents
keeps_before start claims contents keeps = by (has_none claims) refl
  where
    by : (b : Bool) → has_none claims ≡ b → KeepsClaim (with_start start claims) contents
    by true is = subst (λ claims. KeepsClaim claims contents) (sym (started_claims start claims is)) (keeps_more (whole (Started start ∷ [])) claims contents keeps)
    by false is = rw is keeps

-- and so are the start or nothing, if the empty claim was present
pub keeps_started : (start : Start) (claims : List Claim) (contents : Contents) → has_none claims ≡ true → IsNothing contents ⊎ StandsFor (Started start ∷ []) contents
    → KeepsClaim (with_start start claims) contents
keeps_started start claims contents none either =
    subst (λ claims. KeepsClaim claims contents) (sym (started_claims start claims none))
    (⊎_elim (λ nothing. keeps_more (whole (Started start ∷ [])) claims contents (inr (none, nothing)))
    (λ stands. keeps_list (whole (Started start ∷ []) ∷ claims) contents (Started start ∷ []) (inl (record { rest = []; begins = refl; least = omega arith })) stands) either)
