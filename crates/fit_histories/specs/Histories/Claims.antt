-- Claims: which lists of entries may be recorded, and how many entries of each are promised.
use Rattle.std.specs.Prelude.{◌≡◌, ◌⊎◌, ◌||◌, ℕ, ◌≤◌, Bool, true, false, List, [], ◌∷◌, ◌++◌, length, if◌then◌else◌}
use Rattle.fit_activity.specs.declared.recording.start.Start.{Start}
use Rattle.fit_activity.specs.Rides.Recording.{Recorded, Started}

-- one possibility: a prefix of this list is recorded, and it has at least so many entries
pub record Claim : Type 0 where
  pub list : List Recorded
  pub promise : ℕ

abbrev pub claim_of : List Recorded → ℕ → Claim
claim_of list promise = record { list = list; promise = promise }

-- the empty claim: nothing is recorded
abbrev pub no_claim : Claim
no_claim = claim_of [] 0

-- all of a list is recorded
abbrev pub whole : List Recorded → Claim
whole list = claim_of list (length list)

abbrev pub is_none : Claim → Bool
is_none claim = elim claim.list [ [] ↦ true | _ ↦ false ]

-- the empty claim is among them
abbrev pub has_none : List Claim → Bool
has_none [] = false
has_none (claim ∷ claims) = is_none claim || has_none claims

-- a list is a prefix of the claim's, and at least as long as the claim promises
pub record Begins (claim : Claim) (list : List Recorded) : Type 0 where
  pub rest : List Recorded
  pub begins : claim.list ≡ list ++ rest
  pub least : claim.promise ≤ length list

-- a list is such a prefix for one of the claims
abbrev pub MayBe : List Claim → List Recorded → Type 0
MayBe [] list = ⊥
MayBe (claim ∷ claims) list = Begins claim list ⊎ MayBe claims list

-- the claims after a start that the device broke off: the start may be recorded if the empty claim was among them
abbrev pub with_start : Start → List Claim → List Claim
with_start start claims = if has_none claims then whole (Started start ∷ []) ∷ claims else claims
