-- A host that is cut off in the middle of its calls.
use Rattle.std.specs.Prelude.{◌≡◌, ◌⊎◌, ℕ, List, ◌∷◌, take, drop}
use Rattle.std.specs.List.{fold}
use Rattle.fit_disk.specs.Calls.{PartlyWrote, PartlyShortened}
use Rattle.fit_disk.specs.Story.{Story}
use Rattle.fit_plan.specs.Carried.{which_of, write_kind, cut_kind, sync_kind}
use Rattle.fit_plan.specs.Planned.{done_by}
use Rattle.fit_plan.specs.declared.calls.Call.{Call}

-- a part of the call was done; a sync that does not return has kept nothing for certain
abbrev pub PartlyDone : Call → Story → Story → Type 0
PartlyDone call old new =
    ((call.kind ≡ write_kind) × PartlyWrote (which_of call.file) call.at call.count old new)
    ⊎ (((call.kind ≡ cut_kind) × PartlyShortened (which_of call.file) call.at old new)
    ⊎ ((call.kind ≡ sync_kind) × (new ≡ old)))

-- the story after the first so many calls
abbrev pub done_first : ℕ → List ℕ → List Call → Story → Story
done_first count bytes calls story = fold (done_by bytes) story (take count calls)

-- it is cut off after so many calls, or inside the next one
pub record IsCutOff (bytes : List ℕ) (calls : List Call) (old new : Story) : Type 0 where
  pub count : ℕ
  pub ends : (new ≡ done_first count bytes calls old)
      ⊎ ((call : Call) × (rest : List Call) × (drop count calls ≡ call ∷ rest)
      × PartlyDone call (done_first count bytes calls old) new)
