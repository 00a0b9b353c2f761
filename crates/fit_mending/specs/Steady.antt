-- Rows of items in which nothing is doubtful.
use Rattle.std.specs.Prelude.{◌≡◌, ℕ, ◌+◌, ◌<◌, ◌≤◌, true, false, List, [], ◌∷◌, length, take, drop, Option, Some}
use Rattle.fit_grammar.specs.declared.definition.Definition.{Definition}
use Rattle.fit_grammar.specs.Format.Item.{Item}
use Rattle.fit_grammar.specs.Calls.Step.{ItemAtFront}
use Rattle.fit_grammar.specs.Calls.Table.{in_force_after}
use Rattle.fit_mending.specs.declared.clock.Sign.{Sign}
use Rattle.fit_mending.specs.declared.clock.Sign.TheVariants.{Doubtful, Strong}
use Rattle.fit_mending.specs.declared.progress.Progress.{Progress}
use Rattle.fit_mending.specs.Form.{begins_item, runs_into_unwritten}
use Rattle.fit_mending.specs.Judged.{Judgement, judged, message_by}

-- an item, and how many bytes it has
pub record Sized : Type 0 where
  pub item : Item
  pub size : ℕ

-- under these definitions, an item at the front of the bytes is no fault and not doubtful after others, and does not run into a stretch that
-- nobody wrote; this is what it says
pub record IsCertain (definition_for : ℕ → Option Definition) (progress : Progress) (bytes : List ℕ) (one : Sized)
    (judgement : Judgement) : Type 0 where
  pub at : ItemAtFront definition_for bytes one.item one.size
  pub begins : begins_item bytes ≡ true
  pub is : judged progress (message_by definition_for progress.clock.last one.item) (take one.size bytes) ≡ Some judgement
  pub certain : judgement.sign ≡ Doubtful → ⊥
  pub whole : runs_into_unwritten bytes one.size ≡ false

-- under these definitions, an item at the front of the bytes is no fault after others; this is what it says
pub record IsSound (definition_for : ℕ → Option Definition) (progress : Progress) (bytes : List ℕ) (one : Sized)
    (judgement : Judgement) : Type 0 where
  pub at : ItemAtFront definition_for bytes one.item one.size
  pub is : judged progress (message_by definition_for progress.clock.last one.item) (take one.size bytes) ≡ Some judgement

abbrev pub HasSound : (ℕ → Option Definition) → Progress → List ℕ → Type 0
HasSound definition_for progress bytes =
    (one : Sized) × (judgement : Judgement) × IsSound definition_for progress bytes one judgement

-- how many items there were since the last strong sign
abbrev pub quiet_after : ℕ → Sign → ℕ
quiet_after quiet Strong = 0
quiet_after quiet sign = quiet + 1

-- The bytes begin with these items, one after another, each sound after those before it; after so many without a strong sign, at least one
-- of 32 in succession is one.
abbrev pub IsSteady : (ℕ → Option Definition) → Progress → ℕ → List ℕ → List Sized → Type 0
IsSteady definition_for progress quiet bytes [] = Unit {0}
IsSteady definition_for progress quiet bytes (one ∷ row) =
    (judgement : Judgement) × IsCertain definition_for progress bytes one judgement × (quiet_after quiet judgement.sign < 32)
    × IsSteady (in_force_after one.item definition_for) judgement.progress (quiet_after quiet judgement.sign) (drop one.size bytes) row

abbrev pub row_size : List Sized → ℕ
row_size [] = 0
row_size (one ∷ row) = one.size + row_size row

-- so many sound items follow, or more
abbrev pub HasSteady : ℕ → (ℕ → Option Definition) → Progress → List ℕ → Type 0
HasSteady count definition_for progress bytes =
    (quiet : ℕ) × (row : List Sized) × (quiet < 32) × (count ≤ length row) × IsSteady definition_for progress quiet bytes row

-- a row that is trusted: 256 items or more in which nothing is doubtful. The first is a strong sign, as it is where 31 others were none.
abbrev pub IsTrusted : (ℕ → Option Definition) → Progress → List ℕ → Type 0
IsTrusted definition_for progress bytes =
    (row : List Sized) × (256 ≤ length row) × IsSteady definition_for progress 31 bytes row
