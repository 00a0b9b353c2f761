-- What is known of the items that are looked at in a row in which nothing is doubtful.
use Rattle.std.specs.Prelude.{◌≡◌, ℕ, ◌+◌, ◌-◌, ◌*◌, ◌<◌, ◌≤◌, Bool, true, false, List, ◌++◌, length, drop, Option, Some, None, min, nat_lt, if◌then◌else◌}
use Rattle.fit_grammar.specs.declared.definition.Definition.{Definition}
use Rattle.fit_grammar.specs.declared.item.Item.{Item as ReadItem}
use Rattle.fit_grammar.specs.Calls.Step.{item_of}
use Rattle.fit_grammar.specs.Calls.Table.{in_force_after}
use Rattle.fit_mending.specs.declared.clock.Sign.{Sign}
use Rattle.fit_mending.specs.declared.clock.Sign.TheVariants.{Doubtful, Nothing, Weak, Strong}
use Rattle.fit_mending.specs.declared.progress.Progress.{Progress}
use Rattle.fit_mending.specs.declared.trial.Ahead.{Ahead}
use Rattle.fit_mending.specs.declared.stray.Sequel.{Sequel}
use Rattle.fit_mending.specs.declared.stray.Sequel.TheVariants.{OfBefore, OfRow, Unrelated}
use Rattle.fit_mending.specs.declared.trial.Need.{Need}
use Rattle.fit_mending.specs.Judged.{Judgement}
use Rattle.fit_mending.specs.Reading.{IsWhole, MayBegin}
use Rattle.fit_mending.specs.Steady.{HasSound, IsSound, IsSteady, Sized, quiet_after, row_size}

abbrev pub sized : ReadItem → ℕ → Sized
sized item used = record { item = item_of item; size = used }

-- an item says something
abbrev pub is_sign : Sign → Bool
is_sign Doubtful = false
is_sign Nothing = false
is_sign Weak = true
is_sign Strong = true

-- how many items there were since the last strong sign with one more that is certain, if they are fewer than 32
abbrev pub quiet_if : ℕ → Sign → Option ℕ
quiet_if quiet Doubtful = None
quiet_if quiet sign = if nat_lt (quiet_after quiet sign) 32 then Some (quiet_after quiet sign) else None

abbrev pub worth_with : ℕ → Sign → ℕ
worth_with worth Doubtful = worth - 4
worth_with worth Nothing = worth
worth_with worth Weak = min (worth + 1) 4294967295
worth_with worth Strong = min (worth + 3) 4294967295

-- what was looked at, with one more item
abbrev pub ahead_with : Ahead → Sign → Bool → Need → Ahead
ahead_with ahead sign is_definition need = record {
  worth = worth_with ahead.worth sign;
  idle = if is_sign sign then 0 else if is_definition then 0 else ahead.idle + 1;
  definitions = if is_sign sign then 0 else if is_definition then ahead.definitions + 1 else 0;
  gap = if is_sign sign then need.gap else if is_definition then need.gap else ahead.gap;
}

-- so many strong signs are enough
pub record IsEnough (signs : ℕ) (need : Need) : Type 0 where
  pub some : 1 ≤ signs
  pub few : 32 * signs ≤ 1000
  pub worth : need.worth ≤ 3 * signs
  pub idle : 31 ≤ need.idle

-- something has to follow, also where the bytes end or a fault comes
pub record AsksSome (need : Need) : Type 0 where
  pub at_end : 1 ≤ need.at_end
  pub at_fault : 1 ≤ need.at_fault

-- no item was looked at yet, or the first one is no fault
pub record IsAtFirst (own latest : List (Option Definition)) (later progress : Progress) (rest bytes : List ℕ) (ahead : Ahead) : Type 0 where
  pub own_is : own ≡ latest
  pub later_is : later ≡ progress
  pub rest_is : rest ≡ bytes
  pub worth : ahead.worth ≡ 0
  pub gap : ahead.gap ≡ 0

-- so many items were looked at, and these sound ones follow
pub record LooksOn (signs : ℕ) (definition_for : ℕ → Option Definition) (progress : Progress) (rest : List ℕ) (count : ℕ)
    (ahead : Ahead) : Type 0 where
  pub left : List Sized
  pub quiet : ℕ
  pub found : ℕ
  pub steady : IsSteady definition_for progress quiet rest left
  pub long : 32 * signs ≤ count + length left
  pub worth : 3 * found ≤ ahead.worth
  pub less : ahead.worth < 3 * signs
  pub most : count ≤ 32 * found + quiet
  pub short : quiet < 32
  pub idle : ahead.idle ≤ quiet
  pub definitions : ahead.definitions ≤ quiet

-- this was said of the item at the front, and these sound ones follow
pub record SaidOf (definition_for : ℕ → Option Definition) (progress : Progress) (quiet : ℕ) (bytes : List ℕ) (one : Sized) (row : List Sized)
    (used : ℕ) (said : Option Sign) : Type 0 where
  pub sign : Sign
  pub said_is : said ≡ Some sign
  pub size : one.size ≡ used
  pub certain : sign ≡ Doubtful → ⊥
  pub short : quiet_after quiet sign < 32
  pub steady : IsSteady definition_for progress (quiet_after quiet sign) (drop used bytes) row

-- these bytes are the end of others
pub record IsEndOf (bytes rest : List ℕ) : Type 0 where
  pub before : ℕ
  pub within : before ≤ length bytes
  pub rest_is : rest ≡ drop before bytes

-- what follows a row soon
abbrev pub FollowsRow : (ℕ → Option Definition) → Progress → List ℕ → Sequel → Type 0
FollowsRow definition_for progress bytes (OfRow rest) = IsEndOf bytes rest.now
FollowsRow definition_for progress bytes (OfBefore rest) = IsEndOf bytes rest.now × HasSound definition_for progress rest.now
FollowsRow definition_for progress bytes Unrelated = Unit {0}

-- so many items that are certain, after so many, and so many since the last strong sign
abbrev pub StaysSteady : ℕ → (ℕ → Option Definition) → Progress → ℕ → List ℕ → Type 0
StaysSteady count definition_for progress quiet bytes =
    (row : List Sized) × (256 ≤ count + length row) × IsSteady definition_for progress quiet bytes row

-- this item was read, which is no fault and is whole, where the ride may have begun anew
abbrev pub ReadsItem : (ℕ → Option Definition) → Progress → List ℕ → ReadItem → ℕ → Progress → Type 0
ReadsItem definition_for progress bytes item used after =
    (from : Progress) × (judgement : Judgement) × MayBegin progress from
    × IsSound definition_for from bytes (sized item used) judgement × (judgement.progress ≡ after) × IsWhole definition_for after bytes (sized item used)

-- this item of a row was passed, and these definitions and this progress are those after it
pub record PassesOne (definition_for : ℕ → Option Definition) (progress : Progress) (bytes : List ℕ) (one : Sized) (row : List Sized)
    (found : Option (ReadItem × ℕ)) : Type 0 where
  pub item : ReadItem
  pub found_is : found ≡ Some (item, one.size)
  pub quiet : ℕ
  pub short : quiet < 32
  pub steady : IsSteady (in_force_after (item_of item) definition_for) progress quiet (drop one.size bytes) row

-- these items of a row are left, after so many bytes of it
pub record HasRowLeft (definition_for : ℕ → Option Definition) (progress : Progress) (bytes : List ℕ) (front to : ℕ) (last : List Sized) : Type 0 where
  pub left : List Sized
  pub quiet : ℕ
  pub short : quiet < 32
  pub steady : IsSteady definition_for progress quiet (drop front bytes) (left ++ last)
  pub size : front + row_size left ≡ to

-- the items of a row were passed, or these are left
abbrev pub PassesTo : (ℕ → Option Definition) → Progress → List ℕ → ℕ → ℕ → List Sized → Type 0
PassesTo definition_for progress bytes front to last =
    front < to → HasRowLeft definition_for progress bytes front to last
