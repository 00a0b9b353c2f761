-- The columns that the words of `--fields` name.
use Rattle.std.specs.Prelude.{◌≡◌, ◌⊎◌, ◌≤◌, ℕ, Bool, true, List, [], ◌∷◌, ◌++◌, map}
use Rattle.fit_commands.specs.declared.chosen.Chosen.{Chosen}
use Rattle.fit_table.specs.Table.{name_of}

-- the names of the developer fields
abbrev pub names_of : Chosen → List (List ℕ)
names_of chosen = map (λ name. name.now) chosen.names.items

-- one more field, which has this name
pub record AddsField (profile : Bool) (word : List ℕ) (old new : Chosen) : Type 0 where
  pub number : ℕ
  pub named : name_of profile old.message number ≡ word
  pub fields : new.fields.items ≡ old.fields.items ++ number ∷ []
  pub names : names_of new ≡ names_of old

-- with the Profile one more developer field, since no field has this name
pub record AddsDeveloperField (profile : Bool) (word : List ℕ) (old new : Chosen) : Type 0 where
  pub by_profile : profile ≡ true
  pub none : (number : ℕ) → number ≤ 255 → name_of profile old.message number ≡ word → ⊥
  pub fields : new.fields.items ≡ old.fields.items
  pub names : names_of new ≡ names_of old ++ word ∷ []

-- one more column of messages of the same number
pub record AddsColumn (profile : Bool) (word : List ℕ) (old new : Chosen) : Type 0 where
  pub message : new.message ≡ old.message
  pub column : AddsField profile word old new ⊎ AddsDeveloperField profile word old new
