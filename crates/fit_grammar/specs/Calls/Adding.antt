-- Adding an item to a file: the file with it, and why it may be refused.
use Rattle.std.specs.Prelude.{◌≡◌, ℕ, ◌+◌, ◌^◌, ◌<◌, ◌≤◌, Option, None, Some, IsSome, IsSomeAnd, List, [], ◌∷◌, ◌++◌, length}
use Rattle.fit_grammar.specs.Format.Item.{Item, item_size, content_size}
use Rattle.fit_grammar.specs.Format.Records.{in_force, data_size}
use Rattle.fit_grammar.specs.Format.File.{FileValue}

-- a file with one more item
abbrev pub with_item : FileValue → Item → FileValue
with_item v item = record { frame = v.frame; items = v.items ++ item ∷ [] }

-- with the item, the records would exceed 4,294,967,295 bytes
abbrev pub IsTooLong : FileValue → Item → Type 0
IsTooLong v item = 2 ^ 32 ≤ data_size v.items + item_size item

-- the local number has no definition in force
abbrev pub IsUndefined : FileValue → ℕ → Type 0
IsUndefined v local = in_force v.items local ≡ None

-- a time offset is below 32, and only local numbers below 4 have one
abbrev pub IsOffset : ℕ → Option ℕ → Type 0
IsOffset local None = Unit {0}
IsOffset local (Some offset) = (local < 4) × (offset < 32)

-- the content is as long as the definition in force requires, and the time offset is possible
abbrev pub CanHold : FileValue → ℕ → Option ℕ → List ℕ → Type 0
CanHold v local offset content =
    IsSomeAnd (in_force v.items local) (λ d. content_size d ≡ length content)
    × IsOffset local offset

-- a definition is in force, but the content's length or the time offset does not fit
abbrev pub HasWrongLength : FileValue → ℕ → Option ℕ → List ℕ → Type 0
HasWrongLength v local offset content =
    IsSome (in_force v.items local) × (CanHold v local offset content → ⊥)
