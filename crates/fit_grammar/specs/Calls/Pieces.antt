-- What is reported of a file that comes in pieces, given the bytes so far.
use Rattle.std.specs.Prelude.{◌≡◌, ◌≢◌, ℕ, ◌≤◌, List, ◌++◌, length, take, ◌⊎◌}
use Rattle.fit_grammar.specs.declared.file.fault.FaultKind.{FaultKind}
use Rattle.fit_grammar.specs.declared.file.fault.FaultKind.TheVariants.{Memory}
use Rattle.fit_grammar.specs.declared.file.fault.FileFault.{FileFault}
use Rattle.fit_grammar.specs.Format.Refusal.{Front, IsFront, front_bytes, front_end, Shows, IsShortestShown, Refusal, ItemBeginsAt}

-- no prefix of the bytes shows a fault
abbrev pub ShowsNothing : List ℕ → Type 0
ShowsNothing bytes =
    (n : ℕ) (kind : FaultKind) (place : ℕ) → n ≤ length bytes → Shows kind place (take n bytes) → ⊥

-- the shortest prefix of the bytes that shows a fault shows this one; or it is lack of memory, at an item that begins at or
-- before the refusal's place
abbrev pub IsShownBy : List ℕ → FileFault → Type 0
IsShownBy bytes fault =
    ((fault.kind ≢ Memory) × IsShortestShown bytes fault.kind fault.place)
    ⊎ ((fault.kind ≡ Memory) × ItemBeginsAt bytes fault.place
    × ((kind : FaultKind) (place : ℕ) → Refusal bytes kind place → fault.place ≤ place))

-- no row of whole items at the front of the bytes ends past the place
abbrev pub NoItemEndsPast : List ℕ → ℕ → Type 0
NoItemEndsPast bytes place =
    (front : Front) (rest : List ℕ) → IsFront front → bytes ≡ front_bytes front ++ rest
    → front_end front ≤ place
