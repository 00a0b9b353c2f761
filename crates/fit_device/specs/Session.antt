-- What a session decides.
use Rattle.std.specs.Prelude.{◌≡◌, ◌⊎◌, ◌≤◌, ◌+◌, ℕ}

-- a step may not be made now
abbrev pub not_now : ℕ
not_now = 15

-- at no ride, or where an erasing was cut off: a ride may begin
abbrev pub IsFree : ℕ → Type 0
IsFree finding = (finding ≡ 1) ⊎ (finding ≡ 4)

-- at a ride that goes on: an entry, a commit or the end may come
abbrev pub IsRiding : ℕ → Type 0
IsRiding finding = finding ≡ 2

-- at a finished file: it may be asked to go on
abbrev pub IsFinished : ℕ → Type 0
IsFinished finding = finding ≡ 3

-- at what a boot has found, which 0 and numbers above 5 are not
abbrev pub IsBooted : ℕ → Type 0
IsBooted finding = (1 ≤ finding) × (finding ≤ 5)

-- a clock that shows that the power was off for a day at most after the last time
pub record IsInGap (last clock : ℕ) : Type 0 where
  pub after : last ≤ clock
  pub soon : clock ≤ last + 86400
