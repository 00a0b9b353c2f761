-- At how many items it looks ahead.
use Rattle.std.specs.Prelude.{◌≡◌, ℕ, ◌+◌, ◌-◌, ◌*◌, ◌≤◌}
use Rattle.fit_mending.specs.declared.looks.Looks.{Looks}

-- before any byte
abbrev pub IsFirst : Looks → Type 0
IsFirst looks = (looks.taken ≡ 0) × (looks.allowed ≤ 2000000)

-- it looked at so many more items at most
abbrev pub TakesLooks : Looks → Looks → ℕ → Type 0
TakesLooks old new most = (new.allowed ≡ old.allowed) × (old.taken ≤ new.taken) × (new.taken ≤ old.taken + most)

-- at how many items more than it may, and than it does before it sees that none are left
abbrev pub beyond : Looks → ℕ
beyond looks = looks.taken - (looks.allowed + 200000)

-- so many bytes were passed at most, for each of which it may look at 64 items more; beside what it may it looked at so many more at most
abbrev pub PassesLooks : Looks → Looks → ℕ → ℕ → Type 0
PassesLooks old new bytes most =
    (old.allowed ≤ new.allowed) × (new.allowed ≤ old.allowed + 64 * bytes) × (old.taken ≤ new.taken)
    × (beyond new ≤ beyond old + most)

-- no byte was passed
abbrev pub KeepsLooks : Looks → Looks → ℕ → Type 0
KeepsLooks old new most = PassesLooks old new 0 most
