-- Times that are moved one after another: for `move_times`.
use Rattle.std.proofs.Common.{◌≡◌, ℕ, ◌+◌, ◌-◌, ◌<◌, ◌≤◌, List, [], ◌∷◌, ◌++◌, length, take, drop, sym, ap, ◌∙◌, arith, append_assoc, append-nil}
use Rattle.std.proofs.lemmas.List.{length-drop, take-append-drop}
use Rattle.fit_base.specs.declared.order.Arch.{Arch}
use Rattle.fit_base.specs.Number.{number}
use Rattle.fit_grammar.specs.Calls.PlainForm.{time_bytes}
use Rattle.fit_shifting.specs.declared.shift.Shift.{Shift}
use Rattle.fit_shifting.specs.Moved.{moved_time}
use Rattle.fit_shifting.specs.Private.Content.{times_moved}
use Rattle.fit_shifting.proofs.Middle.{front_back, rest_back, long_back, lent_length}
use Rattle.fit_shifting.proofs.MovedValues.{times_length, none_moved}

-- the first of them
first : (shift : Shift) (arch : Arch) (bytes : List ℕ) → 4 ≤ length bytes
    → times_moved shift arch (take 4 bytes) ++ times_moved shift arch (drop 4 bytes) ≡ times_moved shift arch bytes
first shift arch [] some = absurd (omega (arith, some))
first shift arch (a ∷ []) some = absurd (omega (arith, some))
first shift arch (a ∷ b ∷ []) some = absurd (omega (arith, some))
first shift arch (a ∷ b ∷ c ∷ []) some = absurd (omega (arith, some))
first shift arch (a ∷ b ∷ c ∷ d ∷ bytes) some =
    let own = time_bytes arch (moved_time shift (number arch (a ∷ b ∷ c ∷ d ∷ []))) in
    ap (λ (l : List ℕ). l ++ times_moved shift arch bytes) (append-nil own)

pub time_passed : (shift : Shift) (arch : Arch) (bytes new : List ℕ) (at count : ℕ) → count ≡ 4 → 4 ≤ length bytes - at
    → new ≡ times_moved shift arch (take count (drop at bytes))
    → at + 4 ≤ length (take at bytes ++ (new ++ drop count (drop at bytes)))
time_passed shift arch bytes new at count four some is =
    let within : at + count ≤ length bytes = omega (arith, four, some) in
    let size : length new ≡ count = ap length is ∙ times_length shift arch (take count (drop at bytes)) ∙ lent_length bytes at count within in
    omega (arith, four, some, long_back bytes new at count within size)

pub time_moved : (shift : Shift) (arch : Arch) (bytes new all : List ℕ) (at count : ℕ) → count ≡ 4 → 4 ≤ length bytes - at
    → new ≡ times_moved shift arch (take count (drop at bytes))
    → take at bytes ++ times_moved shift arch (drop at bytes) ≡ all
    → take (at + 4) (take at bytes ++ (new ++ drop count (drop at bytes)))
    ++ times_moved shift arch (drop (at + 4) (take at bytes ++ (new ++ drop count (drop at bytes)))) ≡ all
time_moved shift arch bytes new all at count four some is so_far =
    let within : at + count ≤ length bytes = omega (arith, four, some) in
    let room : at + 4 ≤ length bytes = omega (arith, some) in
    let size : length new ≡ 4 =
    ap length is ∙ times_length shift arch (take count (drop at bytes)) ∙ lent_length bytes at count within ∙ four in
    let rest = drop count (drop at bytes) in
    let back = take at bytes ++ (new ++ rest) in
    let left : 4 ≤ length (drop at bytes) = omega (arith, some, length-drop at bytes) in
    ap (λ (l : List ℕ). l ++ times_moved shift arch (drop (at + 4) back)) (front_back bytes new at count 4 room size)
    ∙ ap (λ (l : List ℕ). (take at bytes ++ new) ++ times_moved shift arch l) (rest_back bytes new at count 4 room size)
    ∙ append_assoc (take at bytes) new (times_moved shift arch rest)
    ∙ ap (λ (l : List ℕ). take at bytes ++ l)
    (ap (λ (l : List ℕ). l ++ times_moved shift arch rest) is
    ∙ ap (λ (n : ℕ). times_moved shift arch (take n (drop at bytes)) ++ times_moved shift arch (drop n (drop at bytes))) four
    ∙ first shift arch (drop at bytes) left)
    ∙ so_far

-- fewer than four bytes are left
pub times_done : (shift : Shift) (arch : Arch) (bytes all : List ℕ) (at : ℕ) → length bytes - at < 4
    → take at bytes ++ times_moved shift arch (drop at bytes) ≡ all → bytes ≡ all
times_done shift arch bytes all at few so_far =
    sym (take-append-drop at bytes)
    ∙ ap (λ (l : List ℕ). take at bytes ++ l) (sym (none_moved shift arch (drop at bytes) (omega (arith, few, length-drop at bytes))))
    ∙ so_far
