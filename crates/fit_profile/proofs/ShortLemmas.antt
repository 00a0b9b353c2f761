-- The names of known fields are short: for `row`.
use Rattle.std.proofs.Common.{◌≡◌, ℕ, ◌≤◌, Bool, true, false, ◌&&◌, ◌==◌, nat_le, List, [], ◌∷◌, length, Option, Some, None, IfSome, option_map, refl, if◌then◌else◌, tests}
use Rattle.std.specs.Borrow.{Bor}
use Rattle.std.specs.Option.{option_or}
use Rattle.fit_profile.specs.declared.scale.Scale.{Scale}
use Rattle.fit_profile.specs.Facts.{FieldFacts, are_short, facts_of, row_in}
use Rattle.fit_profile.specs.Known.{common_known, known_at}
use Rattle.fit_profile.specs.Row.{row_or_common}

abbrev pub IsShort : Option FieldFacts → Type 0
IsShort o = IfSome o (λ row. length row.1 ≤ 30)

both : (a b : Bool) → (a && b) ≡ true → (a ≡ true) × (b ≡ true)
both true b e = (refl, e)
both false b e = cc

short_name : (name : List ℕ) → nat_le (length name) 30 ≡ true → length name ≤ 30
short_name name e = search tests

chosen : (b : Bool) (o p : Option FieldFacts) → IsShort o → IsShort p → IsShort (if b then o else p)
chosen true o p h k = h
chosen false o p h k = k

row_short : (rows : List FieldFacts) (number : ℕ) → are_short rows ≡ true → IsShort (row_in rows number)
row_short [] number e = tt
row_short (row ∷ rows) number e =
    let parts = both (nat_le (length row.1) 30) (are_short rows) e in
    chosen (row.0 == number) (Some row) (row_in rows number) (short_name row.1 parts.0) (row_short rows number parts.1)

common_short : are_short common_known ≡ true
unfolding common_known
common_short = refl

either : (o p : Option FieldFacts) → IsShort o → IsShort p → IsShort (option_or o p)
either None p h k = k
either (Some row) p h k = h

facts_short : (o : Option (Bor (ℕ × Bor (List ℕ) × Bor (List ℕ) × Scale))) (p : Option FieldFacts) → option_map (λ row. facts_of row.now) o ≡ p → IsShort p →
    IfSome o (λ row. length row.now.1.now ≤ 30)
facts_short None p e h = tt
facts_short (Some row) p e h = rw (← e) at h

pub known_short : (o : Option (Bor (ℕ × Bor (List ℕ) × Bor (List ℕ) × Scale))) (message number : ℕ) → are_short (known_at message) ≡ true →
    option_map (λ row. facts_of row.now) o ≡ row_or_common (known_at message) number → IfSome o (λ row. length row.now.1.now ≤ 30)
known_short o message number short e =
    facts_short o (row_or_common (known_at message) number) e
    (either (row_in (known_at message) number) (row_in common_known number) (row_short (known_at message) number short)
    (row_short common_known number common_short))
