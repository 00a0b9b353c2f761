-- Which fields the messages of a file have: for `numbers_in` and `Held`.
use Rattle.std.proofs.Common.{◌≡◌, ◌≢◌, ◌<◌, ◌≤◌, ℕ, zero, suc, ◌==◌, ◌&&◌, ◌||◌, not, nat_lt, max, if◌then◌else◌, Bool, true, false, List, [], ◌∷◌, ◌++◌, map, take, length, get_or, refl, sym, ap, ap₂, ◌∙◌, arith, rules}
use Rattle.std.specs.Option.{is_some}
use Rattle.std.proofs.lemmas.List.{length-append, length-take, take-append-le, take_all}
use Rattle.std.proofs.lemmas.Bool.Decides.{nat_tests}
use Rattle.fit_grammar.specs.declared.definition.Definition.{Definition}
use Rattle.fit_grammar.specs.declared.definition.FieldDefinition.{FieldDefinition}
use Rattle.fit_grammar.specs.declared.definition.DeveloperFieldDefinition.{DeveloperFieldDefinition}
use Rattle.fit_grammar.specs.Calls.LentItem.{LentItem, DefinesHere, DataHere}
use Rattle.fit_base.specs.Base.{base_type}
use Rattle.fit_columns.specs.declared.fields.FieldHere.{FieldHere}
use Rattle.fit_columns.specs.Fields.{native_here, developer_code, developer_here, fields_here, holding, held_by, held_in, is_one_by, timed_in}
use Rattle.fit_files.specs.Exports.Held.{has_field, is_field, is_field_of, is_held, numbers_by, or_time, others_below}

-- ---- what is held at the number of a field

max_more : (a b : ℕ) → nat_lt 1 (max a b) ≡ (nat_lt 1 a || nat_lt 1 b)
max_more a b = grind (arith, nat_tests)

or_assoc : (a b c : Bool) → ((a || b) || c) ≡ (a || (b || c))
or_assoc true b c = refl
or_assoc false b c = refl

or_false : (a : Bool) → (a || false) ≡ a
or_false true = refl
or_false false = refl

if_more : (b : Bool) (n : ℕ) → nat_lt 1 (if b then n else 0) ≡ (b && nat_lt 1 n)
if_more true n = refl
if_more false n = refl

holding_more : (empty one : Bool) → nat_lt 1 (if empty then 1 else if one then 2 else 3) ≡ not empty
holding_more true one = refl
holding_more false true = refl
holding_more false false = refl

native_more : (number : ℕ) (fields : List FieldDefinition) (rest : List FieldHere) →
    nat_lt 1 (held_by number (map native_here fields ++ rest)) ≡ (is_field_of number fields || nat_lt 1 (held_by number rest))
native_more number [] rest = refl
native_more number (field ∷ fields) rest =
    max_more (if field.number == number then holding (native_here field) else 0) (held_by number (map native_here fields ++ rest))
    ∙ ap₂ (λ (a b : Bool). a || b)
    (if_more (field.number == number) (holding (native_here field))
    ∙ ap (λ b. (field.number == number) && b) (holding_more (field.size == 0) (is_one_by (base_type field.base) field.size)))
    (native_more number fields rest)
    ∙ sym (or_assoc (is_field number field) (is_field_of number fields) (nat_lt 1 (held_by number rest)))

-- a developer field has no number of a byte as its code
developer_none : (number : ℕ) (fields : List DeveloperFieldDefinition) → number < 256 → held_by number (map developer_here fields) ≡ 0
developer_none number [] small = refl
developer_none number (field ∷ fields) small =
    let apart : developer_code field ≢ number = λ e. omega (arith, e, small) in
    let no : (developer_code field == number) ≡ false = search rules in
    rw (no, developer_none number fields small) refl

field_more : (number : ℕ) (d : Definition) → number < 256 → nat_lt 1 (held_by number (fields_here d)) ≡ is_field_of number d.fields.items
field_more number d small =
    native_more number d.fields.items (map developer_here d.developer.items)
    ∙ ap (λ n. is_field_of number d.fields.items || nat_lt 1 n) (developer_none number d.developer.items small)
    ∙ or_false (is_field_of number d.fields.items)

regrouped : (g f t s h r : Bool) → ((g && (f || (t && s))) || (h || (t && r))) ≡ (((g && f) || h) || (t && ((g && s) || r)))
regrouped false f t s h r = refl
regrouped true true t s h r = refl
regrouped true false false s h r = refl
regrouped true false true false h r = refl
regrouped true false true true true r = refl
regrouped true false true true false r = refl

pub held_says : (message number : ℕ) (items : List LentItem) → number < 256 →
    is_held message items number ≡ (nat_lt 1 (held_in message items number) || ((number == 253) && timed_in message items))
held_says message number [] small = and_false (number == 253)
  where
    and_false : (b : Bool) → false ≡ (b && false)
    and_false true = refl
    and_false false = refl
held_says message number (DefinesHere d ∷ items) small = held_says message number items small
held_says message number (DataHere m ∷ items) small =
    let g = m.definition.global == message in
    ap (λ b. (g && has_field number m) || b) (held_says message number items small)
    ∙ regrouped g (is_field_of number m.definition.fields.items) (number == 253) (is_some m.time) (nat_lt 1 (held_in message items number))
    (timed_in message items)
    ∙ ap (λ b. (b || nat_lt 1 (held_in message items number)) || ((number == 253) && ((g && is_some m.time) || timed_in message items)))
    (ap (λ b. g && b) (sym (field_more number m.definition small)) ∙ sym (if_more g (held_by number (fields_here m.definition))))
    ∙ ap (λ b. b || ((number == 253) && ((g && is_some m.time) || timed_in message items)))
    (sym (max_more (if g then held_by number (fields_here m.definition) else 0) (held_in message items number)))

-- one number more, where there is room, or not
pub held_room : (numbers items : List ℕ) (number : ℕ) → items ≡ take 128 numbers → length items < 128 → items ++ number ∷ [] ≡ take 128 (numbers ++ number ∷ [])
held_room numbers items number are few =
    let short : length numbers < 128 = omega (arith, ap length are, length-take 128 numbers, few) in
    ap (λ xs. xs ++ number ∷ []) (are ∙ take_all 128 numbers (omega (arith, short)))
    ∙ sym (take_all 128 (numbers ++ number ∷ []) (omega (arith, short, length-append numbers (number ∷ []))))

pub held_full : (numbers items : List ℕ) (number : ℕ) → items ≡ take 128 numbers → length items ≡ 128 → items ≡ take 128 (numbers ++ number ∷ [])
held_full numbers items number are full =
    are ∙ sym (take-append-le 128 numbers (number ∷ []) (omega (arith, ap length are, length-take 128 numbers, full)))

pub length-others : (held : ℕ → Bool) (count : ℕ) → length (others_below held count) ≤ count
length-others held zero = omega arith
length-others held (suc count) =
    omega (arith, length-others held count, length-append (others_below held count) (if held count && not (count == 253) then count ∷ [] else []), at_most_one (held count && not (count == 253)) count)
  where
    at_most_one : (is : Bool) (number : ℕ) → length (if is then number ∷ [] else []) ≤ 1
    at_most_one true number = omega arith
    at_most_one false number = omega arith

others_same : (one other : ℕ → Bool) (count : ℕ) → count ≤ 256 → ((number : ℕ) → number < 256 → one number ≡ other number)
    → others_below one count ≡ others_below other count
others_same one other zero most same = refl
others_same one other (suc count) most same =
    ap₂ (λ (xs : List ℕ) (b : Bool). xs ++ (if b && not (count == 253) then count ∷ [] else []))
    (others_same one other count (omega (arith, most)) same) (same count (omega (arith, most)))

-- the numbers of the fields that were noted
pub numbers_found : (found : List Bool) (held : ℕ → Bool) (at : ℕ) → at ≡ 253 → ((number : ℕ) → number < 256 → get_or found number false ≡ held number)
    → (if get_or found at false then 253 ∷ [] else []) ++ others_below (λ number. get_or found number false) 256 ≡ numbers_by held
numbers_found found held at is same =
    ap₂ (λ (b : Bool) (xs : List ℕ). (if b then 253 ∷ [] else []) ++ xs)
    (ap (λ n. get_or found n false) is ∙ same 253 (omega arith))
    (others_same (λ number. get_or found number false) held 256 (omega arith) same)

pub few_first : (is : Bool) → length {A = ℕ} (if is then 253 ∷ [] else []) < 2
few_first true = omega arith
few_first false = omega arith

-- no number is held, or some are
pub none_held : (numbers items : List ℕ) → items ≡ take 128 numbers → length items ≡ 0 → numbers ≡ []
none_held [] items are none = refl
none_held (number ∷ numbers) items are none = absurd (omega (arith, ap length are, length-take 128 (number ∷ numbers), none))

pub some_held : (numbers items : List ℕ) → items ≡ take 128 numbers → length items ≢ 0 → or_time numbers ≡ numbers
some_held [] items are some = absurd (some (ap length are))
some_held (number ∷ numbers) items are some = refl
