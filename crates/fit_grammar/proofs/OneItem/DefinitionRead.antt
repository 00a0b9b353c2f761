-- A definition that is read is spelled by its bytes, and a prefix of an item can be completed to one: for `DefinitionMessage`
-- and the reading of one item.
use Rattle.std.proofs.Common.{◌≡◌, ℕ, zero, suc, ◌+◌, ◌*◌, ◌-◌, ◌/◌, ◌%◌, ◌<◌, ◌≤◌, Bool, true, false, cond, List, [], ◌∷◌, ◌++◌, length, map, take, drop, replicate, Option, Some, None, refl, sym, ap, ◌∙◌, inl, inr, arith, append-nil, length-append, length-drop}
use Rattle.std.specs.Prelude.{slice_index, nat_lt, nat_eq, sum_by}
use Rattle.std.specs.List.{flat_map}
use Rattle.std.proofs.Math.Seq.{get_or-append_right}
use Rattle.std.proofs.lemmas.Bool.{cases_lt, lt-ltb, le-ltb}
use Rattle.std.proofs.lemmas.List.{length-take-le, length-map, length-replicate, get_or-replicate, get_or-take, get_or_append_left, get_or-append-add, take-append-drop, take_all, drop_all, drop_more}
use Rattle.std.proofs.lemmas.List.Sums.{sum_by-cons}
use Rattle.fit_base.specs.Number.{number}
use Rattle.fit_grammar.specs.declared.definition.FieldDefinition.{FieldDefinition}
use Rattle.fit_grammar.specs.declared.definition.DeveloperFieldDefinition.{DeveloperFieldDefinition}
use Rattle.fit_grammar.specs.declared.definition.Definition.{Definition}
use Rattle.fit_grammar.specs.Format.Item.{Defines, Data, DefinitionHead, DataHead, head_of, arch_of, field_bytes, developer_bytes, developer_part, part_size, SpellsDefinition, content_size}
use Rattle.fit_grammar.specs.declared.item.Item.TheVariants as items
use Rattle.fit_grammar.specs.declared.item.Step.TheVariants as steps
use Rattle.fit_grammar.specs.Calls.Step.{ItemBegun, IsStep, after_fields, definition_length_of}
use Rattle.fit_grammar.specs.Private.DefinitionBytes.{fields_in, as_developer, developer_in, definition_at, AreDefinition}

head_by : (a b announced c : Bool) (k m l : ℕ) (o : Option ℕ)
    → cond a (DataHead k None) (cond b (DefinitionHead k announced) (DataHead m o)) ≡ DefinitionHead l c → l ≡ k
head_by true b announced c k m l o e = absurd cc
head_by false true announced c k m l o e = cc
head_by false false announced c k m l o e = absurd cc

-- the local number of a definition is in the low four bits of its first byte
pub head_local : (byte l : ℕ) (announced : Bool) → head_of byte ≡ DefinitionHead l announced → l ≡ byte % 16
head_local byte l announced e =
    head_by (nat_lt byte 64) (nat_lt byte 128) (nat_eq (byte / 32 % 2) 1) announced (byte % 16) (byte / 32 % 4) l (Some (byte % 32)) e

pub head_below : (byte l : ℕ) (announced : Bool) → head_of byte ≡ DefinitionHead l announced → l < 16
head_below byte l announced e = let local = head_local byte l announced e in omega arith

-- and so is that of a definition that is spelled
pub local_below : (d : Definition) (a : List ℕ) → SpellsDefinition d a → d.local < 16
local_below d a p = head_below p.first d.local p.announced p.head

pub own_head : (byte l : ℕ) (announced : Bool) → head_of byte ≡ DefinitionHead l announced
    → head_of byte ≡ DefinitionHead (byte % 16) announced
own_head byte l announced head = head ∙ ap (λ (k : ℕ). DefinitionHead k announced) (head_local byte l announced head)

-- the fields that bytes spell have those bytes
fields_in-length : (n : ℕ) (bytes : List ℕ) → length bytes ≡ 3 * n → length (fields_in bytes) ≡ n
fields_in-length zero [] e = refl
fields_in-length zero (a ∷ bytes) e = absurd (omega arith)
fields_in-length (suc n) [] e = absurd (omega arith)
fields_in-length (suc n) (a ∷ []) e = absurd (omega arith)
fields_in-length (suc n) (a ∷ b ∷ []) e = absurd (omega arith)
fields_in-length (suc n) (a ∷ b ∷ c ∷ bytes) e = ap suc (fields_in-length n bytes (omega arith))

fields_in-bytes : (n : ℕ) (bytes : List ℕ) → length bytes ≡ 3 * n → flat_map field_bytes (fields_in bytes) ≡ bytes
fields_in-bytes zero [] e = refl
fields_in-bytes zero (a ∷ bytes) e = absurd (omega arith)
fields_in-bytes (suc n) [] e = absurd (omega arith)
fields_in-bytes (suc n) (a ∷ []) e = absurd (omega arith)
fields_in-bytes (suc n) (a ∷ b ∷ []) e = absurd (omega arith)
fields_in-bytes (suc n) (a ∷ b ∷ c ∷ bytes) e = rw (fields_in-bytes n bytes (omega arith)) refl

-- and so have the developer fields
as_developer-bytes : (fields : List FieldDefinition) → flat_map developer_bytes (map as_developer fields) ≡ flat_map field_bytes fields
as_developer-bytes [] = refl
as_developer-bytes (field ∷ fields) = rw (as_developer-bytes fields) refl

developer_in-length : (n : ℕ) (bytes : List ℕ) → length bytes ≡ 3 * n → length (developer_in bytes) ≡ n
developer_in-length n bytes e = length-map (fields_in bytes) as_developer ∙ fields_in-length n bytes e

developer_in-bytes : (n : ℕ) (bytes : List ℕ) → length bytes ≡ 3 * n → flat_map developer_bytes (developer_in bytes) ≡ bytes
developer_in-bytes n bytes e = as_developer-bytes (fields_in bytes) ∙ fields_in-bytes n bytes e

-- and the same sizes
pub developer_sizes : (fields : List FieldDefinition)
    → sum_by (λ field. field.size) (map as_developer fields) ≡ sum_by (λ field. field.size) fields
developer_sizes [] = refl
developer_sizes (field ∷ fields) =
    sum_by-cons (λ field. field.size) (as_developer field) (map as_developer fields)
    ∙ ap (λ (n : ℕ). field.size + n) (developer_sizes fields) ∙ sym (sum_by-cons (λ field. field.size) field fields)

-- the definition of six bytes, fields and developer fields
abbrev read_as : (a c d e : ℕ) → List FieldDefinition → List DeveloperFieldDefinition → Definition
read_as a c d e fields developer =
    record {
      local = a % 16;
      arch = arch_of c;
      global = number (arch_of c) (d ∷ e ∷ []);
      fields = record { items = fields };
      developer = record { items = developer };
    }

-- six bytes, three for each field, and the announced part are spelled so
spelled_by : (a b c d e n : ℕ) (announced : Bool) (fields rest : List ℕ) (developer : List DeveloperFieldDefinition)
    → head_of a ≡ DefinitionHead (a % 16) announced → length fields ≡ 3 * n → rest ≡ fields ++ developer_part announced developer
    → (announced ≡ false → developer ≡ [])
    → SpellsDefinition (read_as a c d e (fields_in fields) developer) (a ∷ b ∷ c ∷ d ∷ e ∷ n ∷ rest)
spelled_by a b c d e n announced fields rest developer head whole joined none =
    let part = developer_part announced developer in
    let laid : a ∷ b ∷ c ∷ d ∷ e ∷ n ∷ rest
    ≡ a ∷ b ∷ c ∷ d ∷ e ∷ length (fields_in fields) ∷ (flat_map field_bytes (fields_in fields) ++ part) =
    rw (fields_in-length n fields whole, fields_in-bytes n fields whole, joined) refl in
    record {
      first = a;
      reserved = b;
      architecture = c;
      global_1 = d;
      global_2 = e;
      announced = announced;
      laid_out = laid;
      head = head;
      none = none;
      arch = refl;
      global = refl;
    }

-- what comes after six bytes, with developer fields announced or not
rest_is : (announced : Bool) (n : ℕ) (rest : List ℕ) → 3 * n ≤ length rest
    → length rest ≡ 3 * n + part_size announced (slice_index rest (3 * n))
    → (rest ≡ take (3 * n) rest ++ developer_part announced (developer_in (drop (3 * n + 1) rest)))
    × (announced ≡ false → developer_in (drop (3 * n + 1) rest) ≡ [])
rest_is false n rest fields whole =
    let none : drop (3 * n + 1) rest ≡ [] = drop_all (3 * n + 1) rest (omega arith) in (
      sym (take_all (3 * n) rest (omega arith)) ∙ sym (append-nil (take (3 * n) rest)),
      λ _. ap developer_in none,
    )
rest_is true n rest fields whole =
    let count = slice_index rest (3 * n) in
    let developer = drop (3 * n + 1) rest in
    let three : length developer ≡ 3 * count = omega (arith, length-drop (3 * n + 1) rest) in
    let after : drop (3 * n) rest ≡ count ∷ developer = drop_more rest (3 * n) 0 (omega arith) in (
      sym (take-append-drop (3 * n) rest) ∙ ap (λ (l : List ℕ). take (3 * n) rest ++ l)
          (after ∙ rw (developer_in-length count developer three, developer_in-bytes count developer three) refl),
      λ bad. absurd cc,
    )

spelled_rest : (a b c d e n : ℕ) (announced : Bool) (rest : List ℕ) → head_of a ≡ DefinitionHead (a % 16) announced
    → 3 * n ≤ length rest → length rest ≡ 3 * n + part_size announced (slice_index rest (3 * n))
    → SpellsDefinition (definition_at (a ∷ b ∷ c ∷ d ∷ e ∷ n ∷ rest)) (a ∷ b ∷ c ∷ d ∷ e ∷ n ∷ rest)
spelled_rest a b c d e n announced rest head fields whole =
    let is = rest_is announced n rest fields whole in
    spelled_by a b c d e n announced (take (3 * n) rest) rest (developer_in (drop (3 * n + 1) rest)) head
    (length-take-le (3 * n) rest fields) is.0 is.1

-- the bytes of one definition spell it
pub definition_spelled : (bytes : List ℕ) → AreDefinition bytes → SpellsDefinition (definition_at bytes) bytes
definition_spelled [] are = let fields = are.fields in absurd (omega arith)
definition_spelled (a ∷ []) are = let fields = are.fields in absurd (omega arith)
definition_spelled (a ∷ b ∷ []) are = let fields = are.fields in absurd (omega arith)
definition_spelled (a ∷ b ∷ c ∷ []) are = let fields = are.fields in absurd (omega arith)
definition_spelled (a ∷ b ∷ c ∷ d ∷ []) are = let fields = are.fields in absurd (omega arith)
definition_spelled (a ∷ b ∷ c ∷ d ∷ e ∷ []) are = let fields = are.fields in absurd (omega arith)
definition_spelled (a ∷ b ∷ c ∷ d ∷ e ∷ n ∷ rest) are =
    let fields = are.fields in
    let count = ap (part_size are.announced) (get_or-append-add (a ∷ b ∷ c ∷ d ∷ e ∷ n ∷ []) rest (3 * n) 0) in
    spelled_rest a b c d e n are.announced rest are.head (omega arith) (omega (arith, are.whole, count))

-- the length of a definition that is there as a whole
pub whole_length : (announced : Bool) (end used : ℕ) (window : List ℕ) → used ≡ after_fields announced end window
    → used ≤ length window
    → (end ≤ used) × (used ≡ end + part_size announced (slice_index (take used window) end))
whole_length false end used window is le = (omega (arith, is), omega (arith, is))
whole_length true end used window is le =
    elim (cases_lt end (length window)) [
      | inl lt ↦
          let all : used ≡ end + part_size true (slice_index window end) = is ∙ rw (lt-ltb _ _ lt) refl in
          let same : slice_index (take used window) end ≡ slice_index window end = get_or-take used window end 0 (omega (arith, all)) in
          (omega (arith, all), all ∙ ap (λ (n : ℕ). end + part_size true n) (sym same))
      | inr ge ↦
          let one : used ≡ end + part_size true 0 = is ∙ rw (le-ltb _ _ ge) refl in
          absurd (omega (arith, one))
    ]

-- a definition has at least its fields and the number of its developer fields
pub after_least : (announced : Bool) (end : ℕ) (window : List ℕ) → end + part_size announced 0 ≤ after_fields announced end window
after_least false end window = omega arith
after_least true end window =
    elim (cases_lt end (length window)) [
      | inl lt ↦
          let all : after_fields true end window ≡ end + part_size true (slice_index window end) = rw (lt-ltb _ _ lt) refl in
          omega (arith, all)
      | inr ge ↦
          let one : after_fields true end window ≡ end + part_size true 0 = rw (le-ltb _ _ ge) refl in
          omega (arith, one)
    ]

-- the least length of a definition, by what is there of it
pub few_fields : (announced : Bool) (window : List ℕ) → length window < 6 → definition_length_of announced window ≡ 6
few_fields announced window lt =
    ap (λ (t : Bool). cond t 6 (after_fields announced (6 + 3 * slice_index window 5) window)) (lt-ltb (length window) 6 lt)

pub all_fields : (announced : Bool) (window : List ℕ) → 6 ≤ length window
    → definition_length_of announced window ≡ after_fields announced (6 + 3 * slice_index window 5) window
all_fields announced window le =
    ap (λ (t : Bool). cond t 6 (after_fields announced (6 + 3 * slice_index window 5) window)) (le-ltb (length window) 6 le)

-- the front of a window, if it has as many bytes as its definition
pub front_is : (window : List ℕ) (l used : ℕ) (announced : Bool) → head_of (slice_index window 0) ≡ DefinitionHead l announced
    → 1 ≤ length window → used ≡ definition_length_of announced window → used ≤ length window → AreDefinition (take used window)
front_is window l used announced head some length_is long =
    elim (cases_lt (length window) 6) [
      | inl short ↦ absurd (omega (arith, length_is, few_fields announced window short))
      | inr enough ↦
          let end = 6 + 3 * slice_index window 5 in
          let whole = whole_length announced end used window (length_is ∙ all_fields announced window enough) long in
          let first : slice_index (take used window) 0 ≡ slice_index window 0 = get_or-take used window 0 0 (omega (arith, whole.0)) in
          let fifth : slice_index (take used window) 5 ≡ slice_index window 5 = get_or-take used window 5 0 (omega (arith, whole.0)) in
          let count : length (take used window) ≡ used = length-take-le used window long in
          record {
            announced = announced;
            head = rw first (own_head (slice_index window 0) l announced head);
            fields = rw fifth (omega (arith, count, whole.0));
            whole = rw fifth (count ∙ whole.1);
          }
    ]

begun_by : (f : ℕ → Option Definition) (window rest : List ℕ) (d : Definition) → 1 ≤ length rest
    → SpellsDefinition d (window ++ rest) → ItemBegun f window
begun_by f window rest d more spelled = record { item = Defines d; rest = rest; more = more; spelled = spelled; defined = tt }

-- a definition without fields
bare : (a b c d e : ℕ) (announced : Bool) → head_of a ≡ DefinitionHead (a % 16) announced
    → SpellsDefinition (read_as a c d e [] []) (a ∷ b ∷ c ∷ d ∷ e ∷ 0 ∷ developer_part announced [])
bare a b c d e announced head = spelled_by a b c d e 0 announced [] (developer_part announced []) [] head refl refl (λ _. refl)

-- the empty list is a prefix of a definition
pub begun_empty : (f : ℕ → Option Definition) → ItemBegun f []
begun_empty f =
    begun_by f [] (64 ∷ 0 ∷ 0 ∷ 0 ∷ 0 ∷ 0 ∷ []) (read_as 64 0 0 0 [] []) (omega arith) (bare 64 0 0 0 0 false refl)

-- so a window with no bytes needs more
pub nothing_there : (f : ℕ → Option Definition) (window : List ℕ) → length window ≡ 0 → IsStep f window steps.NeedMore
nothing_there f [] none = record { states = begun_empty f; lent = tt; local = tt }
nothing_there f (byte ∷ window) none = absurd (omega arith)

-- with zeros after them, the bytes after the first six of a definition are whole
completed : (announced : Bool) (n : ℕ) (window rest : List ℕ) → length window ≡ 6 + length rest
    → slice_index window (6 + 3 * n) ≡ slice_index rest (3 * n) → length window < after_fields announced (6 + 3 * n) window
    → (count : ℕ) × (1 ≤ count) × (3 * n ≤ length rest + count)
    × (length rest + count ≡ 3 * n + part_size announced (slice_index (rest ++ replicate count 0) (3 * n)))
completed false n window rest long same short = (3 * n - length rest, omega arith, omega arith, omega arith)
completed true n window rest long same short =
    elim (cases_lt (3 * n) (length rest)) [
      | inl lt ↦
          let test : nat_lt (6 + 3 * n) (length window) ≡ true = lt-ltb _ _ (omega arith) in
          let all : after_fields true (6 + 3 * n) window ≡ 6 + 3 * n + part_size true (slice_index window (6 + 3 * n)) = rw test refl in
          let missing = 3 * n + part_size true (slice_index rest (3 * n)) - length rest in
          let there : slice_index (rest ++ replicate missing 0) (3 * n) ≡ slice_index rest (3 * n) =
          get_or_append_left rest (replicate missing 0) 0 (3 * n) lt in
          (missing, omega (arith, all, same), omega (arith, all, same), omega (arith, all, same, there))
      | inr ge ↦
          let missing = 3 * n + 1 - length rest in
          let zero_there : slice_index (rest ++ replicate missing 0) (3 * n) ≡ 0 =
          get_or-append_right rest (replicate missing 0) (3 * n) 0 ge ∙ get_or-replicate missing (3 * n - length rest) 0 0 (omega arith) in
          (missing, omega arith, omega arith, omega (arith, zero_there))
    ]

-- a window that is shorter than the definition at its front is a prefix of one
pub begun_definition : (f : ℕ → Option Definition) (window : List ℕ) (l : ℕ) (announced : Bool) → 1 ≤ length window
    → head_of (slice_index window 0) ≡ DefinitionHead l announced
    → length window < definition_length_of announced window → ItemBegun f window
begun_definition f [] l n some head short = absurd (omega arith)
begun_definition f (a ∷ []) l n some head short =
    begun_by f (a ∷ []) (0 ∷ 0 ∷ 0 ∷ 0 ∷ 0 ∷ developer_part n []) (read_as a 0 0 0 [] []) (omega arith)
    (bare a 0 0 0 0 n (own_head a l n head))
begun_definition f (a ∷ b ∷ []) l n some head short =
    begun_by f (a ∷ b ∷ []) (0 ∷ 0 ∷ 0 ∷ 0 ∷ developer_part n []) (read_as a 0 0 0 [] []) (omega arith)
    (bare a b 0 0 0 n (own_head a l n head))
begun_definition f (a ∷ b ∷ c ∷ []) l n some head short =
    begun_by f (a ∷ b ∷ c ∷ []) (0 ∷ 0 ∷ 0 ∷ developer_part n []) (read_as a c 0 0 [] []) (omega arith)
    (bare a b c 0 0 n (own_head a l n head))
begun_definition f (a ∷ b ∷ c ∷ d ∷ []) l n some head short =
    begun_by f (a ∷ b ∷ c ∷ d ∷ []) (0 ∷ 0 ∷ developer_part n []) (read_as a c d 0 [] []) (omega arith)
    (bare a b c d 0 n (own_head a l n head))
begun_definition f (a ∷ b ∷ c ∷ d ∷ e ∷ []) l n some head short =
    begun_by f (a ∷ b ∷ c ∷ d ∷ e ∷ []) (0 ∷ developer_part n []) (read_as a c d e [] []) (omega arith)
    (bare a b c d e n (own_head a l n head))
begun_definition f (a ∷ b ∷ c ∷ d ∷ e ∷ n ∷ rest) l announced some head short =
    let window : List ℕ = a ∷ b ∷ c ∷ d ∷ e ∷ n ∷ rest in
    let long : definition_length_of announced window ≡ after_fields announced (6 + 3 * n) window =
    all_fields announced window (omega arith) in
    let done = completed announced n window rest (omega arith)
    (get_or-append-add (a ∷ b ∷ c ∷ d ∷ e ∷ n ∷ []) rest (3 * n) 0) (omega (arith, long, short)) in
    let zeros = replicate done.0 0 in
    let count = length-replicate {A = ℕ} done.0 0 in
    let joined = length-append rest zeros in
    begun_by f window zeros (definition_at (window ++ zeros)) (omega (arith, count, done.1))
    (spelled_rest a b c d e n announced (rest ++ zeros) (own_head a l announced head)
    (omega (arith, count, joined, done.2)) (omega (arith, count, joined, done.3)))

-- a window that is shorter than the data message at its front is a prefix of one
pub begun_data : (f : ℕ → Option Definition) (window : List ℕ) (d : Definition) (local : ℕ) (offset : Option ℕ) → 1 ≤ length window
    → head_of (slice_index window 0) ≡ DataHead local offset → f local ≡ Some d → length window < 1 + content_size d → ItemBegun f window
begun_data f [] d local offset some head there short = absurd (omega arith)
begun_data f (first ∷ content) d local offset some head there short =
    let more = replicate (content_size d - length content) 0 in
    let count = length-replicate {A = ℕ} (content_size d - length content) 0 in
    let whole : content_size d ≡ length (content ++ more) = omega (arith, length-append content more, count) in
    record {
      item = Data local offset (content ++ more);
      rest = more;
      more = omega (arith, count);
      spelled = record { first = first; laid_out = refl; head = head };
      defined = rw there whole;
    }

-- a whole definition is an item at the front
pub next_is : (f : ℕ → Option Definition) (window : List ℕ) (l used : ℕ) (announced : Bool) (d : Definition)
    → head_of (slice_index window 0) ≡ DefinitionHead l announced → 1 ≤ length window
    → used ≡ definition_length_of announced window → used ≤ length window → d ≡ definition_at (take used window)
    → IsStep f window (steps.Item (items.Definition d) used)
next_is f window l used announced d head some length_is long value =
    let are = front_is window l used announced head some length_is long in
    let spelled : SpellsDefinition d (take used window) = rw value (definition_spelled (take used window) are) in
    record {
      states = record { within = long; spelled = spelled; defined = tt };
      lent = tt;
      local = local_below d (take used window) spelled;
    }
