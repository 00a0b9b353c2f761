-- How spellings of items begin, how long they are, and that none is a prefix of another: for the law of that name, and for
-- whatever reads items one after another.
use Rattle.std.proofs.Common.{◌≡◌, ℕ, ◌+◌, ◌*◌, ◌≤◌, Bool, true, false, List, [], ◌∷◌, ◌++◌, length, Option, Some, None, refl, sym, ap, ◌∙◌, append_assoc, arith}
use Rattle.std.specs.Prelude.{slice_index, IsSomeAnd}
use Rattle.std.specs.List.{flat_map}
use Rattle.std.proofs.Math.Seq.{get_or-append_seam}
use Rattle.std.proofs.lemmas.List.{length-append, get_or-append-add}
use Rattle.fit_base.specs.declared.order.Arch.{Arch}
use Rattle.fit_grammar.specs.declared.definition.FieldDefinition.{FieldDefinition}
use Rattle.fit_grammar.specs.declared.definition.DeveloperFieldDefinition.{DeveloperFieldDefinition}
use Rattle.fit_grammar.specs.declared.definition.Definition.{Definition}
use Rattle.fit_grammar.specs.Format.Item.{Item, Defines, Data, DefinitionHead, DataHead, head_of, arch_of, field_bytes, developer_bytes, developer_part, part_size, SpellsDefinition, SpellsData, Spells, content_size}
use Rattle.fit_grammar.specs.Format.Records.{IsDefinedBy}

field_same : (f g : FieldDefinition) → f.number ≡ g.number → f.size ≡ g.size → f.base ≡ g.base → f ≡ g
field_same f g number size base =
    let made : (n s b : ℕ) → FieldDefinition = λ n s b. record { number = n; size = s; base = b } in
    let e : made f.number f.size f.base ≡ made g.number g.size g.base = rw (number, size, base) refl in
    e

-- the bytes of fields are three for each
pub fields_length : (fields : List FieldDefinition) → length (flat_map field_bytes fields) ≡ 3 * length fields
fields_length [] = refl
fields_length (field ∷ fields) = let e = fields_length fields in omega (arith, e)

-- if two rows of as many fields begin the same bytes, they are the same
pub fields_one : (fs gs : List FieldDefinition) (x y : List ℕ) → length fs ≡ length gs
    → flat_map field_bytes fs ++ x ≡ flat_map field_bytes gs ++ y → (fs ≡ gs) × (x ≡ y)
fields_one [] [] x y same e = (refl, e)
fields_one [] (g ∷ gs) x y same e = absurd (omega arith)
fields_one (f ∷ fs) [] x y same e = absurd (omega arith)
fields_one (f ∷ fs) (g ∷ gs) x y same e =
    let rest = fields_one fs gs x y (omega arith) cc in
    let field : f ≡ g = field_same f g (cc) (cc) (cc) in
    let fields : fs ≡ gs = rest.0 in
    (cc, rest.1)

developer_same : (f g : DeveloperFieldDefinition) → f.number ≡ g.number → f.size ≡ g.size → f.index ≡ g.index → f ≡ g
developer_same f g number size index =
    let made : (n s i : ℕ) → DeveloperFieldDefinition = λ n s i. record { number = n; size = s; index = i } in
    let e : made f.number f.size f.index ≡ made g.number g.size g.index = rw (number, size, index) refl in
    e

developer_length : (fields : List DeveloperFieldDefinition) → length (flat_map developer_bytes fields) ≡ 3 * length fields
developer_length [] = refl
developer_length (field ∷ fields) = let e = developer_length fields in omega (arith, e)

-- the same for developer fields
developer_one : (fs gs : List DeveloperFieldDefinition) (x y : List ℕ) → length fs ≡ length gs
    → flat_map developer_bytes fs ++ x ≡ flat_map developer_bytes gs ++ y → (fs ≡ gs) × (x ≡ y)
developer_one [] [] x y same e = (refl, e)
developer_one [] (g ∷ gs) x y same e = absurd (omega arith)
developer_one (f ∷ fs) [] x y same e = absurd (omega arith)
developer_one (f ∷ fs) (g ∷ gs) x y same e =
    let rest = developer_one fs gs x y (omega arith) cc in
    let field : f ≡ g = developer_same f g (cc) (cc) (cc) in
    let fields : fs ≡ gs = rest.0 in
    (cc, rest.1)

-- the bytes of the announced part
pub part_length : (announced : Bool) (fields : List DeveloperFieldDefinition)
    → length (developer_part announced fields) ≡ part_size announced (length fields)
part_length false fields = refl
part_length true fields = let e = developer_length fields in omega (arith, e)

part_one : (announced : Bool) (fs gs : List DeveloperFieldDefinition) (x y : List ℕ)
    → (announced ≡ false → fs ≡ []) → (announced ≡ false → gs ≡ [])
    → developer_part announced fs ++ x ≡ developer_part announced gs ++ y → (fs ≡ gs) × (x ≡ y)
part_one false fs gs x y f g e = (f refl ∙ sym (g refl), e)
part_one true fs gs x y f g e =
    let count : length fs ≡ length gs = cc in
    let fields : flat_map developer_bytes fs ++ x ≡ flat_map developer_bytes gs ++ y = cc in
    developer_one fs gs x y count fields

-- if two lists of one length begin the same bytes, they are the same
pub bytes_one : (c k x y : List ℕ) → length c ≡ length k → c ++ x ≡ k ++ y → (c ≡ k) × (x ≡ y)
bytes_one [] [] x y same e = (refl, e)
bytes_one [] (b ∷ k) x y same e = absurd (omega arith)
bytes_one (a ∷ c) [] x y same e = absurd (omega arith)
bytes_one (a ∷ c) (b ∷ k) x y same e =
    let rest = bytes_one c k x y (omega arith) cc in
    let bytes : c ≡ k = rest.0 in
    (cc, rest.1)

pub definition_same : (d c : Definition) → d.local ≡ c.local → d.arch ≡ c.arch → d.global ≡ c.global
    → d.fields.items ≡ c.fields.items → d.developer.items ≡ c.developer.items → d ≡ c
definition_same d c local arch global items developer =
    let made : (l : ℕ) (a : Arch) (g : ℕ) (fs : List FieldDefinition) (ds : List DeveloperFieldDefinition) → Definition =
    λ l a g fs ds. record { local = l; arch = a; global = g; fields = record { items = fs }; developer = record { items = ds } } in
    let e : made d.local d.arch d.global d.fields.items d.developer.items
    ≡ made c.local c.arch c.global c.fields.items c.developer.items =
    rw (local, arch, global, items, developer) refl in
    e

pub definition_one : (d c : Definition) (a x b y : List ℕ) → SpellsDefinition d a → SpellsDefinition c b → a ++ x ≡ b ++ y
    → (a ≡ b) × (d ≡ c) × (x ≡ y)
definition_one d c a x b y p q e =
    let laid = sym (ap (λ (z : List ℕ). z ++ x) p.laid_out) ∙ e ∙ ap (λ (z : List ℕ). z ++ y) q.laid_out in
    let first : p.first ≡ q.first = cc in
    let reserved : p.reserved ≡ q.reserved = cc in
    let architecture : p.architecture ≡ q.architecture = cc in
    let global_1 : p.global_1 ≡ q.global_1 = cc in
    let global_2 : p.global_2 ≡ q.global_2 = cc in
    let count : length d.fields.items ≡ length c.fields.items = cc in
    let d_fields = flat_map field_bytes d.fields.items in
    let c_fields = flat_map field_bytes c.fields.items in
    let d_part = developer_part p.announced d.developer.items in
    let c_part = developer_part q.announced c.developer.items in
    let after : (d_fields ++ d_part) ++ x ≡ (c_fields ++ c_part) ++ y = cc in
    let fields = fields_one d.fields.items c.fields.items (d_part ++ x) (c_part ++ y) count
    (sym (append_assoc d_fields d_part x) ∙ after ∙ append_assoc c_fields c_part y) in
    let items : d.fields.items ≡ c.fields.items = fields.0 in
    let head : DefinitionHead d.local p.announced ≡ DefinitionHead c.local q.announced = sym p.head ∙ ap head_of first ∙ q.head in
    let announced : q.announced ≡ p.announced = cc in
    let part = part_one p.announced d.developer.items c.developer.items x y p.none (rw announced at q.none) (rw announced at fields.1) in
    let developer : d.developer.items ≡ c.developer.items = part.0 in
    let arch : d.arch ≡ c.arch = sym p.arch ∙ ap arch_of architecture ∙ q.arch in
    let global : d.global ≡ c.global = sym p.global ∙ rw (arch, global_1, global_2) refl ∙ q.global in
    let same : d ≡ c = definition_same d c (cc) arch global items developer in
    let bytes : a ≡ b = p.laid_out
    ∙ rw (first, reserved, architecture, global_1, global_2, items, developer, announced) refl ∙ sym q.laid_out in
    (bytes, same, part.1)

same_size : (o : Option Definition) (c k : List ℕ) → IsSomeAnd o (λ d. content_size d ≡ length c)
    → IsSomeAnd o (λ d. content_size d ≡ length k) → length c ≡ length k
same_size None c k p q = absurd p
same_size (Some d) c k p q = sym p ∙ q

pub data_one : (f : ℕ → Option Definition) (l m : ℕ) (o n : Option ℕ) (c k a x b y : List ℕ) → SpellsData l o c a → SpellsData m n k b
    → IsDefinedBy f (Data l o c) → IsDefinedBy f (Data m n k) → a ++ x ≡ b ++ y → (a ≡ b) × (Data l o c ≡ Data m n k) × (x ≡ y)
data_one f l m o n c k a x b y p q defined other e =
    let laid = sym (ap (λ (z : List ℕ). z ++ x) p.laid_out) ∙ e ∙ ap (λ (z : List ℕ). z ++ y) q.laid_out in
    let first : p.first ≡ q.first = cc in
    let head : DataHead l o ≡ DataHead m n = sym p.head ∙ ap head_of first ∙ q.head in
    let local : m ≡ l = cc in
    let offset : o ≡ n = cc in
    let there : IsDefinedBy f (Data l n k) = rw local at other in
    let content = bytes_one c k x y (same_size (f l) c k defined there) cc in
    let same : c ≡ k = content.0 in
    (cc, cc, content.1)

heads_differ : (local l : ℕ) (announced : Bool) (o : Option ℕ) → DefinitionHead local announced ≡ DataHead l o → ⊥
heads_differ local l announced o e = cc

mixed : (d : Definition) (l : ℕ) (o : Option ℕ) (c a x b y : List ℕ) → SpellsDefinition d a → SpellsData l o c b → a ++ x ≡ b ++ y → ⊥
mixed d l o c a x b y p q e =
    let laid = sym (ap (λ (z : List ℕ). z ++ x) p.laid_out) ∙ e ∙ ap (λ (z : List ℕ). z ++ y) q.laid_out in
    let first : p.first ≡ q.first = cc in
    heads_differ d.local l p.announced o (sym p.head ∙ ap head_of first ∙ q.head)

-- under one lookup of definitions, no spelling of a defined item is a prefix of the spelling of another
pub spelling_one : (f : ℕ → Option Definition) (i j : Item) (a x b y : List ℕ) → Spells i a → Spells j b → IsDefinedBy f i → IsDefinedBy f j
    → a ++ x ≡ b ++ y → (a ≡ b) × (i ≡ j) × (x ≡ y)
spelling_one f (Defines d) (Defines c) a x b y p q defined other e =
    let one = definition_one d c a x b y p q e in
    (one.0, ap (λ (k : Definition). Defines k) one.1, one.2)
spelling_one f (Defines d) (Data l o c) a x b y p q defined other e = absurd (mixed d l o c a x b y p q e)
spelling_one f (Data l o c) (Defines d) a x b y p q defined other e = absurd (mixed d l o c b y a x q p (sym e))
spelling_one f (Data l o c) (Data m n k) a x b y p q defined other e = data_one f l m o n c k a x b y p q defined other e

-- a definition begins with its head and has six bytes, three for each field, and the announced part
pub definition_first : (d : Definition) (a : List ℕ) (p : SpellsDefinition d a)
    → head_of (slice_index a 0) ≡ DefinitionHead d.local p.announced
definition_first d a p = rw p.laid_out p.head

pub definition_length : (d : Definition) (a : List ℕ) (p : SpellsDefinition d a)
    → length a ≡ 6 + 3 * length d.fields.items + part_size p.announced (length d.developer.items)
definition_length d a p =
    let e = fields_length d.fields.items in
    let f = part_length p.announced d.developer.items in
    rw p.laid_out (omega (
      arith,
      e,
      f,
      length-append (flat_map field_bytes d.fields.items) (developer_part p.announced d.developer.items),
    ))

-- its sixth byte is the number of its fields
pub definition_count : (d : Definition) (a : List ℕ) → SpellsDefinition d a → slice_index a 5 ≡ length d.fields.items
definition_count d a p = rw p.laid_out refl

developer_count_by : (announced : Bool) (bytes : List ℕ) (n : ℕ) (fields : List DeveloperFieldDefinition) → announced ≡ true
    → length bytes ≡ n → slice_index (bytes ++ developer_part announced fields) n ≡ length fields
developer_count_by false bytes n fields e long = absurd cc
developer_count_by true bytes n fields e long = rw (← long) (get_or-append_seam bytes (length fields) (flat_map developer_bytes fields) 0)

-- the byte after its fields is the number of its developer fields, if they are announced
pub developer_count : (d : Definition) (a : List ℕ) (p : SpellsDefinition d a) → p.announced ≡ true
    → slice_index a (6 + 3 * length d.fields.items) ≡ length d.developer.items
developer_count d a p e =
    let fields = d.fields.items in
    let after = flat_map field_bytes fields ++ developer_part p.announced d.developer.items in
    let six : List ℕ = p.first ∷ p.reserved ∷ p.architecture ∷ p.global_1 ∷ p.global_2 ∷ length fields ∷ [] in
    rw p.laid_out (get_or-append-add six after (3 * length fields) 0
    ∙ developer_count_by p.announced (flat_map field_bytes fields) (3 * length fields) d.developer.items e (fields_length fields))

-- a data message begins with its head and has one byte and its content
pub data_first : (local : ℕ) (offset : Option ℕ) (content a : List ℕ) → SpellsData local offset content a
    → head_of (slice_index a 0) ≡ DataHead local offset
data_first local offset content a p = rw p.laid_out p.head

pub data_length : (local : ℕ) (offset : Option ℕ) (content a : List ℕ) → SpellsData local offset content a → length a ≡ 1 + length content
data_length local offset content a p = rw p.laid_out (omega arith)

-- no spelling is empty
pub spelling_not_empty : (i : Item) (a : List ℕ) → Spells i a → 1 ≤ length a
spelling_not_empty (Defines d) a p = let e = definition_length d a p in omega (arith, e)
spelling_not_empty (Data local offset content) a p = let e = data_length local offset content a p in omega arith
