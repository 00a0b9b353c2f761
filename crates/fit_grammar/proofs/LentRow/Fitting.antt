-- The numbers that bytes spell fit into bytes again. So what is read of a file can be a file in memory.
use Rattle.std.proofs.Common.{◌≡◌, ℕ, ◌/◌, ◌%◌, ◌<◌, Bool, true, false, cond, List, [], ◌∷◌, ◌++◌, length, Option, Some, None, refl, subst, arith}
use Rattle.std.specs.Prelude.{nat_lt, nat_eq}
use Rattle.std.specs.List.{AllByRecursion, flat_map}
use Rattle.fit_base.specs.declared.order.Arch.{Arch}
use Rattle.fit_base.specs.declared.order.Arch.TheVariants.{Little, Big}
use Rattle.fit_base.specs.Number.{number}
use Rattle.fit_grammar.specs.declared.definition.FieldDefinition.{FieldDefinition}
use Rattle.fit_grammar.specs.declared.definition.DeveloperFieldDefinition.{DeveloperFieldDefinition}
use Rattle.fit_grammar.specs.declared.definition.Definition.{Definition}
use Rattle.fit_grammar.specs.Format.Item.{Item, Defines, Data, DefinitionHead, DataHead, head_of, Spells, SpellsDefinition, field_bytes, developer_bytes, developer_part}
use Rattle.fit_grammar.specs.Format.Records.{RecordsAfter}
use Rattle.fit_grammar.specs.Format.Encoding.{HasEncoding}
use Rattle.fit_grammar.specs.Calls.Possible.{FieldFits, DeveloperFieldFits, DefinitionFits, ItemFits, AllCanFollow}
use Rattle.fit_grammar.proofs.OneItem.DefinitionRead.{local_below}

abbrev pub AreBytes : List ℕ → Type 0
AreBytes bytes = AllByRecursion (λ byte. byte < 256) bytes

-- the parts of bytes
pub bytes_apart : (xs ys : List ℕ) → AreBytes (xs ++ ys) → AreBytes xs × AreBytes ys
bytes_apart [] ys a = (tt, a)
bytes_apart (x ∷ xs) ys a =
    let others = bytes_apart xs ys a.1 in
    ((a.0, others.0), others.1)

-- ---- a definition

fields_fit : (fields : List FieldDefinition) (rest : List ℕ) → AreBytes (flat_map field_bytes fields ++ rest)
    → AllByRecursion FieldFits fields × AreBytes rest
fields_fit [] rest a = (tt, a)
fields_fit (field ∷ fields) rest (number_is, (size, (base, more))) =
    let others = fields_fit fields rest more in
    ((record { number = number_is; size = size; base = base }, others.0), others.1)

developer_fit : (fields : List DeveloperFieldDefinition) → AreBytes (flat_map developer_bytes fields)
    → AllByRecursion DeveloperFieldFits fields
developer_fit [] a = tt
developer_fit (field ∷ fields) (number_is, (size, (index, more))) =
    (record { number = number_is; size = size; index = index }, developer_fit fields more)

part_fits : (announced : Bool) (fields : List DeveloperFieldDefinition) → (announced ≡ false → fields ≡ [])
    → AreBytes (developer_part announced fields) → (length fields < 256) × AllByRecursion DeveloperFieldFits fields
part_fits false [] none a = (omega arith, tt)
part_fits false (field ∷ fields) none a = let bad : field ∷ fields ≡ [] = none refl in cc
part_fits true fields none (count, more) = (count, developer_fit fields more)

number_fits : (arch : Arch) (a b : ℕ) → a < 256 → b < 256 → number arch (a ∷ b ∷ []) < 65536
number_fits Little a b x y = omega (arith, x, y)
number_fits Big a b x y = omega (arith, x, y)

definition_fits : (d : Definition) (own : List ℕ) → SpellsDefinition d own → AreBytes own → DefinitionFits d
definition_fits d own p a = go (subst AreBytes p.laid_out a)
  where
    go : AreBytes (p.first ∷ p.reserved ∷ p.architecture ∷ p.global_1 ∷ p.global_2 ∷ length d.fields.items
        ∷ (flat_map field_bytes d.fields.items ++ developer_part p.announced d.developer.items)) → DefinitionFits d
    go (first, (reserved, (architecture, (global_1, (global_2, (count, more)))))) =
        let fields = fields_fit d.fields.items (developer_part p.announced d.developer.items) more in
        let part = part_fits p.announced d.developer.items p.none fields.1 in
        record {
          global = subst (λ (n : ℕ). n < 65536) p.global (number_fits d.arch p.global_1 p.global_2 global_1 global_2);
          count = count;
          fields = fields.0;
          developer_count = part.0;
          developer = part.1;
        }

-- ---- an item

item_fits : (item : Item) (own : List ℕ) → Spells item own → AreBytes own → ItemFits item
item_fits (Defines d) own p a = definition_fits d own p a
item_fits (Data local offset content) own p a = let bytes = subst AreBytes p.laid_out a in bytes.1

-- the numbers in the first byte of a data message
plain_by : (a b announced : Bool) (k m l o : ℕ) (n : Option ℕ)
    → cond a (DataHead k None) (cond b (DefinitionHead k announced) (DataHead m (Some o))) ≡ DataHead l None → l ≡ k
plain_by true b announced k m l o n e = cc
plain_by false true announced k m l o n e = absurd cc
plain_by false false announced k m l o n e = absurd cc

compressed_by : (a b announced : Bool) (k m l o p : ℕ)
    → cond a (DataHead k None) (cond b (DefinitionHead k announced) (DataHead m (Some o))) ≡ DataHead l (Some p) → (l ≡ m) × (p ≡ o)
compressed_by true b announced k m l o p e = absurd cc
compressed_by false true announced k m l o p e = absurd cc
compressed_by false false announced k m l o p e = (cc, cc)

data_encodable : (byte local : ℕ) (offset : Option ℕ) (content : List ℕ) → head_of byte ≡ DataHead local offset
    → HasEncoding (Data local offset content)
data_encodable byte local None content e =
    let is = plain_by (nat_lt byte 64) (nat_lt byte 128) (nat_eq (byte / 32 % 2) 1) (byte % 16) (byte / 32 % 4) local (byte % 32) None e in
    omega arith
data_encodable byte local (Some offset) content e =
    let is = compressed_by (nat_lt byte 64) (nat_lt byte 128) (nat_eq (byte / 32 % 2) 1) (byte % 16) (byte / 32 % 4) local (byte % 32)
    offset e in
    (omega (arith, is.0), omega (arith, is.1))

encodable : (item : Item) (own : List ℕ) → Spells item own → HasEncoding item
encodable (Defines d) own p = local_below d own p
encodable (Data local offset content) own p = data_encodable p.first local offset content p.head

-- ---- a row of items

pub records_follow : (before : List Item) (bytes : List ℕ) (items : List Item) → RecordsAfter before bytes items → AreBytes bytes
    → AllCanFollow before items
records_follow before bytes [] r a = tt
records_follow before bytes (item ∷ items) r a =
    let parts = bytes_apart r.1.own r.0 (subst AreBytes r.1.joined a) in (
      record {
        encodable = encodable item r.1.own r.1.spelled;
        fits = item_fits item r.1.own r.1.spelled parts.0;
        defined = r.1.defined;
      },
      records_follow (before ++ item ∷ []) r.0 items r.2 parts.1,
    )
