-- The bytes that an item is written as are a spelling of it: for the law of that name, and for what is read again.
use Rattle.std.proofs.Common.{◌≡◌, ℕ, ◌+◌, ◌*◌, ◌/◌, ◌%◌, ◌<◌, Bool, true, false, List, [], ◌∷◌, Some, None, refl, arith}
use Rattle.std.specs.Prelude.{nat_lt, nat_eq}
use Rattle.std.proofs.lemmas.Bool.{lt-ltb, le-ltb, eq-eqb, ne_eqb}
use Rattle.fit_base.specs.declared.order.Arch.{Arch}
use Rattle.fit_base.specs.declared.order.Arch.TheVariants.{Little, Big}
use Rattle.fit_base.specs.Number.{number}
use Rattle.fit_grammar.specs.declared.definition.DeveloperFieldDefinition.{DeveloperFieldDefinition}
use Rattle.fit_grammar.specs.declared.definition.Definition.{Definition}
use Rattle.fit_grammar.specs.Format.Item.{Item, Defines, Data, DefinitionHead, DataHead, head_of, arch_of, has_any, SpellsDefinition, Spells}
use Rattle.fit_grammar.specs.Format.Encoding.{arch_byte, two_bytes, definition_byte, encoded_item, HasEncoding}

pub definition_head : (local : ℕ) (announced : Bool) → local < 16 → head_of (definition_byte local announced) ≡ DefinitionHead local announced
definition_head local false small =
    let far : nat_lt (64 + local) 64 ≡ false = le-ltb _ _ (omega arith) in
    let near : nat_lt (64 + local) 128 ≡ true = lt-ltb _ _ (omega arith) in
    let bit : nat_eq ((64 + local) / 32 % 2) 1 ≡ false = ne_eqb _ _ (λ e. omega (arith, e)) in
    let low : (64 + local) % 16 ≡ local = omega arith in
    rw (far, near, bit, low) refl
definition_head local true small =
    let far : nat_lt (96 + local) 64 ≡ false = le-ltb _ _ (omega arith) in
    let near : nat_lt (96 + local) 128 ≡ true = lt-ltb _ _ (omega arith) in
    let bit : nat_eq ((96 + local) / 32 % 2) 1 ≡ true = eq-eqb _ _ (omega arith) in
    let low : (96 + local) % 16 ≡ local = omega arith in
    rw (far, near, bit, low) refl

data_head : (local : ℕ) → local < 16 → head_of local ≡ DataHead local None
data_head local small =
    let near : nat_lt local 64 ≡ true = lt-ltb _ _ (omega arith) in
    let low : local % 16 ≡ local = omega arith in
    rw (near, low) refl

timed_head : (local offset : ℕ) → local < 4 → offset < 32 → head_of (128 + 32 * local + offset) ≡ DataHead local (Some offset)
timed_head local offset small few =
    let far : nat_lt (128 + 32 * local + offset) 64 ≡ false = le-ltb _ _ (omega arith) in
    let over : nat_lt (128 + 32 * local + offset) 128 ≡ false = le-ltb _ _ (omega arith) in
    let middle : (128 + 32 * local + offset) / 32 % 4 ≡ local = omega arith in
    let low : (128 + 32 * local + offset) % 32 ≡ offset = omega arith in
    rw (far, over, middle, low) refl

arch_again : (arch : Arch) → arch_of (arch_byte arch) ≡ arch
arch_again Little = refl
arch_again Big = refl

two_little : (n : ℕ) → number Little (two_bytes Little n) ≡ n
two_little n = omega arith

two_big : (n : ℕ) → number Big (two_bytes Big n) ≡ n
two_big n = omega arith

global_bytes : (a : Arch) (g : ℕ)
    → (first : ℕ) × (second : ℕ) × (two_bytes a g ≡ first ∷ second ∷ []) × (number a (first ∷ second ∷ []) ≡ g)
global_bytes Little g = (g % 256, g / 256, refl, two_little g)
global_bytes Big g = (g / 256, g % 256, refl, two_big g)

none_there : (fields : List DeveloperFieldDefinition) → has_any fields ≡ false → fields ≡ []
none_there [] e = refl
none_there (field ∷ fields) e = absurd cc

encoded_definition : (d : Definition) → d.local < 16 → SpellsDefinition d (encoded_item (Defines d))
encoded_definition d small =
    let bytes = global_bytes d.arch d.global in
    record {
      first = definition_byte d.local (has_any d.developer.items);
      reserved = 0;
      architecture = arch_byte d.arch;
      global_1 = bytes.0;
      global_2 = bytes.1;
      announced = has_any d.developer.items;
      laid_out = rw bytes.2 refl;
      head = definition_head d.local (has_any d.developer.items) small;
      none = none_there d.developer.items;
      arch = arch_again d.arch;
      global = bytes.3;
    }

pub encoded_spells : (i : Item) → HasEncoding i → Spells i (encoded_item i)
encoded_spells (Defines d) small = encoded_definition d small
encoded_spells (Data local None content) small = record { first = local; laid_out = refl; head = data_head local small }
encoded_spells (Data local (Some offset) content) fits =
    record { first = 128 + 32 * local + offset; laid_out = refl; head = timed_head local offset fits.0 fits.1 }
