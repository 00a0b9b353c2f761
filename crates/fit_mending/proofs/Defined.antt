-- The definitions that are known by a file.
use Rattle.std.proofs.Common.{◌≡◌, ℕ, ◌+◌, ◌-◌, ◌*◌, ◌<◌, ◌≤◌, Bool, true, false, List, [], ◌∷◌, ◌++◌, length, take, drop, get_or, Option, Some, None, refl, sym, ap, subst, ◌∙◌, append_assoc, append-nil, arith}
use Rattle.std.specs.Prelude.{flat_map, ◌==◌, if◌then◌else◌}
use Rattle.std.specs.List.{AllByRecursion}
use Rattle.std.specs.Option.{option_or}
use Rattle.std.proofs.lemmas.Bool.{eqb-true}
use Rattle.std.proofs.lemmas.List.{take_all, length-append}
use Rattle.std.proofs.lemmas.Grind.{flat_map-append}
use Rattle.fit_grammar.specs.declared.definition.Definition.{Definition}
use Rattle.fit_grammar.specs.Format.Item.{Item, Defines, Data}
use Rattle.fit_grammar.specs.Format.Records.{Records, RecordsAfter, definition_by, in_force}
use Rattle.fit_grammar.specs.Format.Encoding.{encoded_item, encoded_items}
use Rattle.fit_grammar.proofs.Encoder.Encoding.{encoded_spells}
use Rattle.fit_mending.specs.declared.known.Known.{Known}
use Rattle.fit_mending.specs.Known.{AreKnownAfter, defined_by, definitions_after, locals}
use Rattle.fit_mending.specs.Private.Adding.{AddsDefined}

-- a definition in force is one of its local number
by_local : (e d : Definition) (l : ℕ) (b : Bool) → (e.local == l) ≡ b → (if b then Some e else None) ≡ Some d → d.local ≡ l
by_local e d l true is found = ap (λ (x : Definition). x.local) (sym (one e d found)) ∙ eqb-true e.local l is
  where
    one : (x y : Definition) → Some x ≡ Some y → x ≡ y
    one x y same = cc
by_local e d l false is found = absurd (cc)

by_item : (item : Item) (d : Definition) (l : ℕ) → definition_by item l ≡ Some d → d.local ≡ l
by_item (Defines e) d l found = by_local e d l (e.local == l) refl found
by_item (Data local offset content) d l found = absurd (cc)

pub local_is : (items : List Item) (d : Definition) (l : ℕ) → in_force items l ≡ Some d → d.local ≡ l
local_is [] d l found = absurd (cc)
local_is (item ∷ items) d l found = go (in_force items l) refl found (local_is items d l)
  where
    go : (o : Option Definition) → in_force items l ≡ o → option_or o (definition_by item l) ≡ Some d
        → (in_force items l ≡ Some d → d.local ≡ l) → d.local ≡ l
    go (Some e) is same earlier = earlier (is ∙ same)
    go None is same earlier = by_item item d l same

-- so definitions in force are a row
pub are_row : (items before : List Item) (ls : List ℕ) → AllByRecursion (λ l. l < 16) ls
    → RecordsAfter before (encoded_items (flat_map (λ l. defined_by (in_force items l)) ls)) (flat_map (λ l. defined_by (in_force items l)) ls)
are_row items before [] small = refl
are_row items before (l ∷ ls) small = go (in_force items l) refl (λ first. are_row items first ls small.1)
  where
    more : List Item
    more = flat_map (λ n. defined_by (in_force items n)) ls

    go : (o : Option Definition) → in_force items l ≡ o → ((first : List Item) → RecordsAfter first (encoded_items more) more)
        → RecordsAfter before (encoded_items (defined_by o ++ more)) (defined_by o ++ more)
    go None is others = others before
    go (Some d) is others = (
      encoded_items more,
      record {
        own = encoded_item (Defines d);
        joined = refl;
        spelled = encoded_spells (Defines d) (subst (λ n. n < 16) (sym (local_is items d l is)) small.0);
        defined = tt;
      },
      others (before ++ Defines d ∷ []),
    )

all_small : AllByRecursion (λ l. l < 16) locals
all_small = search arith

-- those of the first local numbers were added, and these numbers are left
pub record HasAdded (definition_for : ℕ → Option Definition) (rest : List ℕ) (known : Known) : Type 0 where
  pub row : known.row.items ++ encoded_items (flat_map (λ l. defined_by (definition_for l)) rest)
      ≡ encoded_items (flat_map (λ l. defined_by (definition_for l)) locals)
  pub count : known.count + length (flat_map (λ l. defined_by (definition_for l)) rest)
      ≡ length (flat_map (λ l. defined_by (definition_for l)) locals)
  pub short : length known.row.items + 1537 * length rest ≤ 24592
  pub few : known.count + length rest ≤ 16
  pub small : AllByRecursion (λ l. l < 16) rest

one_at_most : (o : Option Definition) → length (defined_by o) ≤ 1
one_at_most None = omega arith
one_at_most (Some d) = omega arith

pub added_more : (f : ℕ → Option Definition) (rest : List ℕ) (z : ℕ) (known more : Known) → 1 ≤ length rest → HasAdded f rest known
    → AddsDefined (f (get_or rest 0 z)) known more → HasAdded f (take (length rest - 1) (drop 1 rest)) more
added_more f [] z known more some was adds = absurd (omega arith)
added_more f (l ∷ rest) z known more some was adds =
    let own = defined_by (f l) in
    let others = flat_map (λ n. defined_by (f n)) rest in
    subst (λ (ls : List ℕ). HasAdded f ls more) (sym (take_all (length (l ∷ rest) - 1) rest (omega arith)))
    (record {
      row = ap (λ (r : List ℕ). r ++ encoded_items others) adds.row
          ∙ append_assoc known.row.items (encoded_items own) (encoded_items others)
          ∙ ap (λ (r : List ℕ). known.row.items ++ r) (sym (flat_map-append encoded_item own others)) ∙ was.row;
      count = omega (arith, adds.count, was.count, length-append own others);
      short = omega (arith, adds.short, was.short);
      few = omega (arith, adds.count, was.few, one_at_most (f l));
      small = was.small.1;
    })

pub first_small : (rest : List ℕ) (z : ℕ) → 1 ≤ length rest → AllByRecursion (λ l. l < 16) rest → get_or rest 0 z < 16
first_small [] z some small = absurd (omega arith)
first_small (l ∷ rest) z some small = small.0

pub none_added : (f : ℕ → Option Definition) (known : Known) → known.row.items ≡ [] → known.count ≡ 0 → HasAdded f locals known
none_added f known none zero = record {
  row = ap (λ (r : List ℕ). r ++ encoded_items (flat_map (λ l. defined_by (f l)) locals)) none;
  count = omega (arith, zero);
  short = omega (arith, ap length none);
  few = omega (arith, zero);
  small = all_small;
}

pub all_added : (f : ℕ → Option Definition) (items : List Item) (rest : List ℕ) (known : Known) → f ≡ in_force items → HasAdded f rest known
    → rest ≡ [] → AreKnownAfter items known
all_added f items rest known same was none =
    let has : HasAdded (in_force items) [] known = subst (λ (ls : List ℕ). HasAdded (in_force items) ls known) none
    (subst (λ (g : ℕ → Option Definition). HasAdded g rest known) same was) in
    record {
      are_records = subst (λ (l : List ℕ). Records l (definitions_after items)) (sym (sym (append-nil known.row.items) ∙ has.row))
          (are_row items [] locals all_small);
      count_is = omega (arith, has.count);
    }
