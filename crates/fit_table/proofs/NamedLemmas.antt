-- Columns of developer fields: for `named`.
use Rattle.std.proofs.Common.{set, ◌≡◌, ◌≢◌, ℕ, zero, suc, ◌+◌, ◌-◌, ◌≤◌, ◌<◌, Bool, true, false, List, [], ◌∷◌, ◌++◌, length, get_or, take, drop, map, sum_by, codes, refl, sym, ap, ap₂, ◌∙◌, inl, inr, ◌==◌, nat_lt, Option, Some, None, Bor, arith, rules}
use Rattle.std.specs.Prelude.{bytes_eq, option_map}
use Rattle.std.proofs.lemmas.Bool.{eqb-true, cases_lt}
use Rattle.std.proofs.lemmas.List.{take_all, drop-drop, get_or-set_other}
use Rattle.std.proofs.lemmas.List.Sums.{sum_by-cons}
use Rattle.fit_base.specs.declared.order.Arch.{Arch}
use Rattle.fit_base.specs.Base.{base_type}
use Rattle.fit_base.specs.Value.{Numbers, values_of}
use Rattle.fit_grammar.specs.declared.definition.Definition.{Definition}
use Rattle.fit_grammar.specs.declared.definition.DeveloperFieldDefinition.{DeveloperFieldDefinition}
use Rattle.fit_grammar.specs.Format.Item.{Defines, content_size, fields_size}
use Rattle.fit_grammar.specs.Format.Message.{MessageDeveloperField, developer_of, message_under}
use Rattle.fit_grammar.specs.Calls.Table.{in_force_after}
use Rattle.fit_columns.proofs.PlanLemmas.{same_or_not, set_there}
use Rattle.fit_table.specs.declared.named.NamedCell.{NamedCell}
use Rattle.fit_table.specs.declared.named.NamedPlan.{NamedPlan}
use Rattle.fit_table.specs.declared.named.NamedPlans.{NamedPlans}
use Rattle.fit_table.specs.declared.unit.Unit.TheVariants.{Whole}
use Rattle.fit_table.specs.Cells.{field_tokens}
use Rattle.fit_table.specs.Described.{Description, described_in}
use Rattle.fit_table.specs.Lookup.{AreAscending, at}
use Rattle.fit_table.specs.Named.{ReadField, cells_by, named_cells, read_by, read_cell, read_in, told_in, unit_if}
use Rattle.fit_table.specs.NamedPlans.{AreCellsFor, AreNamedCells, AreNamedFor, AreNamedIn, ArePassed, IsNamedCell, IsShownCell, after_gap, read_at, spread, told_by, tokens_of}
use Rattle.fit_table.specs.Tokens.{Token, Text}
use Rattle.fit_table.proofs.CellLemmas.{no_bytes}
use Rattle.fit_table.proofs.CommaLemmas.{gap_tokens}

-- ---- lists of which each element is seen by its view

pub first_viewed : {X Y : Type 0} (view : X → Y) (xs : List X) (x : X) → 1 ≤ length xs → x ≡ get_or xs 0 x →
    map view xs ≡ view x ∷ map view (take (length xs - 1) (drop 1 xs))
first_viewed view [] x some is = absurd (omega arith)
first_viewed view (y ∷ xs) x some is =
    let rest : take (length (y ∷ xs) - 1) xs ≡ xs = take_all _ xs (omega arith) in rw (is, rest) refl

pub first_from : {X Y : Type 0} (view : X → Y) (xs : List X) (any : X) → 1 ≤ length xs →
    map view xs ≡ view (get_or xs 0 any) ∷ map view (take (length xs - 1) (drop 1 xs))
first_from view [] any some = absurd (omega arith)
first_from view (y ∷ xs) any some =
    let rest : take (length (y ∷ xs) - 1) xs ≡ xs = take_all _ xs (omega arith) in rw rest refl

pub none_viewed : {X Y : Type 0} (view : X → Y) (xs : List X) → length xs < 1 → map view xs ≡ []
none_viewed view [] none = refl
none_viewed view (x ∷ xs) none = absurd (omega arith)

pub empty_viewed : {X Y : Type 0} (view : X → Y) (xs : List X) → (length xs == 0) ≡ true → map view xs ≡ []
empty_viewed view xs none = none_viewed view xs (omega (arith, eqb-true _ _ none))

pub pushed : {X Y : Type 0} (view : X → Y) (done : List X) (x : X) (y : Y) (rest : List Y) → view x ≡ y →
    map view (done ++ x ∷ []) ++ rest ≡ map view done ++ y ∷ rest
pushed view [] x y rest is = ap (λ z. z ∷ rest) is
pushed view (z ∷ done) x y rest is = ap (λ l. view z ∷ l) (pushed view done x y rest is)

-- a name, and a description if there is one, as a slice has them
abbrev pub name_of : Bor (List ℕ) → List ℕ
name_of name = name.now

-- what stands for an element past the end
abbrev pub any_name : Bor (List ℕ)
any_name = record { ref_ptr = (0, 0); now = [] }

abbrev pub seen : Option (Bor Description) → Option Description
seen told = option_map (λ d. d.now) told

-- ---- the first field of a name

abbrev pub sizes : List DeveloperFieldDefinition → ℕ
sizes fields = sum_by (λ field. field.size) fields

abbrev pub others : {X : Type 0} → List X → List X
others xs = take (length xs - 1) (drop 1 xs)

-- what stands for a field past the end
abbrev pub any_field : DeveloperFieldDefinition
any_field = record { number = 0; size = 0; index = 0 }

pub first_size : (fields : List DeveloperFieldDefinition) → 1 ≤ length fields →
    sizes fields ≡ (get_or fields 0 any_field).size + sizes (others fields)
first_size [] some = absurd (omega arith)
first_size (field ∷ fields) some =
    let rest : others (field ∷ fields) ≡ fields = take_all _ fields (omega arith) in
    rw rest (sum_by-cons (λ (f : DeveloperFieldDefinition). f.size) field fields)

pub no_size : (fields : List DeveloperFieldDefinition) → length fields < 1 → sizes fields ≡ 0
no_size [] none = refl
no_size (field ∷ fields) none = absurd (omega arith)

-- the first of the fields in a content, and the others
abbrev pub front_of : Arch → ℕ → List DeveloperFieldDefinition → List ℕ → MessageDeveloperField
front_of arch at fields content =
    record {
      index = (get_or fields 0 any_field).index;
      number = (get_or fields 0 any_field).number;
      arch = arch;
      bytes = take (get_or fields 0 any_field).size (drop at content);
    }

pub first_field : (arch : Arch) (at : ℕ) (fields : List DeveloperFieldDefinition) (content : List ℕ) → 1 ≤ length fields →
    developer_of arch fields (drop at content)
    ≡ front_of arch at fields content ∷ developer_of arch (others fields) (drop (at + (get_or fields 0 any_field).size) content)
first_field arch at [] content some = absurd (omega arith)
first_field arch at (field ∷ fields) content some =
    let rest : others (field ∷ fields) ≡ fields = take_all _ fields (omega arith) in
    let dropped = drop-drop field.size at content in
    rw rest (ap (λ t. front_of arch at (field ∷ fields) content ∷ developer_of arch fields t) dropped)

pub no_field : (arch : Arch) (fields : List DeveloperFieldDefinition) (content : List ℕ) → length fields < 1 → developer_of arch fields content ≡ []
no_field arch [] content none = refl
no_field arch (field ∷ fields) content none = absurd (omega arith)

pub read_here : (told others : List (Option Description)) (d : Description) (name : List ℕ) (fields rest : List MessageDeveloperField)
    (field : MessageDeveloperField) → told ≡ Some d ∷ others → fields ≡ field ∷ rest → bytes_eq d.name name ≡ true →
    read_in told name fields ≡ read_by d field
read_here told others d name fields rest field is here same = rw (is, here, same) refl

pub read_later : (told others : List (Option Description)) (d : Description) (name : List ℕ) (fields rest : List MessageDeveloperField)
    (field : MessageDeveloperField) → told ≡ Some d ∷ others → fields ≡ field ∷ rest → bytes_eq d.name name ≡ false →
    read_in told name fields ≡ read_in others name rest
read_later told others d name fields rest field is here other = rw (is, here, other) refl

pub read_past : (told others : List (Option Description)) (name : List ℕ) (fields rest : List MessageDeveloperField)
    (field : MessageDeveloperField) → told ≡ None ∷ others → fields ≡ field ∷ rest → read_in told name fields ≡ read_in others name rest
read_past told others name fields rest field is here = rw (is, here) refl

abbrev pub nothing : ReadField
nothing = record { base = 0; unit = Whole; values = Numbers [] }

pub read_no_field : (told : List (Option Description)) (name : List ℕ) (fields : List MessageDeveloperField) → fields ≡ [] →
    read_in told name fields ≡ nothing
read_no_field [] name fields is = refl
read_no_field (o ∷ told) name fields is = rw is refl

pub read_no_told : (told : List (Option Description)) (name : List ℕ) (fields : List MessageDeveloperField) → told ≡ [] →
    read_in told name fields ≡ nothing
read_no_told told name fields is = rw is refl

-- ---- cells without bytes

abbrev pub empty_cell : NamedCell
empty_cell = record { at = 0; unit = Whole; size = 0; base = 0; gap = 0 }

read_nothing : (raw : Bool) (cell : NamedCell) (arch : Arch) (content : List ℕ) → cell.size ≡ 0 →
    read_cell raw (read_at cell arch content) ≡ Text [] ∷ []
read_nothing raw cell arch content none =
    ap (λ n. field_tokens [] (unit_if raw cell.unit) (base_type cell.base)
    (values_of (record { base = cell.base; arch = arch; bytes = take n (drop cell.at content) }))) none
    ∙ sym (no_bytes [] (unit_if raw cell.unit) cell.base arch)

pub shown : (told : List (Option Description)) (fields : List DeveloperFieldDefinition) (start : ℕ) (name : List ℕ) (cell : NamedCell) →
    IsNamedCell told fields start name cell → IsShownCell told fields start name cell
shown told fields start name cell h = record {
  inside = h.inside;
  shows = λ raw arch content. ap (read_cell raw) (h.holds arch content);
}

pub shown_empty : (told : List (Option Description)) (fields : List DeveloperFieldDefinition) (start : ℕ) (name : List ℕ) (cell : NamedCell) →
    cell.size ≡ 0 → IsNamedCell told fields start name cell → IsShownCell told fields start name empty_cell
shown_empty told fields start name cell none h = record {
  inside = omega arith;
  shows = λ raw arch content.
      ap (read_cell raw) (h.holds arch content) ∙ read_nothing raw cell arch content none ∙ sym (read_nothing raw empty_cell arch content refl);
}

gap_append : (n : ℕ) (cells more : List NamedCell) → after_gap n (cells ++ more) ≡ after_gap n cells ++ more
gap_append zero cells more = refl
gap_append (suc n) cells more = ap (λ cells. empty_cell ∷ cells) (gap_append n cells more)

gap_end : (n : ℕ) → after_gap (suc n) [] ≡ after_gap n [] ++ empty_cell ∷ []
gap_end zero = refl
gap_end (suc n) = ap (λ cells. empty_cell ∷ cells) (gap_end n)

-- one more without bytes
pub spread_empty : (cells : List NamedCell) (n : ℕ) → spread cells (n + 1) ≡ spread cells n ++ empty_cell ∷ []
spread_empty [] n = let one : n + 1 ≡ suc n = omega arith in rw one (gap_end n)
spread_empty (cell ∷ cells) n =
    ap (λ cells. after_gap cell.gap (cell ∷ cells)) (spread_empty cells n) ∙ gap_append cell.gap (cell ∷ spread cells n) (empty_cell ∷ [])

-- one more with bytes
pub spread_more : (cells : List NamedCell) (n : ℕ) (cell : NamedCell) → cell.gap ≡ n → spread (cells ++ cell ∷ []) 0 ≡ spread cells n ++ cell ∷ []
spread_more [] n cell is = gap_append cell.gap [] (cell ∷ []) ∙ ap (λ gap. after_gap gap [] ++ cell ∷ []) is
spread_more (c ∷ cells) n cell is =
    ap (λ cells. after_gap c.gap (c ∷ cells)) (spread_more cells n cell is) ∙ gap_append c.gap (c ∷ spread cells n) (cell ∷ [])

gap_length : (n : ℕ) (cells : List NamedCell) → length (after_gap n cells) ≡ n + length cells
gap_length zero cells = omega arith
gap_length (suc n) cells = omega (arith, gap_length n cells)

pub spread_length : (cells : List NamedCell) (n : ℕ) → length cells + n ≤ length (spread cells n)
spread_length [] n = omega (arith, gap_length n [])
spread_length (cell ∷ cells) n = omega (arith, gap_length cell.gap (cell ∷ spread cells n), spread_length cells n)

pub gap_in : (size n : ℕ) (cells : List NamedCell) → AreNamedIn size (after_gap n cells) → AreNamedIn size cells
gap_in size zero cells h = h
gap_in size (suc n) cells h = gap_in size n cells h.1

pub gap_tokens_of : (raw : Bool) (n : ℕ) (cells : List NamedCell) (arch : Arch) (content : List ℕ) →
    tokens_of raw (after_gap n cells) arch content ≡ gap_tokens n (tokens_of raw cells arch content)
gap_tokens_of raw zero cells arch content = refl
gap_tokens_of raw (suc n) cells arch content =
    ap₂ (λ (cell tokens : List Token). Text (codes ",") ∷ (cell ++ tokens)) (read_nothing raw empty_cell arch content refl)
    (gap_tokens_of raw n cells arch content)

-- ---- the cells of a definition

pub cells_more : (told : List (Option Description)) (fields : List DeveloperFieldDefinition) (start : ℕ) (names : List (List ℕ))
    (cells : List NamedCell) (name : List ℕ) (cell : NamedCell) → AreNamedCells told fields start names cells →
    IsShownCell told fields start name cell → AreNamedCells told fields start (names ++ name ∷ []) (cells ++ cell ∷ [])
cells_more told fields start [] [] name cell h k = (k, tt)
cells_more told fields start [] (c ∷ cells) name cell h k = absurd h
cells_more told fields start (n ∷ names) [] name cell h k = absurd h
cells_more told fields start (n ∷ names) (c ∷ cells) name cell h k = (h.0, cells_more told fields start names cells name cell h.1 k)

pub cells_length : (told : List (Option Description)) (fields : List DeveloperFieldDefinition) (start : ℕ) (names : List (List ℕ))
    (cells : List NamedCell) → AreNamedCells told fields start names cells → length cells ≡ length names
cells_length told fields start [] [] h = refl
cells_length told fields start [] (c ∷ cells) h = absurd h
cells_length told fields start (n ∷ names) [] h = absurd h
cells_length told fields start (n ∷ names) (c ∷ cells) h = ap (λ n. suc n) (cells_length told fields start names cells h.1)

cells_in : (told : List (Option Description)) (fields : List DeveloperFieldDefinition) (start : ℕ) (names : List (List ℕ))
    (cells : List NamedCell) (size : ℕ) → start + sizes fields ≤ size → AreNamedCells told fields start names cells → AreNamedIn size cells
cells_in told fields start [] [] size fits h = tt
cells_in told fields start [] (c ∷ cells) size fits h = absurd h
cells_in told fields start (n ∷ names) [] size fits h = absurd h
cells_in told fields start (n ∷ names) (c ∷ cells) size fits h =
    (omega (arith, h.0.inside, fits), cells_in told fields start names cells size fits h.1)

told_same : (known : List Description) (place : ℕ) (arch : Arch) (fields : List DeveloperFieldDefinition) (content : List ℕ) →
    told_in known place (developer_of arch fields content) ≡ told_by known place fields
told_same known place arch [] content = refl
told_same known place arch (field ∷ fields) content =
    ap (λ told. described_in known place field.index field.number ∷ told) (told_same known place arch fields (drop field.size content))

tokens_are : (raw : Bool) (told : List (Option Description)) (fields : List DeveloperFieldDefinition) (start : ℕ) (names : List (List ℕ))
    (cells : List NamedCell) (arch : Arch) (content : List ℕ) → AreNamedCells told fields start names cells →
    tokens_of raw cells arch content ≡ cells_by raw told names (developer_of arch fields (drop start content))
tokens_are raw told fields start [] [] arch content h = refl
tokens_are raw told fields start [] (c ∷ cells) arch content h = absurd h
tokens_are raw told fields start (n ∷ names) [] arch content h = absurd h
tokens_are raw told fields start (n ∷ names) (c ∷ cells) arch content h =
    ap₂ (λ (cell tokens : List Token). Text (codes ",") ∷ (cell ++ tokens)) (sym (h.0.shows raw arch content))
    (tokens_are raw told fields start names cells arch content h.1)

-- what the cells of a definition show of its messages
pub record IsNamed (raw : Bool) (known : List Description) (place : ℕ) (names : List (List ℕ)) (d : Definition) (content : List ℕ)
    (plan : NamedPlan) : Type 0 where
  pub inside : AreNamedIn (length content) (spread plan.cells.items plan.rest)
  pub shows : (time : Option ℕ) → tokens_of raw (spread plan.cells.items plan.rest) d.arch content
      ≡ named_cells raw known place names (message_under d time content).developer

pub named : (raw : Bool) (known : List Description) (place : ℕ) (names : List (List ℕ)) (d : Definition) (content : List ℕ)
    (plan : NamedPlan) → content_size d ≡ length content →
    AreCellsFor known names place d plan → IsNamed raw known place names d content plan
named raw known place names d content plan whole h = record {
  inside = cells_in (told_by known place d.developer.items) d.developer.items (fields_size d) names (spread plan.cells.items plan.rest) (length content)
      (omega (arith, whole)) h;
  shows = λ time.
      tokens_are raw (told_by known place d.developer.items) d.developer.items (fields_size d) names (spread plan.cells.items plan.rest) d.arch content h
      ∙ ap (λ told. cells_by raw told names (developer_of d.arch d.developer.items (drop (fields_size d) content)))
      (sym (told_same known place d.arch d.developer.items (drop (fields_size d) content)));
}

pub first_spread : (cells : List NamedCell) (rest : ℕ) → 1 ≤ length cells →
    spread cells rest ≡ after_gap (get_or cells 0 empty_cell).gap (get_or cells 0 empty_cell ∷ spread (others cells) rest)
first_spread [] rest some = absurd (omega arith)
first_spread (cell ∷ cells) rest some =
    let left : others (cell ∷ cells) ≡ cells = take_all _ cells (omega arith) in rw left refl

pub no_spread : (cells : List NamedCell) (rest : ℕ) → length cells < 1 → spread cells rest ≡ after_gap rest []
no_spread [] rest none = refl
no_spread (cell ∷ cells) rest none = absurd (omega arith)

-- what is written of the first cell and of those before it
pub first_tokens : (raw : Bool) (cells : List NamedCell) (rest : ℕ) (arch : Arch) (content : List ℕ) → 1 ≤ length cells →
    tokens_of raw (spread cells rest) arch content
    ≡ gap_tokens (get_or cells 0 empty_cell).gap (Text (codes ",") ∷ (read_cell raw (read_at (get_or cells 0 empty_cell) arch content)
    ++ tokens_of raw (spread (others cells) rest) arch content))
first_tokens raw cells rest arch content some =
    ap (λ cells. tokens_of raw cells arch content) (first_spread cells rest some)
    ∙ gap_tokens_of raw (get_or cells 0 empty_cell).gap (get_or cells 0 empty_cell ∷ spread (others cells) rest) arch content

pub first_named_in : (size : ℕ) (cells : List NamedCell) (rest : ℕ) → 1 ≤ length cells → AreNamedIn size (spread cells rest) →
    AreNamedIn size (get_or cells 0 empty_cell ∷ spread (others cells) rest)
first_named_in size cells rest some h =
    gap_in size (get_or cells 0 empty_cell).gap (get_or cells 0 empty_cell ∷ spread (others cells) rest) (rw (first_spread cells rest some) at h)

-- ---- from one message to the next

later : (a b : ℕ) → a ≢ b → nat_lt a (b + 1) ≡ nat_lt a b
later a b other =
    elim (cases_lt a b) [
      | inl lt ↦ search (arith, rules, lt)
      | inr ge ↦ search (arith, rules, ge, other)
    ]

described_next : (known : List Description) (place index number : ℕ) → ((k : ℕ) → k < length known → (at known k).place ≢ place) →
    described_in known (place + 1) index number ≡ described_in known place index number
described_next [] place index number other = refl
described_next (d ∷ known) place index number other =
    let first : d.place ≢ place = other 0 (omega arith) in
    rw (later d.place place first, described_next known place index number (λ k small. other (suc k) (omega (arith, small)))) refl

pub told_next : (known : List Description) (place : ℕ) (fields : List DeveloperFieldDefinition) →
    ((k : ℕ) → k < length known → (at known k).place ≢ place) → told_by known (place + 1) fields ≡ told_by known place fields
told_next known place [] other = refl
told_next known place (field ∷ fields) other =
    ap₂ (λ (o : Option Description) (told : List (Option Description)). o ∷ told) (described_next known place field.index field.number other)
    (told_next known place fields other)

-- no description stands in this place
pub none_passed : (known : List Description) (place passed : ℕ) → AreAscending known → ArePassed known place passed →
    (passed < length known → (at known passed).place ≢ place) →
    ((k : ℕ) → k < length known → (at known k).place ≢ place) × ArePassed known (place + 1) passed
none_passed known place passed rises h other =
    let elsewhere : (k : ℕ) → passed ≤ k → k < length known → place < (at known k).place = λ k from small.
    elim (cases_lt passed k) [
      | inl lt ↦ omega (arith, rises passed k lt small, h.after passed (omega arith) (omega (arith, lt, small)))
      | inr ge ↦
          let same : k ≡ passed = omega (arith, ge, from) in
          let here = other (omega (arith, same, small)) in
          rw same (omega (arith, h.after passed (omega arith) (omega (arith, same, small)), here))
    ] in (
      λ k small e. elim (cases_lt k passed) [
        | inl lt ↦ absurd (omega (arith, h.before k lt, e))
        | inr ge ↦ absurd (omega (arith, elsewhere k (omega (arith, ge)) small, e))
      ],
      record {
        before = λ k lt. omega (arith, h.before k lt);
        after = λ k from small. omega (arith, elsewhere k from small);
      },
    )

-- the next description stands in this place
pub one_passed : (known : List Description) (place passed : ℕ) → AreAscending known → ArePassed known place passed → passed < length known →
    (at known passed).place ≡ place → ArePassed known (place + 1) (passed + 1)
one_passed known place passed rises h some here = record {
  before = λ k lt.
      elim (cases_lt k passed) [
        | inl less ↦ omega (arith, h.before k less)
        | inr ge ↦
            let same : k ≡ passed = omega (arith, ge, lt) in
            rw same (omega (arith, here))
      ];
  after = λ k from small. omega (arith, rises passed k (omega (arith, from)) small, here);
}

-- ---- plans

pub named_on : (known : List Description) (names : List (List ℕ)) (place : ℕ) (definition_for : ℕ → Option Definition) (plans : NamedPlans) →
    AreAscending known → (plans.passed < length known → (at known plans.passed).place ≢ place) →
    AreNamedFor known names place definition_for plans → AreNamedFor known names (place + 1) definition_for plans
named_on known names place definition_for plans rises other h =
    let next = none_passed known place plans.passed rises h.passed other in record {
      passed = next.1;
      are = λ local d plan there has. rw (told_next known place d.developer.items next.0) (h.are local d plan there has);
    }

pub named_set : (known : List Description) (names : List (List ℕ)) (place : ℕ) (definition_for : ℕ → Option Definition) (own : ℕ) (d : Definition)
    (plans : NamedPlans) (made : NamedPlan) (k : ℕ) → k ≡ own → definition_for own ≡ Some d →
    AreCellsFor known names place d made →
    AreNamedFor known names place definition_for plans →
    AreNamedFor known names place definition_for (record plans { slots = set plans.slots k (Some made) })
named_set known names place definition_for own d plans made k is found good h = record {
  passed = h.passed;
  are = λ local definition plan there has.
      elim (same_or_not local k) [
        | inl here ↦
            let one : Some made ≡ Some plan =
            set_there plans.slots k (Some made) plan (ap (λ i. get_or (set plans.slots k (Some made)) i None) (sym here) ∙ there) in
            let same : Some d ≡ Some definition = sym found ∙ ap definition_for (sym is ∙ sym here) ∙ has in
            let is_plan : made ≡ plan = cc in
            let is_definition : d ≡ definition = cc in
            rw (← is_plan, ← is_definition) good
        | inr apart ↦ h.are local definition plan (sym (get_or-set_other plans.slots k local (Some made) None apart) ∙ there) has
      ];
}

pub named_forget : (known : List Description) (names : List (List ℕ)) (place : ℕ) (definition_for : ℕ → Option Definition) (d : Definition)
    (plans : NamedPlans) (k : ℕ) → k ≡ d.local → AreNamedFor known names place definition_for plans →
    AreNamedFor known names place (in_force_after (Defines d) definition_for) (record plans { slots = set plans.slots k None })
named_forget known names place definition_for d plans k is h = record {
  passed = h.passed;
  are = λ local definition plan there has.
      elim (same_or_not local k) [
        | inl here ↦
            let gone : None ≡ Some plan =
            set_there plans.slots k None plan (ap (λ i. get_or (set plans.slots k None) i None) (sym here) ∙ there) in
            cc
        | inr other ↦
            let apart : d.local ≢ local = λ e. other (sym e ∙ sym is) in
            let no : (d.local == local) ≡ false = search rules in
            h.are local definition plan (sym (get_or-set_other plans.slots k local None None other) ∙ there) (rw no at has)
      ];
}
