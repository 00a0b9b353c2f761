-- What the least length means for the window: a whole item, a prefix of one, or none: for the decoder.
use Rattle.std.proofs.Common.{◌≡◌, ℕ, ◌+◌, ◌*◌, ◌<◌, ◌≤◌, Bool, true, List, [], ◌∷◌, ◌++◌, length, take, drop, Option, Some, None, Result, Ok, refl, sym, ap, subst, ◌∙◌, arith}
use Rattle.std.specs.Prelude.{slice_index, IsSomeAnd}
use Rattle.std.proofs.lemmas.List.{append-nil, length-take-le, get_or-take, take-append-drop}
use Rattle.fit_grammar.specs.declared.definition.Definition.{Definition}
use Rattle.fit_grammar.specs.declared.item.ItemFault.{ItemFault}
use Rattle.fit_grammar.specs.Format.Item.{Item, Defines, Data, Head, DefinitionHead, DataHead, head_of, Spells, SpellsDefinition, content_size, part_size}
use Rattle.fit_grammar.specs.Format.Records.{IsDefinedBy}
use Rattle.fit_grammar.specs.Calls.Step.{definition_length_of, data_length_of, length_by, least_length_of, ItemAtFront, ItemBegun}
use Rattle.fit_grammar.proofs.OneItem.Spelling.{definition_length, definition_count, developer_count, data_length, spelling_not_empty}
use Rattle.fit_grammar.proofs.OneItem.Lengths.{part_least}
use Rattle.fit_grammar.proofs.OneItem.DefinitionRead.{all_fields, begun_empty, begun_definition, begun_data, front_is, definition_spelled}
use Rattle.fit_grammar.specs.Private.DefinitionBytes.{definition_at}
use Rattle.fit_grammar.proofs.OneItem.Steps.{spelling_head}

abbrev pub ok : ℕ → Result ℕ ItemFault
ok n = Ok n

pub ok_is : (m n : ℕ) → ok m ≡ ok n → m ≡ n
ok_is m n e = cc

least_by_head : (f : ℕ → Option Definition) (first : ℕ) (rest : List ℕ) (h : Head) → head_of first ≡ h
    → least_length_of f (first ∷ rest) ≡ length_by f h (first ∷ rest)
least_by_head f first rest h e = ap (λ (k : Head). length_by f k (first ∷ rest)) e

some_length : (o : Option Definition) (local n : ℕ) → IsSomeAnd o (λ d. content_size d ≡ n) → data_length_of local o ≡ Ok (1 + n)
some_length None local n h = absurd h
some_length (Some d) local n h = ap (λ (k : ℕ). Ok (1 + k)) h

abbrev pub no_bytes : List ℕ
no_bytes = []

-- an item at the front has its least length
pub least_of_item : (f : ℕ → Option Definition) (window : List ℕ) (item : Item) (used : ℕ)
    → ItemAtFront f window item used → least_length_of f window ≡ Ok used
least_of_item f [] item used p =
    let none : length (take used no_bytes) ≡ used = length-take-le used no_bytes p.within in
    absurd (omega (arith, p.within, none, spelling_not_empty item (take used no_bytes) p.spelled))
least_of_item f (first ∷ rest) (Defines d) used p =
    let window = first ∷ rest in
    let own = take used window in
    let announced = p.spelled.announced in
    let developer = length d.developer.items in
    let end = 6 + 3 * slice_index window 5 in
    let head : head_of first ≡ DefinitionHead d.local announced =
    spelling_head (Defines d) own (drop used window) rest first p.spelled (take-append-drop used window) in
    let whole = definition_length d own p.spelled in
    let long : length own ≡ used = length-take-le used window p.within in
    let count : slice_index window 5 ≡ length d.fields.items = sym (get_or-take used window 5 0 (omega (arith, whole, long)))
    ∙ definition_count d own p.spelled in
    let used_is : used ≡ end + part_size announced developer = omega (arith, whole, long, count) in
    let least = part_least announced end developer used window used_is (λ is there.
    let more : used ≡ end + part_size true developer = subst (λ (b : Bool). used ≡ end + part_size b developer) is used_is in
    sym (get_or-take used window end 0 (omega (arith, more)))
    ∙ ap (λ (n : ℕ). slice_index own (6 + 3 * n)) count ∙ developer_count d own p.spelled is) in
    least_by_head f first rest (DefinitionHead d.local announced) head
    ∙ ap (λ (k : ℕ). Ok k) (all_fields announced window (omega (arith, whole, long, p.within))
    ∙ least.exact (omega (arith, least.least, p.within)))
least_of_item f (first ∷ rest) (Data local offset content) used p =
    let window = first ∷ rest in
    let long : length (take used window) ≡ used = length-take-le used window p.within in
    let n = data_length local offset content (take used window) p.spelled in
    let head : head_of first ≡ DataHead local offset = spelling_head (Data local offset content) (take used window)
    (drop used window) rest first p.spelled (take-append-drop used window) in
    least_by_head f first rest (DataHead local offset) head ∙ some_length (f local) local (length content) p.defined
    ∙ ap (λ (k : ℕ). Ok k) (omega arith)

-- one byte of a data message shows its whole length
pub least_of_data : (f : ℕ → Option Definition) (first : ℕ) (rest more : List ℕ) (local : ℕ) (offset : Option ℕ) (content : List ℕ)
    → Spells (Data local offset content) ((first ∷ rest) ++ more) → IsDefinedBy f (Data local offset content)
    → least_length_of f (first ∷ rest) ≡ Ok (1 + length content)
least_of_data f first rest more local offset content p defined =
    let head : head_of first ≡ DataHead local offset = spelling_head (Data local offset content) ((first ∷ rest) ++ more)
    [] (rest ++ more) first p (append-nil ((first ∷ rest) ++ more)) in
    least_by_head f first rest (DataHead local offset) head ∙ some_length (f local) local (length content) defined

-- a window that is shorter than its least length is a prefix of an item
begun_by : (f : ℕ → Option Definition) (first : ℕ) (rest : List ℕ) (least : ℕ) (h : Head) → head_of first ≡ h
    → length_by f h (first ∷ rest) ≡ Ok least → length (first ∷ rest) < least → ItemBegun f (first ∷ rest)
begun_by f first rest least (DefinitionHead l n) e is short =
    begun_definition f (first ∷ rest) l n (omega arith) e (omega (arith, ok_is (definition_length_of n (first ∷ rest)) least is))
begun_by f first rest least (DataHead l o) e is short = begun_under f (f l) first rest least l o refl e is short
  where
    begun_under : (f : ℕ → Option Definition) (d : Option Definition) (first : ℕ) (rest : List ℕ) (least l : ℕ)
        (o : Option ℕ) → f l ≡ d → head_of first ≡ DataHead l o → data_length_of l d ≡ Ok least
        → length (first ∷ rest) < least → ItemBegun f (first ∷ rest)
    begun_under f None first rest least l o there e is short = absurd cc
    begun_under f (Some d) first rest least l o there e is short = begun_data f (first ∷ rest) d l o (omega arith) e
        there (omega (arith, ok_is (1 + content_size d) least is))

pub least_begun : (f : ℕ → Option Definition) (window : List ℕ) (least : ℕ) → least_length_of f window ≡ Ok least
    → length window < least → ItemBegun f window
least_begun f [] least e short = begun_empty f
least_begun f (first ∷ rest) least e short = begun_by f first rest least (head_of first) refl e short

-- a whole definition at the front of a window
pub definition_whole : (f : ℕ → Option Definition) (window : List ℕ) (used l : ℕ) (n : Bool) (d : Definition)
    → least_length_of f window ≡ Ok used → used ≤ length window → DefinitionHead l n ≡ head_of (slice_index window 0)
    → d ≡ definition_at (take used window) → SpellsDefinition d (take used window)
definition_whole f [] used l n d least le head same = absurd (omega (arith, ok_is 1 used least))
definition_whole f (first ∷ rest) used l n d least le head same =
    let window = first ∷ rest in
    let is : ok (definition_length_of n window) ≡ ok used = sym (least_by_head f first rest (DefinitionHead l n) (sym head)) ∙ least in
    let are = front_is window l used n (sym head) (omega arith) (sym (ok_is (definition_length_of n window) used is)) le in
    rw same (definition_spelled (take used window) are)
