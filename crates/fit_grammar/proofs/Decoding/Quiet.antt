-- If an item begins and ends within the data, its bytes show no fault: for `Fronts`, `Blocked` and `Accepted`.
use Rattle.std.proofs.Common.{◌≡◌, ℕ, ◌+◌, ◌*◌, ◌<◌, ◌≤◌, Bool, true, false, List, ◌++◌, length, Option, Some, None, sym, ap, ◌∙◌, arith, inl, inr}
use Rattle.std.specs.Prelude.{slice_index, IsSomeAnd}
use Rattle.std.proofs.lemmas.List.{get_or_append_left}
use Rattle.fit_grammar.specs.declared.definition.Definition.{Definition}
use Rattle.fit_grammar.specs.declared.file.fault.FaultKind.{FaultKind}
use Rattle.fit_grammar.specs.declared.file.fault.FaultKind.TheVariants.{Truncated, HeaderSize, Magic, Protocol, HeaderCrc, UndefinedLocal, SplitMessage, FileCrc, TrailingBytes, Memory}
use Rattle.fit_grammar.specs.Format.Item.{Item, Defines, Data, Spells, SpellsDefinition, SpellsData, head_of, DefinitionHead, DataHead, content_size, part_size}
use Rattle.fit_grammar.specs.Format.Records.{IsDefined, in_force}
use Rattle.fit_grammar.specs.Format.Refusal.{Front, TailShows, SplitsAtFirst, SplitsAtCount, SplitsAtDeveloperCount}
use Rattle.fit_grammar.proofs.OneItem.Spelling.{definition_first, definition_length, definition_count, developer_count, data_first, data_length, spelling_not_empty}
use Rattle.fit_grammar.proofs.OneItem.Steps.{item_head, spelling_head}

not_defined : (o : Option Definition) (P : Definition → Type 0) → IsSomeAnd o P → o ≡ None → ⊥
not_defined None P h e = h
not_defined (Some d) P h e = cc

-- the definition of a data message is in force
some_size : (o : Option Definition) (n : ℕ) (k s : ℕ) → IsSomeAnd o (λ d. content_size d ≡ n)
    → IsSomeAnd o (λ d. s < k + (1 + content_size d)) → s < k + (1 + n)
some_size None n k s h g = absurd h
some_size (Some d) n k s h g = rw (← h) g

same_local : (l m : ℕ) (o n : Option ℕ) → DataHead l o ≡ DataHead m n → l ≡ m
same_local l m o n e = cc

-- if bytes begin in two ways, both have the same byte at each place
pub same_byte : (own u tail after : List ℕ) (i : ℕ) → own ++ u ≡ tail ++ after → i < length own → i < length tail
    → slice_index own i ≡ slice_index tail i
same_byte own u tail after i e lt less =
    sym (get_or_append_left own u 0 i lt) ∙ ap (λ (l : List ℕ). slice_index l i) e ∙ get_or_append_left tail after 0 i less

-- one byte does not show that the item extends past the end
first_quiet : (g : Front) (tail after : List ℕ) (item : Item) (own u : List ℕ) → Spells item own
    → IsDefined g.items item → own ++ u ≡ tail ++ after → length g.records + length own ≤ g.size → SplitsAtFirst g tail → ⊥
first_quiet g tail after (Defines d) own u p q e le (byte, is, inl h) =
    omega (arith, definition_length d own p, h.3)
first_quiet g tail after (Defines d) own u p q e le (byte, is, inr h) =
    let f = spelling_head (Defines d) own u after byte p (e ∙ ap (λ (l : List ℕ). l ++ after) is) in
    let bad : DataHead h.0 h.1 ≡ DefinitionHead d.local p.announced = sym h.2 ∙ f in
    cc
first_quiet g tail after (Data local offset content) own u p q e le (byte, is, inl h) =
    let f = spelling_head (Data local offset content) own u after byte p (e ∙ ap (λ (l : List ℕ). l ++ after) is) in
    let bad : DefinitionHead h.0 h.1 ≡ DataHead local offset = sym h.2 ∙ f in
    cc
first_quiet g tail after (Data local offset content) own u p q e le (byte, is, inr h) =
    let f = spelling_head (Data local offset content) own u after byte p (e ∙ ap (λ (l : List ℕ). l ++ after) is) in
    let same = same_local local h.0 offset h.1 (sym f ∙ h.2) in
    let size = some_size (in_force g.items local) (length content) (length g.records) g.size q (rw same h.3) in
    omega (arith, data_length local offset content own p, size)

pub part_least : (announced : Bool) (n : ℕ) → part_size announced 0 ≤ part_size announced n
part_least false n = omega arith
part_least true n = omega arith

same_announced : (k l : ℕ) (a b : Bool) → DefinitionHead k a ≡ DefinitionHead l b → a ≡ b
same_announced k l a b e = cc

-- if a tail begins as the bytes of a definition do, that definition announces what the tail does
announced_is : (d : Definition) (own u tail after : List ℕ) (p : SpellsDefinition d own) (local : ℕ) (announced : Bool)
    → own ++ u ≡ tail ++ after → 1 ≤ length tail → head_of (slice_index tail 0) ≡ DefinitionHead local announced → p.announced ≡ announced
announced_is d own u tail after p local announced e some head =
    let long = definition_length d own p in
    same_announced d.local local p.announced announced (sym (definition_first d own p)
    ∙ ap head_of (same_byte own u tail after 0 e (omega (arith, long)) some) ∙ head)

data_announces : (local : ℕ) (offset : Option ℕ) (content own u tail after : List ℕ) → SpellsData local offset content own
    → (l : ℕ) (announced : Bool) → own ++ u ≡ tail ++ after → 1 ≤ length tail
    → head_of (slice_index tail 0) ≡ DefinitionHead l announced → ⊥
data_announces local offset content own u tail after p l announced e some head =
    let ne = data_length local offset content own p in
    let same = same_byte own u tail after 0 e (omega (arith, ne)) some in
    let bad : DataHead local offset ≡ DefinitionHead l announced = sym (data_first local offset content own p) ∙ ap head_of same ∙ head in
    cc

-- six bytes of a definition do not show that it extends past the end
count_quiet : (g : Front) (tail after : List ℕ) (item : Item) (own u : List ℕ) → Spells item own
    → own ++ u ≡ tail ++ after → length g.records + length own ≤ g.size → SplitsAtCount g tail → ⊥
count_quiet g tail after (Defines d) own u p e le (six, local, announced, head, past) =
    let n = definition_length d own p in
    let same = same_byte own u tail after 5 e (omega (arith, n)) (omega (arith, six)) in
    let is = announced_is d own u tail after p local announced e (omega (arith, six)) head in
    let whole : length own ≡ 6 + 3 * length d.fields.items + part_size announced (length d.developer.items) = rw is at n in
    omega (arith, whole, definition_count d own p, same, past, part_least announced (length d.developer.items))
count_quiet g tail after (Data local offset content) own u p e le (six, l, announced, head, past) =
    data_announces local offset content own u tail after p l announced e (omega (arith, six)) head

-- and neither do its bytes up to the number of its developer fields
developer_quiet : (g : Front) (tail after : List ℕ) (item : Item) (own u : List ℕ) → Spells item own
    → own ++ u ≡ tail ++ after → length g.records + length own ≤ g.size → SplitsAtDeveloperCount g tail → ⊥
developer_quiet g tail after (Defines d) own u p e le (long, local, head, past) =
    let n = definition_length d own p in
    let fifth : length d.fields.items ≡ slice_index tail 5 =
    sym (definition_count d own p) ∙ same_byte own u tail after 5 e (omega (arith, n)) (omega (arith, long)) in
    let is = announced_is d own u tail after p local true e (omega (arith, long)) head in
    let whole : length own ≡ 6 + 3 * length d.fields.items + part_size true (length d.developer.items) = rw is at n in
    let end = 6 + 3 * length d.fields.items in
    let count : length d.developer.items ≡ slice_index tail end =
    sym (developer_count d own p is) ∙ same_byte own u tail after end e (omega (arith, whole)) (omega (arith, long, fifth)) in
    let there : slice_index tail end ≡ slice_index tail (6 + 3 * slice_index tail 5) =
    ap (λ (k : ℕ). slice_index tail (6 + 3 * k)) fifth in
    omega (arith, whole, fifth, count, there, past)
developer_quiet g tail after (Data local offset content) own u p e le (long, l, head, past) =
    data_announces local offset content own u tail after p l true e (omega (arith, long)) head

undefined_quiet : (g : Front) (item : Item) (own : List ℕ) (p : Spells item own) (byte local : ℕ) (offset : Option ℕ)
    → IsDefined g.items item → head_of byte ≡ item_head item own p → head_of byte ≡ DataHead local offset
    → in_force g.items local ≡ None → ⊥
undefined_quiet g (Defines d) own p byte local offset q f h n =
    let bad : DefinitionHead d.local p.announced ≡ DataHead local offset = sym f ∙ h in
    cc
undefined_quiet g (Data l o content) own p byte local offset q f h n =
    let same = same_local l local o offset (sym f ∙ h) in
    not_defined (in_force g.items l) (λ d. content_size d ≡ length content) q (ap (in_force g.items) same ∙ n)

-- an item that begins after a front and ends within the data
pub record ItemInside (g : Front) (item : Item) (own u : List ℕ) : Type 0 where
  pub spelled : Spells item own
  pub defined : IsDefined g.items item
  pub inside : length g.records + length own ≤ g.size

-- its bytes show no fault
pub item_quiet : (kind : FaultKind) (g : Front) (tail after : List ℕ) (item : Item) (own u : List ℕ)
    → ItemInside g item own u → own ++ u ≡ tail ++ after → TailShows kind g tail → ⊥
item_quiet (UndefinedLocal local) g tail after item own u p e sh =
    undefined_quiet g item own p.spelled sh.1 local sh.2 p.defined
    (spelling_head item own u after sh.1 p.spelled (e ∙ ap (λ (l : List ℕ). l ++ after) sh.3)) sh.4 sh.5
item_quiet SplitMessage g tail after item own u p e (lt, inl h) = first_quiet g tail after item own u p.spelled p.defined e p.inside h
item_quiet SplitMessage g tail after item own u p e (lt, inr (inl h)) = count_quiet g tail after item own u p.spelled e p.inside h
item_quiet SplitMessage g tail after item own u p e (lt, inr (inr h)) = developer_quiet g tail after item own u p.spelled e p.inside h
item_quiet FileCrc g tail after item own u p e sh =
    let ne = spelling_not_empty item own p.spelled in
    let le = p.inside in
    omega (arith, sh.0)
item_quiet TrailingBytes g tail after item own u p e sh =
    let ne = spelling_not_empty item own p.spelled in
    let le = p.inside in
    omega (arith, sh.0)
item_quiet HeaderSize g tail after item own u p e sh = sh
item_quiet Protocol g tail after item own u p e sh = sh
item_quiet Magic g tail after item own u p e sh = sh
item_quiet HeaderCrc g tail after item own u p e sh = sh
item_quiet Truncated g tail after item own u p e sh = sh
item_quiet Memory g tail after item own u p e sh = sh
