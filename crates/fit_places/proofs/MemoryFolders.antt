-- What changes of a folder in memory stand for.
use Rattle.std.proofs.Common.{◌≡◌, ◌≢◌, inl, inr, ℕ, zero, suc, ◌+◌, ◌<◌, ◌≤◌, Bool, true, false, List, [], ◌∷◌, ◌++◌, Option, None, Some, Result, Ok, Err, refl, sym, ◌∙◌, ap, subst, length, take, map, get_or, set, arith, add-one, length-set}
use Rattle.std.specs.Prelude.{OnErr, IfSome, slice_get, ◌==◌, if◌then◌else◌, string_bytes}
use Rattle.std.specs.Str.{bytes_eq}
use Rattle.std.specs.Bool.{Decides}
use Rattle.std.proofs.lemmas.Slice.Eq.{bytes_eq-Decides}
use Rattle.std.proofs.lemmas.Bool.Decides.{Decides-eqb}
use Rattle.std.proofs.lemmas.Bool.{both_ways}
use Rattle.std.proofs.lemmas.List.{length-map, map-set, get_or-map, get_or-set_same, get_or-set_other}
use Rattle.fit_places.specs.declared.memory_folder.NameChange.{NameChange}
use Rattle.fit_places.specs.declared.stored_thing.StoredThing.{StoredThing}
use Rattle.fit_places.specs.StoredThing.{numbered}
use Rattle.fit_places.specs.NameChanges.{number_by, earlier_by, IsBelow, NamesBelow, EarlierBelow}
use Rattle.fit_places.specs.Folder.{Numbered, Folder, IsOneOf}
use Rattle.fit_places.specs.Changes.{with_name, with_thing, with_change, with_bytes, empty_file, folder_synced}
use Rattle.fit_places.specs.Calls.{IsNewNumber}
use Rattle.fit_places.specs.MemoryFolder.{Stands, thing_by, bytes_of}

-- ---- numbers

pub names_below_more : (count more : ℕ) (changes : List NameChange) → count ≤ more → NamesBelow count changes → NamesBelow more changes
names_below_more count more changes fits below = λ name one is. let low = below name one is in omega (arith, low, fits)

pub earlier_below_more : (count more : ℕ) (changes : List NameChange) → count ≤ more → EarlierBelow count changes → EarlierBelow more changes
earlier_below_more count more changes fits below = λ name one is. let low = below name one is in omega (arith, low, fits)

pub names_below_changed : (count : ℕ) (change : NameChange) (changes : List NameChange) → IsBelow count change.number → NamesBelow count changes → NamesBelow count (change ∷ changes)
names_below_changed count change changes first below = λ name. by_test name (bytes_eq name (string_bytes change.name))
  where
    by_test : (name : List ℕ) (b : Bool) → IsBelow count (if b then change.number else number_by changes name)
    by_test name true = first
    by_test name false = below name

pub earlier_below_changed : (count : ℕ) (change : NameChange) (changes : List NameChange) → IsBelow count change.before → EarlierBelow count changes → EarlierBelow count (change ∷ changes)
earlier_below_changed count change changes first below = λ name one. by_test name one (bytes_eq name (string_bytes change.name))
  where
    by_test : (name : List ℕ) (one : ℕ) (b : Bool) → IsOneOf (Some one) (if b then change.before ∷ earlier_by changes name else earlier_by changes name) → one < count
    by_test name one true (inl is) = first one (sym is)
    by_test name one true (inr was) = below name one was
    by_test name one false was = below name one was

keeps_one : (b : Bool) (first : Option ℕ) (taken all : List (Option ℕ)) (one : ℕ) → (IsOneOf (Some one) taken → IsOneOf (Some one) all)
    → IsOneOf (Some one) (if b then first ∷ taken else taken) → IsOneOf (Some one) (if b then first ∷ all else all)
keeps_one true first taken all one more (inl is) = inl is
keeps_one true first taken all one more (inr was) = inr (more was)
keeps_one false first taken all one more was = more was

in_recent : (recent : ℕ) (changes : List NameChange) (name : List ℕ) (one : ℕ) → IsOneOf (Some one) (earlier_by (take recent changes) name) → IsOneOf (Some one) (earlier_by changes name)
in_recent zero changes name one was = absurd was
in_recent (suc recent) [] name one was = absurd was
in_recent (suc recent) (change ∷ changes) name one was =
    keeps_one (bytes_eq name (string_bytes change.name)) change.before _ _ one (in_recent recent changes name one) was

pub recent_below : (count recent : ℕ) (changes : List NameChange) → EarlierBelow count changes → EarlierBelow count (take recent changes)
recent_below count recent changes below = λ name one was. below name one (in_recent recent changes name one was)

pub found_below : (count : ℕ) (numbers : List (Option ℕ)) (place : ℕ) → ((one : ℕ) → IsOneOf (Some one) numbers → one < count) → IfSome (slice_get numbers place) (λ number. IsBelow count number)
found_below count [] place below = tt
found_below count (first ∷ numbers) zero below = λ one is. below one (inl (sym is))
found_below count (first ∷ numbers) (suc place) below = found_below count numbers place (λ one was. below one (inr was))

-- ---- names

pushed_there : (things : List StoredThing) (thing : StoredThing) → thing_by (things ++ thing ∷ []) (length things) ≡ numbered thing
pushed_there [] thing = refl
pushed_there (first ∷ things) thing = pushed_there things thing

pushed_elsewhere : (things : List StoredThing) (thing : StoredThing) (other : ℕ) → other ≢ length things → thing_by (things ++ thing ∷ []) other ≡ thing_by things other
pushed_elsewhere [] thing zero differ = absurd (differ refl)
pushed_elsewhere [] thing (suc other) differ = refl
pushed_elsewhere (first ∷ things) thing zero differ = refl
pushed_elsewhere (first ∷ things) thing (suc other) differ = pushed_elsewhere things thing other (λ same. differ (ap suc same))

stored_there : (things : List StoredThing) (number : ℕ) (old : StoredThing) → number < length things → thing_by things number ≡ numbered (get_or things number old)
stored_there things number old low = get_or-map numbered things number old (empty_file 0) low

pub on_err : {T E : Type 0} (result : Result T E) (A : Type 0) → A → OnErr result A
on_err (Ok x) A holds = tt
on_err (Err e) A holds = holds

pub grows : (b : Bool) (n m : ℕ) → m ≡ (if b then n + 1 else n) → n ≤ m
grows true n m is = omega (arith, is)
grows false n m is = omega (arith, is)

-- the bytes of the file that was created last
module _ (things : List StoredThing) (created : Option ℕ) (number : ℕ) (is : created ≡ Some number) (low : number < length things) where
  pub bytes_before : (old : StoredThing) → old ≡ get_or things number old → bytes_of created things ≡ old.bytes.items
  bytes_before old there = ap (λ at. bytes_of at things) is ∙ ap (λ (filed : Numbered). filed.thing.bytes) (stored_there things number old low ∙ ap numbered (sym there))

  pub bytes_after : (new : StoredThing) → bytes_of created (set things number new) ≡ new.bytes.items
  bytes_after new =
      ap (λ at. bytes_of at (set things number new)) is
      ∙ ap (λ (filed : Numbered). filed.thing.bytes) (stored_there (set things number new) number new (omega (arith, low, length-set things number new)) ∙ ap numbered (get_or-set_same things number new new low))

module _ (changes : List NameChange) (recent : ℕ) (things : List StoredThing) (created : Option ℕ) (keeps_moved : Bool) (folder : Folder) where
  pub name_changed : (change : NameChange) → change.before ≡ number_by changes (string_bytes change.name)
      → Stands changes recent things created keeps_moved folder
      → Stands (change ∷ changes) (recent + 1) things created keeps_moved (with_name (string_bytes change.name) change.number folder)
  name_changed change before s = record {
    names = λ other. ap (λ rest. if bytes_eq other (string_bytes change.name) then change.number else rest) (s.names other);
    earlier = λ other. rw (add-one recent) (by_test other (bytes_eq other (string_bytes change.name)) (bytes_eq-Decides other (string_bytes change.name)));
    numbers = s.numbers;
    last = s.last;
    keeps = s.keeps;
  }
    where
      by_test : (other : List ℕ) (b : Bool) → Decides b (other ≡ string_bytes change.name)
          → (if b then folder.names (string_bytes change.name) ∷ folder.earlier (string_bytes change.name) else folder.earlier other) ≡ (if b then change.before ∷ earlier_by (take recent changes) other else earlier_by (take recent changes) other)
      by_test other true decides =
          let is = decides.0 refl in
          let first : folder.names (string_bytes change.name) ≡ change.before = s.names (string_bytes change.name) ∙ sym before in
          let rest : folder.earlier (string_bytes change.name) ≡ earlier_by (take recent changes) other = ap folder.earlier (sym is) ∙ s.earlier other in
          rw (first, rest) refl
      by_test other false decides = s.earlier other

  -- all names are kept
  pub names_kept : Stands changes recent things created keeps_moved folder → Stands changes 0 things created keeps_moved (folder_synced folder)
  names_kept s = record { names = s.names; earlier = λ name. refl; numbers = s.numbers; last = s.last; keeps = s.keeps }

  -- what has a number is replaced
  pub thing_changed : (number : ℕ) (thing : StoredThing) (stood : Numbered) → number < length things → numbered thing ≡ stood
      → Stands changes recent things created keeps_moved folder
      → Stands changes recent (set things number thing) created keeps_moved (with_thing number stood folder)
  thing_changed number thing stood low is s = record {
    names = s.names;
    earlier = s.earlier;
    numbers = λ other. by_test other (other == number) (Decides-eqb other number) ∙ ap (λ all. get_or all other (empty_file 0)) (sym (map-set numbered things number thing));
    last = s.last;
    keeps = s.keeps;
  }
    where
      by_test : (other : ℕ) (b : Bool) → Decides b (other ≡ number) → (if b then stood else folder.things other) ≡ get_or (set (map numbered things) number (numbered thing)) other (empty_file 0)
      by_test other true decides =
          let same = decides.0 refl in
          rw (same) (sym is ∙ sym (get_or-set_same (map numbered things) number (numbered thing) (empty_file 0) (omega (arith, low, length-map things numbered))))
      by_test other false decides = s.numbers other ∙ sym (get_or-set_other (map numbered things) number other (numbered thing) (empty_file 0) (λ same. both_ways false refl (decides.1 same)))

  -- a thing with the next number
  pub thing_pushed : (thing : StoredThing) (stood : Numbered) → numbered thing ≡ stood
      → Stands changes recent things created keeps_moved folder
      → Stands changes recent (things ++ thing ∷ []) created keeps_moved (with_thing (length things) stood folder)
  thing_pushed thing stood is s = record {
    names = s.names;
    earlier = s.earlier;
    numbers = λ other. by_test other (other == length things) (Decides-eqb other (length things));
    last = s.last;
    keeps = s.keeps;
  }
    where
      by_test : (other : ℕ) (b : Bool) → Decides b (other ≡ length things) → (if b then stood else folder.things other) ≡ thing_by (things ++ thing ∷ []) other
      by_test other true decides = let same = decides.0 refl in rw same (sym is ∙ sym (pushed_there things thing))
      by_test other false decides = s.numbers other ∙ sym (pushed_elsewhere things thing other (λ same. both_ways false refl (decides.1 same)))

  there : (number : ℕ) (old : StoredThing) → number < length things → old ≡ get_or things number old → thing_by things number ≡ numbered old
  there number old low is = stored_there things number old low ∙ ap numbered (sym is)

  -- what stands for this number is changed
  pub changed_some : (at : Option ℕ) (number : ℕ) (change : Numbered → Numbered) (old new : StoredThing) → at ≡ Some number → number < length things → old ≡ get_or things number old → numbered new ≡ change (numbered old)
      → Stands changes recent things created keeps_moved folder
      → Stands changes recent (set things number new) created keeps_moved (with_change at change folder)
  changed_some at number change old new at_is low is new_is s =
      subst (λ at. Stands changes recent (set things number new) created keeps_moved (with_change at change folder)) (sym at_is)
      (thing_changed number new (change (folder.things number)) low (new_is ∙ ap change (sym (s.numbers number ∙ there number old low is))) s)

  pub changed_none : (at : Option ℕ) (change : Numbered → Numbered) → at ≡ None
      → Stands changes recent things created keeps_moved folder
      → Stands changes recent things created keeps_moved (with_change at change folder)
  changed_none at change at_is s = subst (λ at. Stands changes recent things created keeps_moved (with_change at change folder)) (sym at_is) s

  -- a number that nothing stood for
  pub next_is_new : (count : ℕ) → NamesBelow count changes → EarlierBelow count changes → Stands changes recent things created keeps_moved folder → IsNewNumber count folder
  next_is_new count names earlier s name (inl now) =
      let low : count < count = names name count (sym (s.names name) ∙ sym now) in
      let no : ⊥ = omega (arith, low) in no
  next_is_new count names earlier s name (inr before) =
      let low : count < count = recent_below count recent changes earlier name count (subst (IsOneOf (Some count)) (s.earlier name) before) in
      let no : ⊥ = omega (arith, low) in no

  -- the file that was created last has other bytes
  pub bytes_changed : (number : ℕ) (old new : StoredThing) → created ≡ Some number → number < length things → old ≡ get_or things number old → numbered new ≡ with_bytes new.bytes.items (numbered old)
      → Stands changes recent things created keeps_moved folder
      → Stands changes recent (set things number new) created keeps_moved (with_change folder.created (with_bytes (bytes_of created (set things number new))) folder)
  bytes_changed number old new created_is low is new_is s =
      subst (λ bytes. Stands changes recent (set things number new) created keeps_moved (with_change folder.created (with_bytes bytes) folder)) (sym (bytes_after things created number created_is low new))
      (changed_some folder.created number (with_bytes new.bytes.items) old new (s.last ∙ created_is) low is new_is s)

  -- another file was created last
  pub created_changed : (number : ℕ) → Stands changes recent things created keeps_moved folder → Stands changes recent things (Some number) keeps_moved (record folder { created = Some number })
  created_changed number s = record { names = s.names; earlier = s.earlier; numbers = s.numbers; last = refl; keeps = s.keeps }
