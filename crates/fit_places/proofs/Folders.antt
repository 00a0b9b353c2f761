-- What each change of a folder keeps while a file is written beside another and moved to its place.
use Rattle.std.proofs.Common.{◌≡◌, ◌≢◌, ◌⊎◌, ⊎_elim, inl, inr, ℕ, Bool, true, false, ◌&&◌, List, ◌∷◌, Option, None, Some, refl, sym, ◌∙◌, ap, subst}
use Rattle.std.specs.Str.{bytes_eq}
use Rattle.std.specs.Bool.{Decides}
use Rattle.std.specs.Prelude.{◌==◌, if◌then◌else◌}
use Rattle.std.proofs.lemmas.Slice.Eq.{bytes_eq-Decides}
use Rattle.std.proofs.lemmas.Bool.Decides.{Decides-eqb}
use Rattle.std.proofs.lemmas.Bool.{both_ways}
use Rattle.fit_places.specs.declared.place.Kind.TheVariants.{File}
use Rattle.fit_places.specs.Folder.{Thing, Numbered, Folder, thing_at, IsOneOf, MayStand, LeftAt}
use Rattle.fit_places.specs.Changes.{with_name, with_thing, with_change, empty_file, after_creation, file_synced, moved, folder_synced}
use Rattle.fit_places.specs.Calls.{IsNewNumber}
use Rattle.fit_places.specs.Replaced.{IsNew, IsNewThere, KeepsName, IsBetween, StandsNew, IsReplaced, IsAsBefore}
use Rattle.fit_places.specs.Private.{IsBeside, IsFilled, IsMoved}

not_true : (b : Bool) → (b ≡ true → ⊥) → b ≡ false
not_true true never = absurd (never refl)
not_true false never = refl

apart : (xs ys : List ℕ) → xs ≢ ys → bytes_eq xs ys ≡ false
apart xs ys differ = not_true (bytes_eq xs ys) (λ is. differ ((bytes_eq-Decides xs ys).0 is))

same_name : (xs : List ℕ) → bytes_eq xs xs ≡ true
same_name xs = (bytes_eq-Decides xs xs).1 refl

apart_number : (m n : ℕ) → m ≢ n → (m == n) ≡ false
apart_number m n differ = not_true (m == n) (λ is. differ ((Decides-eqb m n).0 is))

same_number : (n : ℕ) → (n == n) ≡ true
same_number n = (Decides-eqb n n).1 refl

choose : {A : Type 0} (b : Bool) (x y : A) → b ≡ true → (if b then x else y) ≡ x
choose true x y is = refl
choose false x y is = absurd (both_ways false refl is)

refuse : {A : Type 0} (b : Bool) (x y : A) → b ≡ false → (if b then x else y) ≡ y
refuse true x y is = absurd (both_ways true is refl)
refuse false x y is = refl

same_or_not : (xs ys : List ℕ) → (xs ≡ ys) ⊎ (xs ≢ ys)
same_or_not xs ys = by_test (bytes_eq xs ys) (bytes_eq-Decides xs ys)
  where
    by_test : (b : Bool) → Decides b (xs ≡ ys) → (xs ≡ ys) ⊎ (xs ≢ ys)
    by_test true decides = inl (decides.0 refl)
    by_test false decides = inr (λ is. both_ways false refl (decides.1 is))

-- ---- one change

pub name_there : (name : List ℕ) (number : Option ℕ) (folder : Folder) → (with_name name number folder).names name ≡ number
name_there name number folder = choose (bytes_eq name name) _ _ (same_name name)

pub name_elsewhere : (name other : List ℕ) (number : Option ℕ) (folder : Folder) → other ≢ name → (with_name name number folder).names other ≡ folder.names other
name_elsewhere name other number folder differ = refuse (bytes_eq other name) _ _ (apart other name differ)

earlier_there : (name : List ℕ) (number : Option ℕ) (folder : Folder) → (with_name name number folder).earlier name ≡ folder.names name ∷ folder.earlier name
earlier_there name number folder = choose (bytes_eq name name) _ _ (same_name name)

earlier_elsewhere : (name other : List ℕ) (number : Option ℕ) (folder : Folder) → other ≢ name → (with_name name number folder).earlier other ≡ folder.earlier other
earlier_elsewhere name other number folder differ = refuse (bytes_eq other name) _ _ (apart other name differ)

pub thing_there : (number : ℕ) (thing : Numbered) (folder : Folder) → (with_thing number thing folder).things number ≡ thing
thing_there number thing folder = choose (number == number) _ _ (same_number number)

pub thing_elsewhere : (number other : ℕ) (thing : Numbered) (folder : Folder) → other ≢ number → (with_thing number thing folder).things other ≡ folder.things other
thing_elsewhere number other thing folder differ = refuse (other == number) _ _ (apart_number other number differ)

pub changed : (number : ℕ) (folder : Folder) (change : Numbered → Numbered) (at : Option ℕ) → at ≡ Some number → with_change at change folder ≡ with_thing number (change (folder.things number)) folder
changed number folder change at is = ap (λ at. with_change at change folder) is

-- ---- names that are kept

-- Of two folders only the thing of a new number differs, and of some names what they stand for.
module _ (number : ℕ) (start folder : Folder) (is_new : IsNewNumber number start)
    (things : (other : ℕ) → other ≢ number → folder.things other ≡ start.things other) where
  not_new : (name : List ℕ) (one : ℕ) → MayStand name start (Some one) → one ≢ number
  not_new name one stands is = is_new name (subst (λ one. MayStand name start (Some one)) is stands)

  -- a name for what it may stand for at the start
  left_before : (name : List ℕ) (left : Option Thing) → ((one : Option ℕ) → MayStand name folder one → MayStand name start one) → LeftAt name folder left → LeftAt name start left
  left_before name None may left = may None left
  left_before name (Some thing) may (one, stands, holds) =
      let before : MayStand name start (Some one) = may (Some one) stands in
      let same = things one (not_new name one before) in
      (one, before, λ synced. holds (ap (λ filed. filed.is_synced) same ∙ synced) ∙ ap (λ filed. filed.thing) same)

  same_thing : (name : List ℕ) (at : Option ℕ) → start.names name ≡ at → folder.names name ≡ at → thing_at name folder ≡ thing_at name start
  same_thing name None before now = rw (before, now) refl
  same_thing name (Some one) before now =
      let same = things one (not_new name one (inl (sym before))) in
      rw (before, now) (ap (λ (filed : Numbered). Some filed.thing) same)

  keeps_name : (name : List ℕ) → folder.names name ≡ start.names name → ((one : Option ℕ) → IsOneOf one (folder.earlier name) → MayStand name start one) → KeepsName name start folder
  keeps_name name names earlier = record {
    now = same_thing name (start.names name) refl names;
    cut = λ left. left_before name left (λ one. ⊎_elim (λ now. inl (now ∙ names)) (λ before. earlier one before));
  }

-- a name that stood for nothing is the one that is left out
differs : (beside name : List ℕ) (start : Folder) → start.names beside ≡ None → name ≢ beside ⊎ (start.names name ≢ None) → name ≢ beside
differs beside name start is_free (inl differ) = differ
differs beside name start is_free (inr stands) = λ is. stands (ap start.names is ∙ is_free)

module _ (out beside bytes : List ℕ) (number : ℕ) (start folder : Folder) (apart_names : out ≢ beside) where
  -- while the file is written
  beside_keeps : (name : List ℕ) → name ≢ beside → IsBeside beside number start folder → KeepsName name start folder
  beside_keeps name differ b = keeps_name number start folder b.is_new b.things name (b.names name differ) (λ one before. inr (subst (IsOneOf one) (b.earlier name differ) before))

  pub beside_between : IsBeside beside number start folder → IsBetween out beside bytes start folder
  beside_between b =
      let kept = beside_keeps out apart_names b in
      record {
        out_is = record { now = inl kept.now; cut = λ whole left is_left. inl (kept.cut left is_left) };
        others = λ name differ apart. beside_keeps name (differs beside name start b.is_free apart) b;
      }

  -- after it was moved
  new_there : IsMoved out beside bytes number start folder → IsNewThere out bytes start (thing_at out folder)
  new_there m = subst (IsNewThere out bytes start) (sym (ap (λ at. elim at as (λ at. Option Thing) [ None ↦ None | Some one ↦ Some (folder.things one).thing ]) m.stands)) m.thing

  moved_others : IsMoved out beside bytes number start folder → (name : List ℕ) → name ≢ out → thing_at name folder ≡ thing_at name start
  moved_others m name differ = by_name (same_or_not name beside)
    where
      by_name : (name ≡ beside) ⊎ (name ≢ beside) → thing_at name folder ≡ thing_at name start
      by_name (inl is) = same_thing number start folder m.is_new m.things name None (ap start.names is ∙ m.is_free) (ap folder.names is ∙ m.gone)
      by_name (inr apart) = same_thing number start folder m.is_new m.things name (start.names name) refl (m.names name differ apart)

  pub moved_stands : IsMoved out beside bytes number start folder → StandsNew out bytes start folder
  moved_stands m = record { out_is = new_there m; others = moved_others m }

  -- what a power cut leaves of the new file
  new_left : IsMoved out beside bytes number start folder → (folder.things number).is_synced ≡ true → (one : ℕ) (thing : Thing) → Some one ≡ folder.names out → ((folder.things one).is_synced ≡ true → thing ≡ (folder.things one).thing) → IsNew out bytes start thing
  new_left m synced one thing stands holds =
      let is : one ≡ number = let stands_now = m.stands in cc in
      let holds_new = subst (λ one. (folder.things one).is_synced ≡ true → thing ≡ (folder.things one).thing) is holds in
      subst (IsNew out bytes start) (sym (holds_new synced)) m.thing

  moved_cut : IsMoved out beside bytes number start folder → start.keeps_moved ≡ true → (left : Option Thing) → LeftAt out folder left → LeftAt out start left ⊎ IsNewThere out bytes start left
  moved_cut m whole None (inl now) = let no : ⊥ = let stands_now = m.stands in cc in absurd no
  moved_cut m whole None (inr before) = inl (m.earlier out apart_names None before)
  moved_cut m whole (Some thing) (one, inl now, holds) = inr (new_left m (m.synced whole) one thing now holds)
  moved_cut m whole (Some thing) (one, inr before, holds) =
      let stood = m.earlier out apart_names (Some one) before in
      let same = m.things one (not_new number start folder m.is_new m.things out one stood) in
      inl (one, stood, λ synced. holds (ap (λ filed. filed.is_synced) same ∙ synced) ∙ ap (λ filed. filed.thing) same)

  between_cut : IsMoved out beside bytes number start folder → (start.keeps_moved ≡ true) ⊎ (folder.names out ≡ start.names out) → (left : Option Thing) → LeftAt out folder left → LeftAt out start left ⊎ IsNewThere out bytes start left
  between_cut m (inl whole) = moved_cut m whole
  between_cut m (inr same) = λ left is_left. absurd (m.is_new out (inl (sym m.stands ∙ same)))

  pub moved_between : IsMoved out beside bytes number start folder → IsBetween out beside bytes start folder
  moved_between m = record {
    out_is = record { now = inr (new_there m); cut = between_cut m };
    others = λ name differ apart.
        let other = differs beside name start m.is_free apart in
        keeps_name number start folder m.is_new m.things name (m.names name differ other) (λ one before. m.earlier name other one before);
  }

  -- ---- calls

  -- the file beside is moved to its place
  pub move_done : IsBeside beside number start folder → IsFilled out bytes number start folder → IsMoved out beside bytes number start (moved beside out folder)
  move_done b filled = subst (IsMoved out beside bytes number start) (sym (changed number named (λ file. record file { is_synced = file.is_synced && folder.keeps_moved }) (folder.names beside) b.stands)) (record {
    is_new = b.is_new;
    is_free = b.is_free;
    stands = name_there out (folder.names beside) gone ∙ b.stands;
    gone = name_elsewhere out beside (folder.names beside) gone (λ is. apart_names (sym is)) ∙ name_there beside None folder;
    names = λ name differ apart. name_elsewhere out name (folder.names beside) gone differ ∙ name_elsewhere beside name None folder apart ∙ b.names name apart;
    earlier = earlier;
    things = λ other differ. thing_elsewhere number other _ named differ ∙ b.things other differ;
    created = b.created;
    thing = subst (λ (filed : Numbered). IsNew out bytes start filed.thing) (sym (thing_there number _ named)) filled.thing;
    synced = λ whole. ap (λ (filed : Numbered). filed.is_synced) (thing_there number _ named) ∙ rw (filled.synced, b.keeps, whole) refl;
  })
    where
      gone : Folder
      gone = with_name beside None folder

      named : Folder
      named = with_name out (folder.names beside) gone

      earlier : (name : List ℕ) → name ≢ beside → (one : Option ℕ) → IsOneOf one (named.earlier name) → MayStand name start one
      earlier name apart one before = by_name (same_or_not name out)
        where
          by_name : (name ≡ out) ⊎ (name ≢ out) → MayStand name start one
          by_name (inl is) =
              let there : named.earlier name ≡ start.names name ∷ start.earlier name =
              ap named.earlier is ∙ earlier_there out (folder.names beside) gone
              ∙ ap (λ at. at ∷ gone.earlier out) (name_elsewhere beside out None folder apart_names ∙ b.names out apart_names)
              ∙ ap (λ earlier. start.names out ∷ earlier) (earlier_elsewhere beside out None folder apart_names ∙ b.earlier out apart_names)
              ∙ ap (λ name. start.names name ∷ start.earlier name) (sym is) in
              subst (IsOneOf one) there before
          by_name (inr differ) = inr (subst (IsOneOf one) (earlier_elsewhere out name (folder.names beside) gone differ ∙ earlier_elsewhere beside name None folder apart ∙ b.earlier name apart) before)

  -- it is synced once more
  pub moved_synced : IsMoved out beside bytes number start folder → IsMoved out beside bytes number start (file_synced folder) × (((file_synced folder).things number).is_synced ≡ true)
  moved_synced m = subst (λ new. IsMoved out beside bytes number start new × ((new.things number).is_synced ≡ true)) (sym (changed number folder (λ file. record file { is_synced = true }) folder.created m.created)) (
    record {
      is_new = m.is_new;
      is_free = m.is_free;
      stands = m.stands;
      gone = m.gone;
      names = m.names;
      earlier = m.earlier;
      things = λ other differ. thing_elsewhere number other synced folder differ ∙ m.things other differ;
      created = m.created;
      thing = subst (λ (filed : Numbered). IsNew out bytes start filed.thing) (sym (thing_there number synced folder)) m.thing;
      synced = λ whole. is_synced;
    },
    is_synced,
  )
    where
      synced : Numbered
      synced = record (folder.things number) { is_synced = true }

      is_synced : ((with_thing number synced folder).things number).is_synced ≡ true
      is_synced = ap (λ (filed : Numbered). filed.is_synced) (thing_there number synced folder)

  -- the folder is synced
  pub names_synced : IsMoved out beside bytes number start folder → IsMoved out beside bytes number start (folder_synced folder)
  names_synced m = record {
    is_new = m.is_new;
    is_free = m.is_free;
    stands = m.stands;
    gone = m.gone;
    names = m.names;
    earlier = λ name differ one none. absurd none;
    things = m.things;
    created = m.created;
    thing = m.thing;
    synced = m.synced;
  }

  pub all_synced : IsMoved out beside bytes number start folder → (folder.things number).is_synced ≡ true → IsReplaced out bytes start (folder_synced folder)
  all_synced m synced = record {
    out_is = new_there m;
    others = others;
    cut = cut;
  }
    where
      may : (name : List ℕ) → name ≢ out → (one : Option ℕ) → MayStand name (folder_synced folder) one → MayStand name start one
      may name differ one (inl now) = inl (now ∙ ⊎_elim (λ is. ap folder.names is ∙ m.gone ∙ sym (ap start.names is ∙ m.is_free)) (λ apart. m.names name differ apart) (same_or_not name beside))
      may name differ one (inr none) = absurd none

      others : (name : List ℕ) → name ≢ out → KeepsName name start (folder_synced folder)
      others name differ = record {
        now = moved_others m name differ;
        cut = λ left is_left. left_before number start (folder_synced folder) m.is_new m.things name left (may name differ) is_left;
      }

      cut : (left : Option Thing) → LeftAt out (folder_synced folder) left → IsNewThere out bytes start left
      cut None (inl now) = let no : ⊥ = let stands_now = m.stands in cc in absurd no
      cut None (inr none) = absurd none
      cut (Some thing) (one, inl now, holds) = new_left m synced one thing now holds
      cut (Some thing) (one, inr none, holds) = absurd none

  pub between_keeps : IsBeside beside number start folder → KeepsName out start folder
  between_keeps b = beside_keeps out apart_names b

  -- the file beside is removed again
  gone_keeps : (name : List ℕ) → name ≢ beside → IsBeside beside number start folder → KeepsName name start (with_name beside None folder)
  gone_keeps name differ b = keeps_name number start (with_name beside None folder) b.is_new b.things name
      (name_elsewhere beside name None folder differ ∙ b.names name differ)
      (λ one before. inr (subst (IsOneOf one) (earlier_elsewhere beside name None folder differ ∙ b.earlier name differ) before))

  pub gone_between : IsBeside beside number start folder → IsBetween out beside bytes start (with_name beside None folder)
  gone_between b =
      let kept = gone_keeps out apart_names b in
      record {
        out_is = record { now = inl kept.now; cut = λ whole left is_left. inl (kept.cut left is_left) };
        others = λ name differ apart. gone_keeps name (differs beside name start b.is_free apart) b;
      }

  pub removed : IsBeside beside number start folder → IsAsBefore out start (with_name beside None folder)
  removed b = record {
    out_is = gone_keeps out apart_names b;
    names = λ name. by_name name (same_or_not name beside);
  }
    where
      gone : Folder
      gone = with_name beside None folder

      by_name : (name : List ℕ) → (name ≡ beside) ⊎ (name ≢ beside) → thing_at name gone ≡ thing_at name start
      by_name name (inl is) = same_thing number start gone b.is_new b.things name None (ap start.names is ∙ b.is_free) (ap gone.names is ∙ name_there beside None folder)
      by_name name (inr apart) = same_thing number start gone b.is_new b.things name (start.names name) refl (name_elsewhere beside name None folder apart ∙ b.names name apart)

-- ---- calls before the move

-- the file is created
pub creation_done : (beside : List ℕ) (number mode : ℕ) (start : Folder) → IsNewNumber number start → start.names beside ≡ None → IsBeside beside number start (after_creation beside number mode start)
creation_done beside number mode start is_new is_free = record {
  is_new = is_new;
  is_free = is_free;
  stands = name_there beside (Some number) start;
  names = λ name differ. name_elsewhere beside name (Some number) start differ;
  earlier = λ name differ. earlier_elsewhere beside name (Some number) start differ;
  things = λ other differ. thing_elsewhere number other (empty_file mode) named differ;
  created = refl;
  kind = ap (λ (filed : Numbered). filed.thing.kind) (thing_there number (empty_file mode) named);
  keeps = refl;
}
  where
    named : Folder
    named = with_name beside (Some number) start

-- it is changed
pub change_done : (beside : List ℕ) (number : ℕ) (start folder : Folder) (filed : Numbered) → filed.thing.kind ≡ File → IsBeside beside number start folder → IsBeside beside number start (with_thing number filed folder)
change_done beside number start folder filed kind b = record {
  is_new = b.is_new;
  is_free = b.is_free;
  stands = b.stands;
  names = b.names;
  earlier = b.earlier;
  things = λ other differ. thing_elsewhere number other filed folder differ ∙ b.things other differ;
  created = b.created;
  kind = ap (λ (filed : Numbered). filed.thing.kind) (thing_there number filed folder) ∙ kind;
  keeps = b.keeps;
}
