-- The calls by which a file is replaced, one after another.
use Rattle.std.proofs.Common.{◌≡◌, ◌≢◌, ◌⊎◌, inl, inr, ℕ, ◌+◌, Bool, true, false, List, ◌++◌, Option, None, Some, Result, Ok, Err, refl, sym, ◌∙◌, ap, subst, arith, ◌<◌, below_more}
use Rattle.std.specs.Prelude.{IsErr, OnOk, OnErr, IfOk, IfErr, IsErrAnd}
use Rattle.std.proofs.lemmas.Bool.{both_ways}
use Rattle.std.specs.Str.{bytes_eq}
use Rattle.std.proofs.lemmas.Slice.Eq.{bytes_eq-Decides}
use Rattle.fit_places.specs.declared.place.Kind.{Kind}
use Rattle.fit_places.specs.declared.place.Kind.TheVariants.{File, Other}
use Rattle.fit_places.specs.declared.place.PlaceFault.{PlaceFault}
use Rattle.fit_places.specs.declared.place.PlaceFault.TheVariants.{Memory}
use Rattle.fit_places.specs.Folder.{Numbered, Folder, MayStand, kind_at}
use Rattle.fit_places.specs.FolderStory.{FolderStory, folder_then, IsUnchanged, AtEachMoment, call_failed}
use Rattle.fit_places.specs.Changes.{with_name, with_change, with_mode, with_bytes, with_mode_of, mode_copied, content_written, file_synced, empty_file, after_creation, moved, folder_synced}
use Rattle.fit_places.specs.Calls.{Does, CanLock, HasCreated, Creates, Writes}
use Rattle.fit_places.specs.Replaced.{IsNew, KeepsName, IsBetween, IsReplaced, IsAsBefore, IsNotReplaced, IsRefused, AreTaken, FailsOr, HasCause, name_beside, most_names}
use Rattle.fit_places.specs.Private.{IsReady, CreatesApart, IsBeside, IsFilled, IsMoved, IsBegun, HasMode, Goes, IsPrepared, CreatesBeside}
use Rattle.fit_places.proofs.Moments.{unchanged_failed, unchanged_same, weaker_moments, begins, stays, then_run, at_end, to, does_on}
use Rattle.fit_places.proofs.Folders.{changed, thing_there, change_done, creation_done, beside_between, between_keeps, removed, gone_between, move_done, moved_between, moved_stands, moved_synced, names_synced, all_synced}

-- ---- runs

-- a call, done or failed
pub goes_by : {T E : Type 0} (P : Folder → Type 0) (result : Result T E) (old new : FolderStory) (folder : Folder) → P old.now → P folder → Does result (folder_then folder old) old new → Goes P result old new
goes_by P (Ok x) old new folder here there does = record {
  run = does_on P (Ok x) old old new folder (begins P old here) there does;
  ok = ap (λ story. story.failed) does.ok;
  err = tt;
}
goes_by P (Err e) old new folder here there does = record {
  run = does_on P (Err e) old old new folder (begins P old here) there does;
  ok = tt;
  err = ap (λ story. story.failed) does.err;
}

-- one run after another that went well
pub goes_then : {T E U F : Type 0} (P : Folder → Type 0) (x : T) (second : Result U F) (old mid new : FolderStory) → Goes {T = T} {E = E} P (Ok x) old mid → Goes P second mid new → Goes P second old new
goes_then P x (Ok y) old mid new first second = record { run = then_run P old mid new first.run second.run; ok = second.ok ∙ first.ok; err = tt }
goes_then P x (Err e) old mid new first second = record {
  run = then_run P old mid new first.run second.run;
  ok = tt;
  err = second.err ∙ ap (λ failed. failed + 1) first.ok;
}

pub goes_weaker : {T E : Type 0} (P Q : Folder → Type 0) → ((folder : Folder) → P folder → Q folder) → (result : Result T E) (old new : FolderStory) → Goes P result old new → Goes Q result old new
goes_weaker P Q follows result old new run = record { run = weaker_moments P Q follows old new run.run; ok = run.ok; err = run.err }

-- a run that ends with a failed call
pub goes_err : {T E U F : Type 0} (P Q : Folder → Type 0) → ((folder : Folder) → P folder → Q folder) → (e : E) (result : Result U F) (old new : FolderStory) → IsErr result → Goes {T = T} {E = E} P (Err e) old new → Goes Q result old new
goes_err P Q follows e (Ok x) old new fails run = absurd (both_ways false refl fails)
goes_err P Q follows e (Err f) old new fails run = record { run = weaker_moments P Q follows old new run.run; ok = tt; err = run.err }

pub on_err : {T E : Type 0} (result : Result T E) {A : Type 0} → A → OnErr result A
on_err (Ok x) here = tt
on_err (Err e) here = here

pub unchanged_after : (old mid new : FolderStory) → mid ≡ old → IsUnchanged mid new → IsUnchanged old new
unchanged_after old mid new same unchanged = subst (λ story. IsUnchanged story new) same unchanged

-- what is true after a call that was done
pub on_done : {T E : Type 0} (A : Folder → Type 0) (result : Result T E) (old new : FolderStory) (folder : Folder) → A folder → Does result (folder_then folder old) old new → OnOk result (A new.now)
on_done A (Ok x) old new folder here does = subst (λ (story : FolderStory). A story.now) (sym does.ok) here
on_done A (Err e) old new folder here does = tt

-- and after one that failed
pub on_failed : {T E : Type 0} (A : Folder → Type 0) (result : Result T E) (old new done : FolderStory) → A old.now → Does result done old new → OnErr result (A new.now)
on_failed A (Ok x) old new done here does = tt
on_failed A (Err e) old new done here does = subst (λ (story : FolderStory). A story.now) (sym does.err) here

-- ---- the file beside, before the move

-- a change that leaves it a file
pub change_made : (beside : List ℕ) (number : ℕ) (start folder : Folder) (change : Numbered → Numbered) → ((filed : Numbered) → filed.thing.kind ≡ File → (change filed).thing.kind ≡ File) → IsBeside beside number start folder → IsBeside beside number start (with_change folder.created change folder)
change_made beside number start folder change keeps b = subst (IsBeside beside number start) (sym (changed number folder change folder.created b.created)) (change_done beside number start folder (change (folder.things number)) (keeps (folder.things number) b.kind) b)

-- what it is then
change_there : (beside : List ℕ) (number : ℕ) (start folder : Folder) (change : Numbered → Numbered) → IsBeside beside number start folder → (with_change folder.created change folder).things number ≡ change (folder.things number)
change_there beside number start folder change b = ap (λ (new : Folder). new.things number) (changed number folder change folder.created b.created) ∙ thing_there number (change (folder.things number)) folder

module _ (out beside bytes : List ℕ) (is_there : Bool) (number : ℕ) (start : Folder) where
  -- the mode is copied
  copied_is : (folder : Folder) → IsBegun out beside is_there number start folder → (old : ℕ) → start.names out ≡ Some old → mode_copied out folder ≡ with_change folder.created (with_mode (start.things old).thing.mode) folder
  copied_is folder b old stands =
      let other : old ≢ number = λ is. b.file.is_new out (subst (λ one. MayStand out start (Some one)) is (inl (sym stands))) in
      ap (λ at. with_mode_of at folder) (b.file.names out b.apart ∙ stands)
      ∙ ap (λ (filed : Numbered). with_change folder.created (with_mode filed.thing.mode) folder) (b.file.things old other)

  copied_begun : (folder : Folder) → IsBegun out beside is_there number start folder → (old : ℕ) → start.names out ≡ Some old → IsBegun out beside is_there number start (mode_copied out folder)
  copied_begun folder b old stands = subst (IsBegun out beside is_there number start) (sym (copied_is folder b old stands)) (record {
    apart = b.apart;
    ready = b.ready;
    file = change_made beside number start folder (with_mode (start.things old).thing.mode) (λ filed kind. kind) b.file;
    empty = ap (λ (filed : Numbered). filed.thing.bytes) (change_there beside number start folder (with_mode (start.things old).thing.mode) b.file) ∙ b.empty;
  })

  copied_mode : (folder : Folder) → IsBegun out beside is_there number start folder → (old : ℕ) → start.names out ≡ Some old → HasMode out number start (mode_copied out folder)
  copied_mode folder b old stands other is =
      let same : old ≡ other = let both : Some old ≡ Some other = sym stands ∙ is in cc in
      ap (λ (new : Folder). (new.things number).thing.mode) (copied_is folder b old stands)
      ∙ ap (λ (filed : Numbered). filed.thing.mode) (change_there beside number start folder (with_mode (start.things old).thing.mode) b.file)
      ∙ ap (λ old. (start.things old).thing.mode) same

  ready_there : is_there ≡ true → IsReady out start is_there → CanLock out start
  ready_there there ready = subst (IsReady out start) there ready

  pub copy_goes : {T E : Type 0} (result : Result T E) (old new : FolderStory) → is_there ≡ true → IsBegun out beside is_there number start old.now → Does result (folder_then (mode_copied out old.now) old) old new → Goes (IsBegun out beside is_there number start) result old new
  copy_goes result old new there b does =
      let can = ready_there there b.ready in
      goes_by (IsBegun out beside is_there number start) result old new (mode_copied out old.now) b (copied_begun old.now b can.number can.stands) does

  pub copy_gives : {T E : Type 0} (result : Result T E) (old new : FolderStory) → is_there ≡ true → IsBegun out beside is_there number start old.now → Does result (folder_then (mode_copied out old.now) old) old new → OnOk result (HasMode out number start new.now)
  copy_gives result old new there b does =
      let can = ready_there there b.ready in
      on_done (HasMode out number start) result old new (mode_copied out old.now) (copied_mode old.now b can.number can.stands) does

  pub no_mode : (folder : Folder) → is_there ≡ false → IsBegun out beside is_there number start folder → HasMode out number start folder
  no_mode folder there b old stands =
      let ready : start.names out ≡ None = subst (IsReady out start) there b.ready in
      let never : ⊥ = cc in
      absurd never

  -- the content is written
  pub write_goes : {T E : Type 0} (result : Result T E) (old new : FolderStory) → IsBeside beside number start old.now → Writes bytes result old new → Goes (IsBeside beside number start) result old new
  write_goes (Ok x) old new b writes = record {
    run = to (IsBeside beside number start) old old new (content_written bytes old.now) (begins (IsBeside beside number start) old b) writes.ok
        (change_made beside number start old.now (λ file. with_bytes (file.thing.bytes ++ bytes) file) (λ filed kind. kind) b);
    ok = ap (λ story. story.failed) writes.ok;
    err = tt;
  }
  write_goes (Err e) old new b writes = record {
    run = stays (IsBeside beside number start) old (folder_then part old) new
        (to (IsBeside beside number start) old old (folder_then part old) part (begins (IsBeside beside number start) old b) refl (change_made beside number start old.now (with_bytes writes.err.0) (λ filed kind. kind) b))
        (unchanged_failed (folder_then part old) new writes.err.1);
    ok = tt;
    err = ap (λ story. story.failed) writes.err.1;
  }
    where
      part : Folder
      part = with_change old.now.created (with_bytes writes.err.0) old.now

  pub write_gives : {T E : Type 0} (x : T) (old new : FolderStory) → IsBegun out beside is_there number start old.now → HasMode out number start old.now → Writes {T = T} {E = E} bytes (Ok x) old new → IsNew out bytes start (new.now.things number).thing
  write_gives x old new b mode writes = subst (λ (story : FolderStory). IsNew out bytes start (story.now.things number).thing) (sym writes.ok)
      (subst (λ (filed : Numbered). IsNew out bytes start filed.thing) (sym (change_there beside number start old.now (λ file. with_bytes (file.thing.bytes ++ bytes) file) b.file)) (record {
        kind = b.file.kind;
        bytes_are = ap (λ before. before ++ bytes) b.empty;
        mode = mode;
      }))

  -- the file is synced
  pub sync_goes : {T E : Type 0} (result : Result T E) (old new : FolderStory) → IsBeside beside number start old.now → Does result (folder_then (file_synced old.now) old) old new → Goes (IsBeside beside number start) result old new
  sync_goes result old new b does = goes_by (IsBeside beside number start) result old new (file_synced old.now) b (change_made beside number start old.now (λ file. record file { is_synced = true }) (λ filed kind. kind) b) does

  pub sync_gives : {T E : Type 0} (result : Result T E) (old new : FolderStory) → IsBeside beside number start old.now → IsNew out bytes start (old.now.things number).thing → Does result (folder_then (file_synced old.now) old) old new → OnOk result (IsFilled out bytes number start new.now)
  sync_gives result old new b is_new does = on_done (IsFilled out bytes number start) result old new (file_synced old.now) (record {
    thing = subst (λ (filed : Numbered). IsNew out bytes start filed.thing) (sym there) is_new;
    synced = ap (λ (filed : Numbered). filed.is_synced) there;
  }) does
    where
      there : ((file_synced old.now).things number) ≡ record (old.now.things number) { is_synced = true }
      there = change_there beside number start old.now (λ file. record file { is_synced = true }) b

-- ---- the move, and what follows it

module _ (out beside bytes : List ℕ) (number : ℕ) (start : Folder) (apart : out ≢ beside) where
  pub move_goes : {T E : Type 0} (result : Result T E) (old new : FolderStory) → IsBeside beside number start old.now → IsFilled out bytes number start old.now → Does result (folder_then (moved beside out old.now) old) old new → Goes (IsBetween out beside bytes start) result old new
  move_goes result old new b filled does = goes_by (IsBetween out beside bytes start) result old new (moved beside out old.now)
      (beside_between out beside bytes number start old.now apart b)
      (moved_between out beside bytes number start (moved beside out old.now) apart (move_done out beside bytes number start old.now apart b filled)) does

  pub move_gives : {T E : Type 0} (result : Result T E) (old new : FolderStory) → IsBeside beside number start old.now → IsFilled out bytes number start old.now → Does result (folder_then (moved beside out old.now) old) old new → OnOk result (IsMoved out beside bytes number start new.now)
  move_gives result old new b filled does = on_done (IsMoved out beside bytes number start) result old new (moved beside out old.now) (move_done out beside bytes number start old.now apart b filled) does

  -- the file beside is removed
  pub remove_run : {T E : Type 0} (result : Result T E) (first mid new : FolderStory) → AtEachMoment (IsBetween out beside bytes start) first mid → IsBeside beside number start mid.now → Does result (folder_then (with_name beside None mid.now) mid) mid new → AtEachMoment (IsBetween out beside bytes start) first new
  remove_run result first mid new run b does = does_on (IsBetween out beside bytes start) result first mid new (with_name beside None mid.now) run (gone_between out beside bytes number start mid.now apart b) does

  pub remove_gives : {T E : Type 0} (result : Result T E) (old mid new : FolderStory) → IsBeside beside number start mid.now → mid.failed ≡ old.failed + 1 → Does result (folder_then (with_name beside None mid.now) mid) mid new → IsNotReplaced out bytes (record old { now = start }) new
  remove_gives (Ok x) old mid new b failed does = inl (subst (λ (story : FolderStory). IsAsBefore out start story.now) (sym does.ok) (removed out beside bytes number start mid.now apart b))
  remove_gives (Err e) old mid new b failed does = inr (inr (
    ap (λ story. story.failed) does.err ∙ ap (λ failed. failed + 1) failed ∙ (let two : old.failed + 1 + 1 ≡ old.failed + 2 = omega arith in two),
    subst (λ (story : FolderStory). KeepsName out start story.now) (sym does.err) (between_keeps out beside bytes number start mid.now apart b),
  ))

-- ---- the file is kept

module _ (out beside bytes : List ℕ) (number : ℕ) (start : Folder) (apart : out ≢ beside) where
  again_goes : {T E : Type 0} (result : Result T E) (old new : FolderStory) → IsMoved out beside bytes number start old.now → Does result (folder_then (file_synced old.now) old) old new → Goes (IsMoved out beside bytes number start) result old new
  again_goes result old new m does = goes_by (IsMoved out beside bytes number start) result old new (file_synced old.now) m (moved_synced out beside bytes number start old.now apart m).0 does

  names_goes : {T E : Type 0} (result : Result T E) (old new : FolderStory) → IsMoved out beside bytes number start old.now → Does result (folder_then (folder_synced old.now) old) old new → Goes (IsMoved out beside bytes number start) result old new
  names_goes result old new m does = goes_by (IsMoved out beside bytes number start) result old new (folder_synced old.now) m (names_synced out beside bytes number start old.now apart m) does

  pub kept_lost : {T E U F : Type 0} (e : E) (result : Result U F) (old new : FolderStory) → IsErr result → IsMoved out beside bytes number start old.now → Does {T = T} {E = E} (Err e) (folder_then (file_synced old.now) old) old new → Goes (IsMoved out beside bytes number start) result old new
  kept_lost e result old new fails m does = goes_err (IsMoved out beside bytes number start) (IsMoved out beside bytes number start) (λ folder m. m) e result old new fails (again_goes (Err e) old new m does)

  again : {T E : Type 0} (x : T) (old mid : FolderStory) → IsMoved out beside bytes number start old.now → Does {T = T} {E = E} (Ok x) (folder_then (file_synced old.now) old) old mid → IsMoved out beside bytes number start mid.now × ((mid.now.things number).is_synced ≡ true)
  again x old mid m does = subst (λ (story : FolderStory). IsMoved out beside bytes number start story.now × ((story.now.things number).is_synced ≡ true)) (sym does.ok) (moved_synced out beside bytes number start old.now apart m)

  pub kept_goes : {T E U F : Type 0} (x : T) (result : Result U F) (old mid new : FolderStory) → IsMoved out beside bytes number start old.now → Does {T = T} {E = E} (Ok x) (folder_then (file_synced old.now) old) old mid → Does result (folder_then (folder_synced mid.now) mid) mid new → Goes (IsMoved out beside bytes number start) result old new
  kept_goes x result old mid new m first second = goes_then (IsMoved out beside bytes number start) x result old mid new (again_goes (Ok x) old mid m first) (names_goes result mid new (again x old mid m first).0 second)

  pub kept_gives : {T E U F : Type 0} (x : T) (result : Result U F) (old mid new : FolderStory) → IsMoved out beside bytes number start old.now → Does {T = T} {E = E} (Ok x) (folder_then (file_synced old.now) old) old mid → Does result (folder_then (folder_synced mid.now) mid) mid new → OnOk result (IsReplaced out bytes start new.now)
  kept_gives x result old mid new m first second =
      let moved_there = again x old mid m first in
      on_done (IsReplaced out bytes start) result mid new (folder_synced mid.now) (all_synced out beside bytes number start mid.now apart moved_there.0 moved_there.1) second

  -- moved and kept
  pub put_run : {T E U F : Type 0} (x : T) (result : Result U F) (old mid new : FolderStory) → Goes {T = T} {E = E} (IsBetween out beside bytes start) (Ok x) old mid → Goes (IsMoved out beside bytes number start) result mid new → AtEachMoment (IsBetween out beside bytes start) old new
  put_run x result old mid new first second = then_run (IsBetween out beside bytes start) old mid new first.run
      (weaker_moments (IsMoved out beside bytes number start) (IsBetween out beside bytes start) (λ folder m. moved_between out beside bytes number start folder apart m) mid new second.run)

  pub put_lacks : {T E U F : Type 0} (x : T) (result : Result U F) (old mid new : FolderStory) → Goes {T = T} {E = E} (IsBetween out beside bytes start) (Ok x) old mid → Goes (IsMoved out beside bytes number start) result mid new → OnErr result (IsNotReplaced out bytes (record old { now = start }) new)
  put_lacks x (Ok y) old mid new first second = tt
  put_lacks x (Err e) old mid new first second = inr (inl (
    second.err ∙ ap (λ failed. failed + 1) first.ok,
    moved_stands out beside bytes number start new.now apart (at_end (IsMoved out beside bytes number start) mid new second.run),
  ))

-- ---- the file is filled

module _ (out beside bytes : List ℕ) (is_there : Bool) (number : ℕ) (start : Folder) where
  pub fill_kept : {T E U F : Type 0} (e : E) (result : Result U F) (old new : FolderStory) → IsErr result → Goes {T = T} {E = E} (IsBegun out beside is_there number start) (Err e) old new → Goes (IsBeside beside number start) result old new
  fill_kept e result old new fails run = goes_err (IsBegun out beside is_there number start) (IsBeside beside number start) (λ folder b. b.file) e result old new fails run

  begun_then : {T E : Type 0} (x : T) (old mid : FolderStory) → Goes {T = T} {E = E} (IsBegun out beside is_there number start) (Ok x) old mid → Goes {T = T} {E = E} (IsBeside beside number start) (Ok x) old mid
  begun_then x old mid run = goes_weaker (IsBegun out beside is_there number start) (IsBeside beside number start) (λ folder b. b.file) (Ok x) old mid run

  begun_end : {T E : Type 0} (x : T) (old mid : FolderStory) → Goes {T = T} {E = E} (IsBegun out beside is_there number start) (Ok x) old mid → IsBegun out beside is_there number start mid.now
  begun_end x old mid run = at_end (IsBegun out beside is_there number start) old mid run.run

  filling : {T E U F : Type 0} (x : T) (result : Result U F) (old mid new : FolderStory) → Goes {T = T} {E = E} (IsBegun out beside is_there number start) (Ok x) old mid → Writes bytes result mid new → Goes (IsBeside beside number start) result old new
  filling x result old mid new run writes = goes_then (IsBeside beside number start) x result old mid new (begun_then x old mid run) (write_goes out beside bytes is_there number start result mid new (begun_end x old mid run).file writes)

  pub fill_broken : {T E U F V G : Type 0} (x : T) (e : F) (result : Result V G) (old mid new : FolderStory) → IsErr result → Goes {T = T} {E = E} (IsBegun out beside is_there number start) (Ok x) old mid → Writes {T = U} {E = F} bytes (Err e) mid new → Goes (IsBeside beside number start) result old new
  fill_broken x e result old mid new fails run writes = goes_err (IsBeside beside number start) (IsBeside beside number start) (λ folder b. b) e result old new fails (filling x (Err e) old mid new run writes)

  pub fill_goes : {T E U F V G : Type 0} (x : T) (y : U) (result : Result V G) (old mid later new : FolderStory) → Goes {T = T} {E = E} (IsBegun out beside is_there number start) (Ok x) old mid → Writes {T = U} {E = F} bytes (Ok y) mid later → Does result (folder_then (file_synced later.now) later) later new → Goes (IsBeside beside number start) result old new
  fill_goes x y result old mid later new run writes does =
      let filled = filling x (Ok y) old mid later run writes in
      goes_then (IsBeside beside number start) y result old later new filled (sync_goes out beside bytes is_there number start result later new (at_end (IsBeside beside number start) old later filled.run) does)

  pub fill_gives : {T E U F V G : Type 0} (x : T) (y : U) (result : Result V G) (old mid later new : FolderStory) → Goes {T = T} {E = E} (IsBegun out beside is_there number start) (Ok x) old mid → HasMode out number start mid.now → Writes {T = U} {E = F} bytes (Ok y) mid later → Does result (folder_then (file_synced later.now) later) later new → OnOk result (IsFilled out bytes number start new.now)
  fill_gives x y result old mid later new run mode writes does =
      let filled = filling x (Ok y) old mid later run writes in
      sync_gives out beside bytes is_there number start result later new (at_end (IsBeside beside number start) old later filled.run)
      (write_gives out beside bytes is_there number start y mid later (begun_end x old mid run) mode writes) does

-- ---- the whole

pub between_start : (out beside bytes : List ℕ) (start : Folder) → IsBetween out beside bytes start start
between_start out beside bytes start = record {
  out_is = record { now = inl refl; cut = λ whole left is. inl is };
  others = λ name differ apart. record { now = refl; cut = λ left is. is };
}

module _ (out : List ℕ) (other : Option (List ℕ)) (is_there : Bool) (beside bytes : List ℕ) (old mid : FolderStory) (p : IsPrepared out other is_there beside old mid) where
  pub prepared_begun : IsBegun out beside is_there p.created.number old.now mid.now
  prepared_begun = subst (λ (story : FolderStory). IsBegun out beside is_there p.created.number old.now story.now) (sym p.created.story) (record {
    apart = p.apart;
    ready = p.ready;
    file = creation_done beside p.created.number p.created.mode old.now p.created.is_new p.created.is_free;
    empty = ap (λ (filed : Numbered). filed.thing.bytes) (thing_there p.created.number (empty_file p.created.mode) (with_name beside (Some p.created.number) old.now));
  })

  pub prepared_run : (new : FolderStory) → AtEachMoment (IsBetween out beside bytes old.now) mid new → AtEachMoment (IsBetween out beside bytes old.now) old new
  prepared_run new run = then_run (IsBetween out beside bytes old.now) old mid new
      (to (IsBetween out beside bytes old.now) old old mid (after_creation beside p.created.number p.created.mode old.now) (begins (IsBetween out beside bytes old.now) old (between_start out beside bytes old.now)) p.created.story
      (beside_between out beside bytes p.created.number old.now _ p.apart (creation_done beside p.created.number p.created.mode old.now p.created.is_new p.created.is_free)))
      run

  pub prepared_lacks : (new : FolderStory) → IsNotReplaced out bytes (record mid { now = old.now }) new → IsNotReplaced out bytes old new
  prepared_lacks new lacks = subst (λ (story : FolderStory). IsNotReplaced out bytes (record story { now = old.now }) new) p.created.story lacks

  pub prepared_lost : {T E : Type 0} (result : Result T E) (new : FolderStory) → OnErr result (IsNotReplaced out bytes (record mid { now = old.now }) new) → OnErr result (IsNotReplaced out bytes old new)
  prepared_lost (Ok x) new lost = tt
  prepared_lost (Err e) new lost = prepared_lacks new lost

  pub prepared_failed : {T E : Type 0} (A : E → Type 0) (result : Result T E) (new : FolderStory) → OnErr result (mid.failed < new.failed) → IfErr result (λ fault. FailsOr (A fault) old new)
  prepared_failed A (Ok x) new more = tt
  prepared_failed A (Err e) new more = inl (let same = ap (λ story. story.failed) p.created.story in omega arith)

  pub prepared_not_refused : IsRefused out other old.now → ⊥
  prepared_not_refused refused = by_why is_there p.ready refused.why
    where
      by_why : (is_there : Bool) → IsReady out old.now is_there → ((old.now.names out ≡ Some refused.number) × ((old.now.things refused.number).thing.kind ≢ File)) ⊎ ((old.now.names out ≡ Some refused.number) × ((old.now.things refused.number).is_locked ≡ true)) ⊎ ((name : List ℕ) × (other ≡ Some name) × (old.now.names name ≡ Some refused.number)) → ⊥
      by_why true can (inl why) = let same : can.number ≡ refused.number = let both : Some can.number ≡ Some refused.number = sym can.stands ∙ why.0 in cc in why.1 (subst (λ number. (old.now.things number).thing.kind ≡ File) same can.is_file)
      by_why true can (inr (inl why)) =
          let same : can.number ≡ refused.number = let both : Some can.number ≡ Some refused.number = sym can.stands ∙ why.0 in cc in
          let free = subst (λ number. (old.now.things number).is_locked ≡ false) same can.is_free in
          let locked = why.1 in
          let never : ⊥ = cc in
          never
      by_why false none (inl why) = let stands = why.0 in let never : ⊥ = cc in never
      by_why false none (inr (inl why)) = let stands = why.0 in let never : ⊥ = cc in never
      by_why true can (inr (inr why)) = let none = p.alone why.0 why.1 in let stands = why.2 in let never : ⊥ = cc in never
      by_why false none (inr (inr why)) = let none = p.alone why.0 why.1 in let stands = why.2 in let never : ⊥ = cc in never

-- ---- what comes before

-- a call that only looks, and failed
pub looked : {T E : Type 0} (e : E) (done old new : FolderStory) → Does {T = T} {E = E} (Err e) done old new → IsUnchanged old new
looked e done old new does = unchanged_failed old new does.err

pub either : {T E : Type 0} (result : Result T E) (old new : FolderStory) → Does result old old new → IsUnchanged old new
either (Ok x) old new does = unchanged_same old new does.ok
either (Err e) old new does = unchanged_failed old new does.err

-- a file is created under one name, or that is not free
pub creates_ok : {E : Type 0} (out beside : List ℕ) (result : Result Bool E) (old new : FolderStory) → out ≢ beside → Creates beside result old new → IfOk result (λ is_free. CreatesApart out beside is_free old new)
creates_ok out beside (Ok true) old new apart creates = (apart, creates.ok)
creates_ok out beside (Ok false) old new apart creates = (creates.ok.0, inr creates.ok.1)
creates_ok out beside (Err e) old new apart creates = tt

pub creates_err : {E : Type 0} (beside : List ℕ) (result : Result Bool E) (old new : FolderStory) → Creates beside result old new → OnErr result (IsUnchanged old new)
creates_err beside (Ok x) old new creates = tt
creates_err beside (Err e) old new creates = unchanged_failed old new creates.err

-- a failed call more
more : (old new : FolderStory) → new ≡ call_failed old → old.failed < new.failed
more old new is = let failed = ap (λ story. story.failed) is in omega arith

pub creates_failed : {E : Type 0} (beside : List ℕ) (result : Result Bool E) (old new : FolderStory) → Creates beside result old new → OnErr result (old.failed < new.failed)
creates_failed beside (Ok x) old new creates = tt
creates_failed beside (Err e) old new creates = more old new creates.err

pub does_failed : {T E : Type 0} (result : Result T E) (old new done : FolderStory) → Does result done old new → OnErr result (old.failed < new.failed)
does_failed (Ok x) old new done does = tt
does_failed (Err e) old new done does = more old new does.err

pub fails : {T E A : Type 0} (e : E) (done old new : FolderStory) → Does {T = T} {E = E} (Err e) done old new → FailsOr A old new
fails e done old new does = inl (more old new does.err)

-- what follows from an error of a callee, which is handed on
pub err_as : {U F : Type 0} (A : F → Type 0) (result : Result U F) (e : F) → IsErrAnd result (λ f. f ≡ e) → A e → IfErr result A
err_as A (Ok x) e handed here = tt
err_as A (Err f) e handed here = subst A (sym handed) here

pub if_err : {U F : Type 0} {A : F → Type 0} (result : Result U F) → ((fault : F) → A fault) → IfErr result A
if_err (Ok x) all = tt
if_err (Err f) all = all f

-- after calls that changed nothing
pub fails_after : {A : Type 0} (old mid new : FolderStory) → mid ≡ old → FailsOr A mid new → FailsOr A old new
fails_after old mid new same (inl more) = inl (subst (λ (story : FolderStory). story.failed < new.failed) same more)
fails_after old mid new same (inr here) = inr here

pub cause_refused : (out : List ℕ) (other : Option (List ℕ)) (fault : PlaceFault) (old mid new : FolderStory) → mid ≡ old → FailsOr (IsRefused out other mid.now) mid new → HasCause out other fault old new
cause_refused out other fault old mid new same (inl more) = inl (subst (λ (story : FolderStory). story.failed < new.failed) same more)
cause_refused out other fault old mid new same (inr refused) = inr (inl (subst (λ (story : FolderStory). IsRefused out other story.now) same refused))

pub cause_taken : (out : List ℕ) (other : Option (List ℕ)) (fault : PlaceFault) (old mid new : FolderStory) → mid ≡ old → FailsOr (AreTaken out mid.now ⊎ (fault ≡ Memory)) mid new → HasCause out other fault old new
cause_taken out other fault old mid new same (inl more) = inl (subst (λ (story : FolderStory). story.failed < new.failed) same more)
cause_taken out other fault old mid new same (inr (inl taken)) = inr (inr (inl (subst (λ (story : FolderStory). AreTaken out story.now) same taken)))
cause_taken out other fault old mid new same (inr (inr memory)) = inr (inr (inr memory))

-- a name that has a kind stands for a number
kind_number : (name : List ℕ) (folder : Folder) (kind : Kind) → kind_at name folder ≡ Some kind → (number : ℕ) × (folder.names name ≡ Some number) × ((folder.things number).thing.kind ≡ kind)
kind_number name folder kind found = by_at (folder.names name) refl
  where
    by_at : (at : Option ℕ) → folder.names name ≡ at → (number : ℕ) × (folder.names name ≡ Some number) × ((folder.things number).thing.kind ≡ kind)
    by_at None is = let never : ⊥ = let nothing : kind_at name folder ≡ None = rw is refl in cc in absurd never
    by_at (Some number) is =
        let here : kind_at name folder ≡ Some (folder.things number).thing.kind = rw is refl in
        (number, is, let same : (folder.things number).thing.kind ≡ kind = cc in same)

pub refused_other : (out : List ℕ) (other : List ℕ) (folder : Folder) (kind : Kind) → Some kind ≡ kind_at other folder → IsRefused out (Some other) folder
refused_other out other folder kind found =
    let there = kind_number other folder kind (sym found) in
    record { number = there.0; why = inr (inr (other, refl, there.1)) }

pub refused_kind : (out : List ℕ) (other : Option (List ℕ)) (folder : Folder) → Some Other ≡ kind_at out folder → IsRefused out other folder
refused_kind out other folder found =
    let there = kind_number out folder Other (sym found) in
    let kind = there.2 in
    record { number = there.0; why = inl (there.1, λ is. let never : ⊥ = cc in never) }

-- one name more is taken
pub taken_more : (out name : List ℕ) (at : ℕ) (is_made : Bool) (start old new : FolderStory) → old ≡ start → name ≡ name_beside at → is_made ≡ false → CreatesApart out name is_made old new
    → ((number : ℕ) → number < at → (out ≡ name_beside number) ⊎ (start.now.names (name_beside number) ≢ None))
    → (new ≡ start) × ((number : ℕ) → number < at + 1 → (out ≡ name_beside number) ⊎ (start.now.names (name_beside number) ≢ None))
taken_more out name at is_made start old new same named not_made creates taken =
    let not_created = subst (λ is_made. CreatesApart out name is_made old new) not_made creates in
    let here = subst (λ (story : FolderStory). (out ≡ name) ⊎ (story.now.names name ≢ None)) same not_created.1 in
    (not_created.0 ∙ same, below_more _ _ taken (subst (λ name. (out ≡ name) ⊎ (start.now.names name ≢ None)) named here))

pub created_beside : (out name : List ℕ) (at : ℕ) (is_made : Bool) (start old new : FolderStory) → old ≡ start → name ≡ name_beside at → at < most_names → is_made ≡ true → CreatesApart out name is_made old new → CreatesBeside out name start new
created_beside out name at is_made start old new same named below made creates = record {
  number = at;
  below = below;
  named = named;
  creates = subst (λ story. CreatesApart out name true story new) same (subst (λ is_made. CreatesApart out name is_made old new) made creates);
}

pub other_name : (out beside : List ℕ) → bytes_eq out beside ≡ false → out ≢ beside
other_name out beside differ is = both_ways (bytes_eq out beside) differ ((bytes_eq-Decides out beside).1 is)

pub prepared : (out : List ℕ) (other : Option (List ℕ)) (is_there : Bool) (beside : List ℕ) (old first second third new : FolderStory) → first ≡ old → second ≡ first → third ≡ second
    → ((name : List ℕ) → other ≡ Some name → old.now.names name ≡ None) → IsReady out first.now is_there → CreatesBeside out beside third new → IsPrepared out other is_there beside old new
prepared out other is_there beside old first second third new one two three alone ready creates = record {
  number = creates.number;
  below = creates.below;
  named = creates.named;
  created = subst (λ story. HasCreated beside story new) (three ∙ two ∙ one) creates.creates.1;
  apart = creates.creates.0;
  ready = subst (λ (story : FolderStory). IsReady out story.now is_there) one ready;
  alone = alone;
}

-- the file beside was removed, or that failed too
pub removed_failed : {T E : Type 0} (result : Result T E) (done : Folder) (old mid new : FolderStory) → mid.failed ≡ old.failed + 1 → Does result (folder_then done mid) mid new → old.failed < new.failed
removed_failed (Ok x) done old mid new failed does = let same = ap (λ story. story.failed) does.ok in omega arith
removed_failed (Err e) done old mid new failed does = let one = ap (λ story. story.failed) does.err in omega arith

pub kept_failed : {U F : Type 0} (P : Folder → Type 0) (result : Result U F) (old mid new : FolderStory) → mid.failed ≡ old.failed → Goes P result mid new → OnErr result (old.failed < new.failed)
kept_failed P (Ok x) old mid new same run = tt
kept_failed P (Err e) old mid new same run = let one = run.err in omega arith

pub as_before : (out : List ℕ) (old new : FolderStory) → IsUnchanged old new → IsAsBefore out old.now new.now
as_before out old new same = subst (IsAsBefore out old.now) (sym same.now) (record {
  out_is = record { now = refl; cut = λ left is. is };
  names = λ name. refl;
})

pub unchanged_run : (out beside bytes : List ℕ) (old new : FolderStory) → IsUnchanged old new → AtEachMoment (IsBetween out beside bytes old.now) old new
unchanged_run out beside bytes old new same = stays (IsBetween out beside bytes old.now) old old new (begins (IsBetween out beside bytes old.now) old (between_start out beside bytes old.now)) same
