-- How a run of calls grows: what is true at every moment so far is true at every moment of one call more.
use Rattle.std.proofs.Common.{◌≡◌, List, [], ◌∷◌, ◌++◌, Result, Ok, Err, refl, sym, ◌∙◌, ap, subst, append_assoc}
use Rattle.std.specs.Prelude.{All}
use Rattle.std.proofs.lemmas.List.Elements.{All-nil, All-cons, All-head, All-append, All-weaker}
use Rattle.fit_places.specs.Folder.{Folder}
use Rattle.fit_places.specs.FolderStory.{FolderStory, folder_then, call_failed, IsUnchanged, AtEachMoment}
use Rattle.fit_places.specs.Calls.{Does}

-- a call that failed
pub unchanged_failed : (old new : FolderStory) → new ≡ call_failed old → IsUnchanged old new
unchanged_failed old new is = record { now = ap (λ story. story.now) is; past = ap (λ story. story.past) is }

pub unchanged_same : (old new : FolderStory) → new ≡ old → IsUnchanged old new
unchanged_same old new is = record { now = ap (λ story. story.now) is; past = ap (λ story. story.past) is }

-- what follows from P is true wherever P is
pub weaker_moments : (P Q : Folder → Type 0) → ((folder : Folder) → P folder → Q folder) → (old new : FolderStory) → AtEachMoment P old new → AtEachMoment Q old new
weaker_moments P Q follows old new run = record {
  since = run.since;
  folders = run.folders;
  each = All-weaker P Q follows run.since run.each;
  start = follows old.now run.start;
}

module _ (P : Folder → Type 0) where
  -- before the first call
  pub begins : (old : FolderStory) → P old.now → AtEachMoment P old old
  begins old here = record { since = []; folders = refl; each = All-nil P; start = here }

  -- one more folder
  pub goes_on : (old mid : FolderStory) (folder : Folder) → AtEachMoment P old mid → P folder → AtEachMoment P old (folder_then folder mid)
  goes_on old mid folder run here = record {
    since = folder ∷ run.since;
    folders = ap (λ (folders : List Folder). folder ∷ folders) run.folders;
    each = All-cons P folder run.since here run.each;
    start = run.start;
  }

  -- calls that change nothing
  pub stays : (old mid new : FolderStory) → AtEachMoment P old mid → IsUnchanged mid new → AtEachMoment P old new
  stays old mid new run same = record {
    since = run.since;
    folders = (let both : new.now ∷ new.past ≡ mid.now ∷ mid.past = cc in both) ∙ run.folders;
    each = run.each;
    start = run.start;
  }

  -- one run after another
  pub then_run : (old mid new : FolderStory) → AtEachMoment P old mid → AtEachMoment P mid new → AtEachMoment P old new
  then_run old mid new first second = record {
    since = second.since ++ first.since;
    folders = second.folders ∙ ap (λ (folders : List Folder). second.since ++ folders) first.folders ∙ sym (append_assoc second.since first.since (old.now ∷ old.past));
    each = All-append P second.since first.since second.each first.each;
    start = first.start;
  }

  last_has : (since : List Folder) (old new : FolderStory) → new.now ∷ new.past ≡ since ++ (old.now ∷ old.past) → All P since → P old.now → P new.now
  last_has [] old new folders each start = let same : new.now ≡ old.now = cc in subst P (sym same) start
  last_has (folder ∷ since) old new folders each start = let same : new.now ≡ folder = cc in subst P (sym same) (All-head P folder since each)

  -- it is true in the end too
  pub at_end : (old new : FolderStory) → AtEachMoment P old new → P new.now
  at_end old new run = last_has run.since old new run.folders run.each run.start

  -- a folder that the story has reached
  pub to : (old mid new : FolderStory) (folder : Folder) → AtEachMoment P old mid → new ≡ folder_then folder mid → P folder → AtEachMoment P old new
  to old mid new folder run is here = subst (λ story. AtEachMoment P old story) (sym is) (goes_on old mid folder run here)

  -- a call, done or failed
  pub does_on : {T E : Type 0} (result : Result T E) (old mid new : FolderStory) (folder : Folder) → AtEachMoment P old mid → P folder → Does result (folder_then folder mid) mid new → AtEachMoment P old new
  does_on (Ok x) old mid new folder run here does = to old mid new folder run does.ok here
  does_on (Err e) old mid new folder run here does = stays old mid new run (unchanged_failed mid new does.err)
