-- How a run of calls grows: what is true at every moment so far is true at every moment of one call more.
use Rattle.std.proofs.Common.{◌≡◌, ⊎_elim, ℕ, List, [], ◌∷◌, ◌++◌, length, take, Result, Ok, Err, refl, sym, ◌∙◌, ap, subst, append_assoc}
use Rattle.std.specs.Prelude.{All}
use Rattle.std.proofs.lemmas.List.Elements.{All-nil, All-cons, All-head, All-append, All-weaker}
use Rattle.fit_disk.specs.declared.disk.Which.{Which}
use Rattle.fit_disk.specs.Content.{over}
use Rattle.fit_disk.specs.Stored.{at_rest, write_begun, cut_begun}
use Rattle.fit_disk.specs.State.{State, Contents, file_of, with_file, LeavesOnly}
use Rattle.fit_disk.specs.Story.{Story, state_then, seen_of, Throughout}
use Rattle.fit_disk.specs.Calls.{Wrote, Shortened, Synced}

-- what follows from P is true wherever P is
pub weaker : (P Q : Contents → Type 0) → ((c : Contents) → P c → Q c) → (old new : Story) → Throughout P old new → Throughout Q old new
weaker P Q follows old new run = record {
  since = run.since;
  states = run.states;
  each = All-weaker (LeavesOnly P) (LeavesOnly Q) (λ state leaves c left. follows c (leaves c left)) run.since run.each;
  start = λ c left. follows c (run.start c left);
}

module _ (P : Contents → Type 0) where
  -- before the first call
  pub begins : (old : Story) → LeavesOnly P old.now → Throughout P old old
  begins old here = record { since = []; states = refl; each = All-nil (LeavesOnly P); start = here }

  -- one more state
  pub goes_on : (old mid : Story) (state : State) → Throughout P old mid → LeavesOnly P state → Throughout P old (state_then state mid)
  goes_on old mid state run here = record {
    since = state ∷ run.since;
    states = ap (λ (states : List State). state ∷ states) run.states;
    each = All-cons (LeavesOnly P) state run.since here run.each;
    start = run.start;
  }

  -- a call that leaves the story as it was
  pub stays : (old mid new : Story) → Throughout P old mid → new ≡ mid → Throughout P old new
  stays old mid new run same = subst (λ story. Throughout P old story) (sym same) run

  -- one run after another
  pub then_run : (old mid new : Story) → Throughout P old mid → Throughout P mid new → Throughout P old new
  then_run old mid new first second = record {
    since = second.since ++ first.since;
    states = second.states ∙ ap (λ (states : List State). second.since ++ states) first.states ∙ sym (append_assoc second.since first.since (old.now ∷ old.past));
    each = All-append (LeavesOnly P) second.since first.since second.each first.each;
    start = first.start;
  }

  last_has : (since : List State) (old new : Story) → new.now ∷ new.past ≡ since ++ (old.now ∷ old.past)
      → All (LeavesOnly P) since → LeavesOnly P old.now → LeavesOnly P new.now
  last_has [] old new states each start = let same : new.now ≡ old.now = cc in subst (LeavesOnly P) (sym same) start
  last_has (state ∷ since) old new states each start = let same : new.now ≡ state = cc in subst (LeavesOnly P) (sym same) (All-head (LeavesOnly P) state since each)

  -- it is true in the last state too
  pub at_end : (old new : Story) → Throughout P old new → LeavesOnly P new.now
  at_end old new run = last_has run.since old new run.states run.each run.start

  -- one more state, which the story has reached
  to : (old mid new : Story) (state : State) → Throughout P old mid → new ≡ state_then state mid → LeavesOnly P state → Throughout P old new
  to old mid new state run is here = stays old (state_then state mid) new (goes_on old mid state run here) is

  module _ (which : Which) (old mid new : Story) (run : Throughout P old mid) where
    -- a write, whole, in part or not at all
    pub wrote_on : {T E : Type 0} (at : ℕ) (bytes : List ℕ) (result : Result T E)
        → ((now : List ℕ) → LeavesOnly P (with_file which (write_begun at (length bytes) now (file_of which mid.now)) mid.now)) → Wrote which at bytes result mid new → Throughout P old new
    wrote_on at bytes (Ok x) leaves wrote = to old mid new _ run wrote.ok (leaves (over at bytes (seen_of which mid)))
    wrote_on at bytes (Err e) leaves wrote = ⊎_elim (λ same. stays old mid new run same) (λ part. to old mid new _ run part.2 (leaves part.0)) wrote.err

    -- a cut, whole, in part or not at all
    pub shortened_on : {T E : Type 0} (len : ℕ) (result : Result T E)
        → ((now : List ℕ) → LeavesOnly P (with_file which (cut_begun len now (file_of which mid.now)) mid.now)) → Shortened which len result mid new → Throughout P old new
    shortened_on len (Ok x) leaves shortened = to old mid new _ run shortened.ok (leaves (take len (seen_of which mid)))
    shortened_on len (Err e) leaves shortened = ⊎_elim (λ same. stays old mid new run same) (λ part. to old mid new _ run part.2 (leaves part.0)) shortened.err

    -- a sync, done or failed
    pub synced_on : {T E : Type 0} (result : Result T E)
        → LeavesOnly P (with_file which (at_rest (seen_of which mid)) mid.now) → Synced which result mid new
        → Throughout P old new
    synced_on (Ok x) leaves synced = to old mid new _ run synced.ok leaves
    synced_on (Err e) leaves synced = stays old mid new run synced.err
