-- What is left of a host that is cut off satisfies whatever is true at every moment of all its calls.
use Rattle.std.proofs.Common.{◌≡◌, ◌⊎◌, inl, inr, ◌==◌, ℕ, List, [], ◌∷◌, ◌++◌, length, take, drop, Bool, true, false, refl, sym, ap, ◌∙◌, subst, append_assoc, if◌then◌else◌, arith}
use Rattle.std.specs.Prelude.{All, Contains}
use Rattle.std.specs.List.{fold}
use Rattle.std.proofs.lemmas.List.{length-take, length-drop, take-append-drop, append_cancel_right}
use Rattle.std.proofs.lemmas.List.Elements.{All-head, All-drop, All-contains, Contains-append_right}
use Rattle.std.proofs.lemmas.List.Sums.{fold-append}
use Rattle.fit_disk.specs.declared.disk.Which.{Which}
use Rattle.fit_disk.specs.declared.disk.Which.TheVariants.{Data, Journal}
use Rattle.fit_disk.specs.Calls.{PartlyWrote, PartlyShortened}
use Rattle.fit_disk.specs.Content.{over}
use Rattle.fit_disk.specs.State.{State, Contents, BothLeft, LeavesOnly, with_file}
use Rattle.fit_disk.specs.Stored.{Stored, Left, IsOutside, write_begun, cut_begun}
use Rattle.fit_disk.specs.Story.{Story, Throughout}
use Rattle.fit_disk.specs.Changes.{after_write, after_cut}
use Rattle.fit_plan.specs.declared.calls.Call.{Call}
use Rattle.fit_plan.specs.Between.{states_of, GoesOnTo, IsLeftBetween}
use Rattle.fit_plan.specs.Carried.{which_of, carried}
use Rattle.fit_plan.specs.CutOff.{PartlyDone, IsCutOff, done_first}
use Rattle.fit_plan.specs.Planned.{call_bytes, done_by}
use Rattle.fit_plan.specs.Within.{IsCallWithin}

past_of : (is_write is_cut : Bool) (x y z : Story) (past : List State) → x.past ≡ past → y.past ≡ past → z.past ≡ past
    → (if is_write then x else if is_cut then y else z).past ≡ past
past_of true is_cut x y z past first second third = first
past_of false true x y z past first second third = second
past_of false false x y z past first second third = third

-- a call adds one state
one_state : (kind : ℕ) (which : Which) (at : ℕ) (bytes : List ℕ) (story : Story) → (carried kind which at bytes story).past ≡ states_of story
one_state kind which at bytes story = past_of (kind == 1) (kind == 2) _ _ _ (states_of story) refl refl refl

goes_on : (bytes : List ℕ) (calls : List Call) (story : Story) → GoesOnTo story (fold (done_by bytes) story calls)
goes_on bytes [] story = ([], refl)
goes_on bytes (call ∷ calls) story =
    let next : Story = done_by bytes story call in
    let rest : GoesOnTo next (fold (done_by bytes) next calls) = goes_on bytes calls next in
    let before : states_of next ≡ (next.now ∷ []) ++ states_of story = ap (λ (past : List State). next.now ∷ past) (one_state call.kind (which_of call.file) call.at (call_bytes bytes call) story) in
    (rest.0 ++ (next.now ∷ []), rest.1 ∙ ap (λ (states : List State). rest.0 ++ states) before ∙ sym (append_assoc rest.0 (next.now ∷ []) (states_of story)))

-- the next call leads to a story from which the others go on
module _ (bytes : List ℕ) (calls rest : List Call) (count : ℕ) (call : Call) (next : drop count calls ≡ call ∷ rest) (old : Story) where
  abbrev mid : Story
  mid = done_first count bytes calls old

  whole : fold (done_by bytes) old calls ≡ fold (done_by bytes) (done_by bytes mid call) rest
  whole =
      ap (fold (done_by bytes) old) (sym (take-append-drop count calls)) ∙ fold-append (done_by bytes) old (take count calls) (drop count calls)
      ∙ ap (fold (done_by bytes) mid) next

  to_next : GoesOnTo old (done_by bytes mid call)
  to_next =
      let before : GoesOnTo old mid = goes_on bytes (take count calls) old in
      let one : states_of (done_by bytes mid call) ≡ ((done_by bytes mid call).now ∷ []) ++ states_of mid =
      ap (λ (past : List State). (done_by bytes mid call).now ∷ past) (one_state call.kind (which_of call.file) call.at (call_bytes bytes call) mid) in
      ((done_by bytes mid call).now ∷ before.0, one ∙ ap (λ (states : List State). (done_by bytes mid call).now ∷ states) before.1)

  from_next : GoesOnTo (done_by bytes mid call) (fold (done_by bytes) old calls)
  from_next = subst (GoesOnTo (done_by bytes mid call)) (sym whole) (goes_on bytes rest (done_by bytes mid call))

-- what is left in a state on the way is left between its ends
left_on_way : (old mid new : Story) (contents : Contents) → GoesOnTo old mid → GoesOnTo mid new → BothLeft mid.now contents → IsLeftBetween old new contents
left_on_way old mid new contents before after left = record {
  since = after.0 ++ before.0;
  states = after.1 ∙ ap (λ (states : List State). after.0 ++ states) before.1 ∙ sym (append_assoc after.0 before.0 (states_of old));
  state = mid.now;
  moment = moment before.0 before.1;
  left = left;
}
  where
    moment : (since : List State) → states_of mid ≡ since ++ states_of old → (mid.now ≡ old.now) ⊎ Contains (after.0 ++ since) mid.now
    moment [] states = inl cc
    moment (state ∷ since) states =
        let same : mid.now ≡ state = cc in
        inr (subst (Contains (after.0 ++ (state ∷ since))) (sym same) (Contains-append_right after.0 (state ∷ since) state (0, omega arith, refl)))

-- a write in part leaves what the whole one may leave
written_left : (at count : ℕ) (now : List ℕ) (file : Stored) (bytes content : List ℕ) → length bytes ≡ count
    → Left (write_begun at count now file) content → Left (write_begun at (length bytes) (over at bytes file.seen) file) content
written_left at count now file bytes content same left = record {
  no_shorter = left.no_shorter;
  no_longer = omega (arith, same, left.no_longer);
  same = λ place low outside. left.same place low (subst (λ n. IsOutside place ((at, n) ∷ file.written)) same outside);
  bytes = left.bytes;
}

-- and so does a cut
shortened_left : (len : ℕ) (now other : List ℕ) (file : Stored) (content : List ℕ) → Left (cut_begun len now file) content
    → Left (cut_begun len other file) content
shortened_left len now other file content left = record { no_shorter = left.no_shorter; no_longer = left.no_longer; same = left.same; bytes = left.bytes }

wrote_left : (which : Which) (at count : ℕ) (bytes : List ℕ) (old new : Story) (contents : Contents) → length bytes ≡ count
    → PartlyWrote which at count old new → BothLeft new.now contents → BothLeft (after_write true which at bytes old).now contents
wrote_left Data at count bytes old new contents same part left =
    let here : BothLeft (with_file Data (write_begun at count part.0 old.now.data_file) old.now) contents = subst (λ (story : Story). BothLeft story.now contents) part.2 left in
    record { data_left = written_left at count part.0 old.now.data_file bytes contents.in_data same here.data_left; journal_left = here.journal_left }
wrote_left Journal at count bytes old new contents same part left =
    let here : BothLeft (with_file Journal (write_begun at count part.0 old.now.journal_file) old.now) contents = subst (λ (story : Story). BothLeft story.now contents) part.2 left in
    record { data_left = here.data_left; journal_left = written_left at count part.0 old.now.journal_file bytes contents.in_journal same here.journal_left }

cut_left : (which : Which) (len : ℕ) (old new : Story) (contents : Contents) → PartlyShortened which len old new → BothLeft new.now contents
    → BothLeft (after_cut true which len old).now contents
cut_left Data len old new contents part left =
    let here : BothLeft (with_file Data (cut_begun len part.0 old.now.data_file) old.now) contents = subst (λ (story : Story). BothLeft story.now contents) part.2 left in
    record { data_left = shortened_left len part.0 _ old.now.data_file contents.in_data here.data_left; journal_left = here.journal_left }
cut_left Journal len old new contents part left =
    let here : BothLeft (with_file Journal (cut_begun len part.0 old.now.journal_file) old.now) contents = subst (λ (story : Story). BothLeft story.now contents) part.2 left in
    record { data_left = here.data_left; journal_left = shortened_left len part.0 _ old.now.journal_file contents.in_journal here.journal_left }

-- a host that is cut off leaves what may be left at some moment of all calls
pub left_by_cut : (bytes : List ℕ) (calls : List Call) (old mid : Story) (contents : Contents) → All (IsCallWithin (length bytes)) calls → IsCutOff bytes calls old mid
    → BothLeft mid.now contents → IsLeftBetween old (fold (done_by bytes) old calls) contents
left_by_cut bytes calls old mid contents within off left = by_end off.ends
  where
    at_first : BothLeft (done_first off.count bytes calls old).now contents → IsLeftBetween old (fold (done_by bytes) old calls) contents
    at_first here =
        let whole : fold (done_by bytes) old calls ≡ fold (done_by bytes) (done_first off.count bytes calls old) (drop off.count calls) =
        ap (fold (done_by bytes) old) (sym (take-append-drop off.count calls)) ∙ fold-append (done_by bytes) old (take off.count calls) (drop off.count calls) in
        left_on_way old (done_first off.count bytes calls old) _ contents (goes_on bytes (take off.count calls) old) (subst (GoesOnTo (done_first off.count bytes calls old)) (sym whole) (goes_on bytes (drop off.count calls) (done_first off.count bytes calls old))) here

    at_next : (call : Call) (rest : List Call) → drop off.count calls ≡ call ∷ rest → BothLeft (done_by bytes (done_first off.count bytes calls old) call).now contents → IsLeftBetween old (fold (done_by bytes) old calls) contents
    at_next call rest next here = left_on_way old (done_by bytes (done_first off.count bytes calls old) call) _ contents (to_next bytes calls rest off.count call next old) (from_next bytes calls rest off.count call next old) here

    by_end : (mid ≡ (done_first off.count bytes calls old)) ⊎ ((call : Call) × (rest : List Call) × (drop off.count calls ≡ call ∷ rest) × PartlyDone call (done_first off.count bytes calls old) mid)
        → IsLeftBetween old (fold (done_by bytes) old calls) contents
    by_end (inl same) = at_first (subst (λ (story : Story). BothLeft story.now contents) same left)
    by_end (inr (call, rest, next, inl (kind, part))) =
        let call_within : IsCallWithin (length bytes) call = All-head (IsCallWithin (length bytes)) call rest (subst (All (IsCallWithin (length bytes))) next (All-drop (IsCallWithin (length bytes)) off.count calls within)) in
        let all : length (call_bytes bytes call) ≡ call.count = omega (arith, call_within.within, length-take call.count (drop call.start bytes), length-drop call.start bytes) in
        at_next call rest next (rw kind (wrote_left (which_of call.file) call.at call.count (call_bytes bytes call) (done_first off.count bytes calls old) mid contents all part left))
    by_end (inr (call, rest, next, inr (inl (kind, part)))) = at_next call rest next (rw kind (cut_left (which_of call.file) call.at (done_first off.count bytes calls old) mid contents part left))
    by_end (inr (call, rest, next, inr (inr (kind, same)))) = at_first (subst (λ (story : Story). BothLeft story.now contents) same left)

-- what is true at every moment of a run is true of it
pub left_between : (P : Contents → Type 0) (old new : Story) (contents : Contents) → IsLeftBetween old new contents → Throughout P old new → P contents
left_between P old new contents between run =
    let since : run.since ≡ between.since = append_cancel_right run.since between.since (states_of old) (sym run.states ∙ between.states) in
    elim between.moment [
      | inl start ↦ run.start contents (subst (λ (state : State). BothLeft state contents) start between.left)
      | inr is_in ↦ All-contains (LeavesOnly P) between.since between.state (subst (All (LeavesOnly P)) since run.each) is_in contents between.left
    ]
