-- One call more in a plan.
use Rattle.std.proofs.Common.{◌≡◌, ◌⊎◌, inl, inr, ℕ, suc, List, [], ◌∷◌, ◌++◌, length, take, drop, get_or, refl, sym, ap, ◌∙◌, ◌<◌, ◌≤◌, arith}
use Rattle.std.specs.List.{fold, All}
use Rattle.std.proofs.lemmas.Bool.{cases_lt}
use Rattle.std.proofs.lemmas.List.{drop-append-le, take-append-le, length-append, length-drop, drop_at, take_all, get_or_append_left, get_or_push}
use Rattle.std.proofs.lemmas.List.Elements.{All-take}
use Rattle.std.proofs.lemmas.List.Sums.{fold_push}
use Rattle.fit_disk.specs.Story.{Story}
use Rattle.fit_plan.specs.declared.calls.Call.{Call}
use Rattle.fit_plan.specs.Carried.{which_of, carried}
use Rattle.fit_plan.specs.Planned.{call_bytes, done_by, AllInside, BeginsInside}
use Rattle.fit_plan.specs.Within.{IsCallWithin}

bytes_kept : (bytes more : List ℕ) (call : Call) → IsCallWithin (length bytes) call → call_bytes (bytes ++ more) call ≡ call_bytes bytes call
bytes_kept bytes more call within =
    ap (take call.count) (drop-append-le call.start bytes more (omega (arith, within.within)))
    ∙ take-append-le call.count (drop call.start bytes) more (omega (arith, within.within, length-drop call.start bytes))

done_kept : (bytes more : List ℕ) (call : Call) (story : Story) → IsCallWithin (length bytes) call → done_by (bytes ++ more) story call ≡ done_by bytes story call
done_kept bytes more call story within = ap (λ (bytes' : List ℕ). carried call.kind (which_of call.file) call.at bytes' story) (bytes_kept bytes more call within)

fold_kept : (bytes more : List ℕ) (calls : List Call) (story : Story) → All (IsCallWithin (length bytes)) calls
    → fold (done_by (bytes ++ more)) story calls ≡ fold (done_by bytes) story calls
fold_kept bytes more [] story within = refl
fold_kept bytes more (call ∷ calls) story within =
    ap (λ (story' : Story). fold (done_by (bytes ++ more)) story' calls) (done_kept bytes more call story (within 0 call (omega arith)))
    ∙ fold_kept bytes more calls (done_by bytes story call) (λ k d low. within (suc k) d (omega (arith, low)))

-- the bytes of the new call stand after those that were there
pub planned_more : (bytes more : List ℕ) (calls : List Call) (call : Call) (since : Story) → All (IsCallWithin (length bytes)) calls
    → call.start ≡ length bytes → call.count ≡ length more
    → fold (done_by (bytes ++ more)) since (calls ++ call ∷ []) ≡ carried call.kind (which_of call.file) call.at more (fold (done_by bytes) since calls)
planned_more bytes more calls call since within start count =
    let own : call_bytes (bytes ++ more) call ≡ more = ap (take call.count) (drop_at bytes more call.start (sym start)) ∙ take_all call.count more (omega (arith, count)) in
    fold_push (done_by (bytes ++ more)) since calls call
    ∙ ap (λ (bytes' : List ℕ). carried call.kind (which_of call.file) call.at bytes' (fold (done_by (bytes ++ more)) since calls)) own
    ∙ ap (λ (story : Story). carried call.kind (which_of call.file) call.at more story) (fold_kept bytes more calls since within)

-- a call that begins inside its file joins calls that do
pub inside_more : (bytes more : List ℕ) (calls : List Call) (call : Call) (since : Story) → All (IsCallWithin (length bytes)) calls
    → AllInside bytes since calls → BeginsInside (fold (done_by bytes) since calls) call → AllInside (bytes ++ more) since (calls ++ call ∷ [])
inside_more bytes more calls call since within before inside k low d = by_place (cases_lt k (length calls))
  where
    after : (count : ℕ) → count ≤ length calls
        → fold (done_by (bytes ++ more)) since (take count (calls ++ call ∷ [])) ≡ fold (done_by bytes) since (take count calls)
    after count short =
        ap (fold (done_by (bytes ++ more)) since) (take-append-le count calls (call ∷ []) short)
        ∙ fold_kept bytes more (take count calls) since (All-take (IsCallWithin (length bytes)) count calls within)

    by_place : (k < length calls) ⊎ (length calls ≤ k) → BeginsInside (fold (done_by (bytes ++ more)) since (take k (calls ++ call ∷ []))) (get_or (calls ++ call ∷ []) k d)
    by_place (inl early) = rw (after k (omega (arith, early)), get_or_append_left calls (call ∷ []) d k early) (before k early d)
    by_place (inr late) =
        let last : k ≡ length calls = omega (arith, low, late, length-append calls (call ∷ [])) in
        rw (after k (omega (arith, last)), take_all k calls (omega (arith, late)), get_or_push calls call d k (sym last)) inside
