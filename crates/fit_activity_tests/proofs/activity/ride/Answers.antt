use Rattle.std.proofs.Common.{ℕ, ◌+◌, ◌≤◌, List, [], ◌++◌, ◌∷◌, length, ap, sym, ◌∙◌, arith}
use Rattle.std.specs.Result.{result_err}
use Rattle.std.proofs.lemmas.List.{length_push}
use Rattle.fit_activity.specs.declared.recording.entry.Entry.{Entry}
use Rattle.fit_activity.specs.Rides.Recording.{Recorded, Added}
use Rattle.fit_activity.specs.Rides.RunningTotals.{TotalsState, AreTotals}
use Rattle.fit_activity_tests.proofs.activity.ride.Goals as goal

pub add-requires : goal.add-requires
add-requires g c =
    let so_far = c.loop-entry.invariant in (
      so_far.0,
      so_far.1,
      sym (c.check-in-loop-entry.ensures.first so_far.0 so_far.1) ∙ ap result_err c.in-Ok-check.is,
      omega (arith, so_far.2, c.loop-entry-test.true, c.requires),
    )

-- the list with one more entry
more : (totals : TotalsState) (list : List Recorded) (e : Entry) (n : ℕ) → AreTotals totals (list ++ Added e ∷ []) → length list ≤ n + 1
    → (x : List Recorded) × AreTotals totals x × (length x ≤ n + 1 + 1)
more totals list e n are few = (list ++ Added e ∷ [], are, omega (arith, few, length_push list (Added e)))

pub loop-entry-preserved : goal.loop-entry-preserved
loop-entry-preserved g c =
    let so_far = c.loop-entry.invariant in
    more c.add.new.self so_far.0 _ c.loop-entry.entry-index (c.add.ensures so_far.0 so_far.1) so_far.2
