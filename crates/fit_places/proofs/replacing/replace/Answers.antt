use Rattle.std.proofs.Common.{inl, [], List, ℕ, sym, subst}
use Rattle.std.specs.Prelude.{option_map}
use Rattle.fit_places.specs.FolderStory.{AtEachMoment}
use Rattle.fit_places.specs.Replaced.{IsBetween, IsRefused, AreTaken, HasCause}
use Rattle.fit_places.specs.Private.{IsPrepared}
use Rattle.fit_places.specs.declared.place.PlaceFault.TheVariants.{Memory}
use Rattle.std.proofs.Common.{◌≡◌, ◌⊎◌, lit<}
use Rattle.fit_places.proofs.Runs.{err_as, prepared_failed, on_err, as_before, unchanged_run, prepared_begun, prepared_run, prepared_lost, prepared_not_refused}
use Rattle.fit_places.proofs.replacing.replace.Goals as goal

pub returns-in_err-made-clause-any_moment : goal.returns-in_err-made-clause-any_moment
returns-in_err-made-clause-any_moment g c honest = (0, lit< tt, unchanged_run _ _ _ _ _ (c.in_err-made.ensures.err honest))

pub returns-in_err-made-clause-err : goal.returns-in_err-made-clause-err
returns-in_err-made-clause-err g c honest = on_err _ (inl (as_before _ _ _ (c.in_err-made.ensures.err honest)))

pub returns-in_err-made-clause-refused : goal.returns-in_err-made-clause-refused
returns-in_err-made-clause-refused g c honest refused = (c.from_residual.ensures.0, c.in_err-made.ensures.err honest)

pub returns-clause-any_moment : goal.returns-clause-any_moment
returns-clause-any_moment g c honest =
    let out = c.args.out.now in
    let bytes = g.C.Content.bytes c.args.content.now in
    let name = c.as_str.result.now in
    let p = subst (λ (name : List ℕ). IsPrepared out (option_map (λ other. other.now) c.args.other) c.in_ok-made.made.is_there name (g.P.Place.story c.args.place.now) (g.P.Place.story c.prepare.new.place)) (sym c.as_str.ensures.value) (c.in_ok-made.ensures.ok honest) in (
      p.number,
      p.below,
      subst (λ (name : List ℕ). AtEachMoment (IsBetween out name bytes (g.P.Place.story c.args.place.now).now) (g.P.Place.story c.args.place.now) (g.P.Place.story c.write_and_move.new.place)) p.named
          (prepared_run out _ _ name bytes _ _ p _ (c.write_and_move.ensures.any_moment honest _ _ (prepared_begun out _ _ name bytes _ _ p))),
    )

pub returns-clause-ok : goal.returns-clause-ok
returns-clause-ok g c honest =
    let out = c.args.out.now in
    let bytes = g.C.Content.bytes c.args.content.now in
    let name = c.as_str.result.now in
    let p = subst (λ (name : List ℕ). IsPrepared out (option_map (λ other. other.now) c.args.other) c.in_ok-made.made.is_there name (g.P.Place.story c.args.place.now) (g.P.Place.story c.prepare.new.place)) (sym c.as_str.ensures.value) (c.in_ok-made.ensures.ok honest) in
    c.write_and_move.ensures.ok honest _ _ (prepared_begun out _ _ name bytes _ _ p)

pub returns-clause-err : goal.returns-clause-err
returns-clause-err g c honest =
    let out = c.args.out.now in
    let bytes = g.C.Content.bytes c.args.content.now in
    let name = c.as_str.result.now in
    let p = subst (λ (name : List ℕ). IsPrepared out (option_map (λ other. other.now) c.args.other) c.in_ok-made.made.is_there name (g.P.Place.story c.args.place.now) (g.P.Place.story c.prepare.new.place)) (sym c.as_str.ensures.value) (c.in_ok-made.ensures.ok honest) in
    prepared_lost out _ _ name bytes _ (g.P.Place.story c.prepare.new.place) p _ (g.P.Place.story c.write_and_move.new.place) (c.write_and_move.ensures.err honest _ _ (prepared_begun out _ _ name bytes _ _ p))

pub returns-clause-refused : goal.returns-clause-refused
returns-clause-refused g c honest refused = absurd (prepared_not_refused _ _ _ _ [] _ _ (c.in_ok-made.ensures.ok honest) refused)

pub returns-in_err-made-clause-cause : goal.returns-in_err-made-clause-cause
returns-in_err-made-clause-cause g c honest =
    err_as (λ fault. HasCause c.args.out.now (option_map (λ other. other.now) c.args.other) fault (g.P.Place.story c.args.place.now) (g.P.Place.story c.prepare.new.place)) _ _ c.from_residual.ensures.1 (c.in_err-made.ensures.cause honest)

pub returns-clause-cause : goal.returns-clause-cause
returns-clause-cause g c honest =
    let out = c.args.out.now in
    let bytes = g.C.Content.bytes c.args.content.now in
    let name = c.as_str.result.now in
    let other = option_map (λ other. other.now) c.args.other in
    let p = subst (λ (name : List ℕ). IsPrepared out other c.in_ok-made.made.is_there name (g.P.Place.story c.args.place.now) (g.P.Place.story c.prepare.new.place)) (sym c.as_str.ensures.value) (c.in_ok-made.ensures.ok honest) in
    prepared_failed out _ _ name bytes _ (g.P.Place.story c.prepare.new.place) p (λ fault. IsRefused out other (g.P.Place.story c.args.place.now).now ⊎ AreTaken out (g.P.Place.story c.args.place.now).now ⊎ (fault ≡ Memory)) _ (g.P.Place.story c.write_and_move.new.place)
    (c.write_and_move.ensures.failed honest _ _ (prepared_begun out _ _ name bytes _ _ p))
