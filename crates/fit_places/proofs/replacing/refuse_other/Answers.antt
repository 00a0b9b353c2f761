use Rattle.std.proofs.Common.{inr, ℕ, List, Option, sym, ◌∙◌, ap, subst}
use Rattle.std.specs.Borrow.{Bor}
use Rattle.std.specs.Prelude.{option_map}
use Rattle.fit_places.specs.Replaced.{IsRefused}
use Rattle.fit_places.proofs.Runs.{fails, refused_other, looked, on_err}
use Rattle.fit_places.proofs.replacing.refuse_other.Goals as goal

pub returns-in_err-look-clause-err : goal.returns-in_err-look-clause-err
returns-in_err-look-clause-err g c honest = on_err _ (looked _ _ _ _ (c.in_err-look.ensures.does honest))

pub returns-in_err-look-clause-cause : goal.returns-in_err-look-clause-cause
returns-in_err-look-clause-cause g c honest out = on_err _ (fails _ _ _ _ (c.in_err-look.ensures.does honest))

pub returns-in-Some-2-clause-cause : goal.returns-in-Some-2-clause-cause
returns-in-Some-2-clause-cause g c honest out =
    let other = ap (λ (at : Option (Bor (List ℕ))). option_map (λ name. name.now) at) c.in-Some.is in
    inr (subst (λ (other : Option (List ℕ)). IsRefused out other (g.P.Place.story c.args.place.now).now) (sym other) (refused_other out _ _ _ (sym c.in-Some-2.is ∙ c.in_ok-look.ensures.found honest)))
