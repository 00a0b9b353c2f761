use Rattle.std.proofs.Common.{◌≡◌, ℕ, List, [], Option, min, length, take, subst, ap, ◌∙◌, arith}
use Rattle.std.proofs.Math.Path.{fun_ext}
use Rattle.std.proofs.lemmas.List.{take_min}
use Rattle.fit_grammar.specs.declared.definition.Definition.{Definition}
use Rattle.fit_grammar.specs.Format.Records.{in_force}
use Rattle.fit_mending.specs.Others.{IsFirstRide, own_front}
use Rattle.fit_mending.proofs.rides.own_ride.Goals as goal

pub returns : goal.returns
returns c =
    let row = c.args.row.now in
    let least : c.min.result ≡ min own_front (length row) = omega (arith, c.min.ensures) in
    subst (λ (l : List ℕ). IsFirstRide (in_force []) l c.first_ride.result) (ap (λ n. take n row) least ∙ take_min own_front row)
    (subst (λ (f : ℕ → Option Definition). IsFirstRide f (take c.min.result row) c.first_ride.result) (fun_ext c.new.ensures) c.first_ride.ensures)
