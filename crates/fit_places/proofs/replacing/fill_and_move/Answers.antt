use Rattle.fit_places.specs.Private.{IsBeside}
use Rattle.fit_places.specs.Replaced.{IsBetween}
use Rattle.fit_places.proofs.Moments.{at_end}
use Rattle.fit_places.proofs.Folders.{beside_between}
use Rattle.fit_places.proofs.Runs.{goes_err, goes_then, goes_weaker, move_goes, move_gives, on_failed, on_err}
use Rattle.fit_places.proofs.replacing.fill_and_move.Goals as goal

pub returns-in_err-fill-clause-goes : goal.returns-in_err-fill-clause-goes
returns-in_err-fill-clause-goes g c honest number start begun =
    let out = c.args.out.now in
    let beside = c.args.beside.now in
    let bytes = g.C.Content.bytes c.args.content.now in
    goes_err (IsBeside beside number start) (IsBetween out beside bytes start) (λ folder b. beside_between out beside bytes number start folder begun.apart b) _ _ _ _ c.from_residual.ensures.0 (c.in_err-fill.ensures.goes honest beside number start begun)

pub returns-in_err-fill-clause-err : goal.returns-in_err-fill-clause-err
returns-in_err-fill-clause-err g c honest number start begun = on_err _ (at_end (IsBeside c.args.beside.now number start) _ _ (c.in_err-fill.ensures.goes honest c.args.beside.now number start begun).run)

pub returns-clause-goes : goal.returns-clause-goes
returns-clause-goes g c honest number start begun =
    let out = c.args.out.now in
    let beside = c.args.beside.now in
    let bytes = g.C.Content.bytes c.args.content.now in
    let first = c.in_ok-fill.ensures.goes honest beside number start begun in
    goes_then (IsBetween out beside bytes start) _ _ _ _ _
    (goes_weaker (IsBeside beside number start) (IsBetween out beside bytes start) (λ folder b. beside_between out beside bytes number start folder begun.apart b) _ _ _ first)
    (move_goes out beside bytes number start begun.apart _ _ _ (at_end (IsBeside beside number start) _ _ first.run) (c.in_ok-fill.ensures.filled honest beside number start begun) (c.move_to.ensures honest))

pub returns-clause-ok : goal.returns-clause-ok
returns-clause-ok g c honest number start begun =
    let beside = c.args.beside.now in
    let first = c.in_ok-fill.ensures.goes honest beside number start begun in
    move_gives c.args.out.now beside _ number start begun.apart _ _ _ (at_end (IsBeside beside number start) _ _ first.run) (c.in_ok-fill.ensures.filled honest beside number start begun) (c.move_to.ensures honest)

pub returns-clause-err : goal.returns-clause-err
returns-clause-err g c honest number start begun =
    let beside = c.args.beside.now in
    let first = c.in_ok-fill.ensures.goes honest beside number start begun in
    on_failed (IsBeside beside number start) _ _ _ _ (at_end (IsBeside beside number start) _ _ first.run) (c.move_to.ensures honest)
