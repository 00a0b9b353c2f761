use Rattle.std.proofs.Common.{◌≡◌, arith, rules, subst}
use Rattle.std.specs.Io.KnownBytes.{Appends}
use Rattle.fit_runs.specs.Rides.Turns.{turns_text}
use Rattle.fit_commands.proofs.record.record_folder.Goals as goal

pub returns-in-Ok-eq0-clause-done : goal.returns-in-Ok-eq0-clause-done
returns-in-Ok-eq0-clause-done g c =
    let contents = g.O.Write.contents in
    let done = c.in_ok-recorded.ensures.recorded in
    let zero : c.in-Ok-eq0.field-0 ≡ 0 = omega (arith, c.in-Ok-eq0.field-0-test) in
    let was = rw (c.in-Ok-eq0.is, zero, c.new-streams.ensures.out, ← c.into_writer.ensures.held) at done.4 in (
      done.0,
      done.3,
      _,
      _,
      _,
      (was.0, was.1, was.2, subst (λ w. Appends (contents c.args.out.now) (contents w) (turns_text done.3)) (search rules) was.3),
    )

pub returns-in-Ok-clause-refused : goal.returns-in-Ok-clause-refused
returns-in-Ok-clause-refused g c = λ count is.
    let contents = g.O.Write.contents in
    let done = c.in_ok-recorded.ensures.recorded in
    let e : c.in-Ok.refused ≡ count = cc in
    let was = rw (c.in-Ok.is, e, c.new-streams.ensures.out, ← c.into_writer.ensures.held) at done.4 in (
      done.0,
      done.3,
      _,
      _,
      _,
      (was.0, was.1, was.2, subst (λ w. Appends (contents c.args.out.now) (contents w) (turns_text done.3)) (search rules) was.3),
    )
