use Rattle.std.proofs.Common.{Result, Ok, Err, arith}
use Rattle.std.specs.Prelude.{OnErr}
use Rattle.fit_c.proofs.Within.{refusal_within}
use Rattle.fit_c.proofs.joining.read_plain.Goals as goal

on_err : {T E P : Type 0} (r : Result T E) → P → OnErr r P
on_err (Ok x) holds = tt
on_err (Err e) holds = holds

pub returns-in_err-file-clause-within : goal.returns-in_err-file-clause-within
returns-in_err-file-clause-within c =
    let no_file = c.in_err-file.ensures.no_file.2 in
    on_err c.from_residual.result
    (omega (arith, no_file.place_is, refusal_within c.args.bytes.now no_file.fault.kind no_file.fault.place no_file.refusal))
