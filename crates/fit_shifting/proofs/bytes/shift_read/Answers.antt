use Rattle.std.proofs.Common.{subst}
use Rattle.fit_grammar.specs.Format.File.{FileValue}
use Rattle.fit_shifting.specs.Shifted.{IsShiftOf}
use Rattle.fit_shifting.proofs.ShiftOutcome.{shifts_to}
use Rattle.fit_shifting.proofs.bytes.shift_read.Goals as goal

pub returns-in-Some : goal.returns-in-Some
returns-in-Some c =
    shifts_to c.args.by c.args.bytes.now c.args.file.now c.in-Some.shift c.shift_file.result c.requires.file
    (subst (λ (v : FileValue). IsShiftOf c.args.by v c.in-Some.shift) c.lend.ensures c.in-Some.ensures.shift)
    c.shift_file.ensures.frame c.shift_file.ensures.messages c.shift_file.ensures.movable c.shift_file.ensures.written_out
    c.shift_file.ensures.refused
