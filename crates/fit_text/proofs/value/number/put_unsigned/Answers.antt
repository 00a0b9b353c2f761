use Rattle.std.proofs.Common.{◌∙◌}
use Rattle.fit_text.specs.Notation.{words_of}
use Rattle.fit_text.proofs.PenLemmas.{puts_same}
use Rattle.fit_text.proofs.ValueLemmas.{plain_float32, plain_float64, plain_whole, whole_unsigned}
use Rattle.fit_text.proofs.value.number.put_unsigned.Goals as goal

pub returns-in-Float32 : goal.returns-in-Float32
returns-in-Float32 g c = puts_same c.put_bytes.ensures (plain_float32 (words_of c.args.notation.now) _ _ _ c.in-Float32.is c.to_be_bytes.ensures)

pub returns-in-Float64 : goal.returns-in-Float64
returns-in-Float64 g c = puts_same c.put_bytes-in-Float64.ensures (plain_float64 (words_of c.args.notation.now) _ _ _ c.in-Float64.is c.to_be_bytes-in-Float64.ensures)

pub returns-in_default : goal.returns-in_default
returns-in_default g c =
    puts_same c.put_number.ensures
    (whole_unsigned c.args.base c.args.number c.requires
    ∙ plain_whole (words_of c.args.notation.now) c.args.base c.args.number c.in_default.not-Float32 c.in_default.not-Float64)
