use Rattle.std.proofs.Common.{ap, ◌∙◌, Some}
use Rattle.fit_text.specs.Values.{byte_as}
use Rattle.fit_text.specs.Notation.{words_of}
use Rattle.fit_text.proofs.PenLemmas.{puts_same}
use Rattle.fit_text.proofs.ValueLemmas.{string_values, byte_values, number_values, is_number}
use Rattle.fit_text.proofs.value.put_some.Goals as goal

pub returns-in-String : goal.returns-in-String
returns-in-String g c =
    puts_same c.put_string.ensures
    (string_values (words_of c.args.notation.now) (g.N.Numbers.number c.args.numbers.now) c.args.value.now (c.requires.known ∙ ap Some c.in-String.is)
    c.requires.some)

pub returns-in-Byte : goal.returns-in-Byte
returns-in-Byte g c =
    puts_same c.put_byte_field.ensures
    (ap (byte_as (words_of c.args.notation.now)) c.raw.ensures
    ∙ byte_values (words_of c.args.notation.now) (g.N.Numbers.number c.args.numbers.now) c.args.value.now (c.requires.known ∙ ap Some c.in-Byte.is)
    c.requires.some)

pub returns-in_default : goal.returns-in_default
returns-in_default g c =
    puts_same c.put_numbers.ensures
    (number_values (words_of c.args.notation.now) (g.N.Numbers.number c.args.numbers.now) c.args.value.now c.args.base c.requires.known
    (is_number _ c.in_default.not-String c.in_default.not-Byte) c.requires.some)
