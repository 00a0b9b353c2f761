use Rattle.fit_text.specs.Notation.{words_of}
use Rattle.fit_text.proofs.PenLemmas.{puts_same}
use Rattle.fit_text.proofs.ValueLemmas.{byte_invalid, byte_valid}
use Rattle.fit_text.proofs.value.bytes.put_byte_field.Goals as goal

pub returns-then-all_invalid : goal.returns-then-all_invalid
returns-then-all_invalid g c = puts_same c.put.ensures (byte_invalid (words_of c.args.notation.now) _ cc)

pub returns-else-all_invalid : goal.returns-else-all_invalid
returns-else-all_invalid g c = puts_same c.put_bytes.ensures (byte_valid (words_of c.args.notation.now) _ cc)
