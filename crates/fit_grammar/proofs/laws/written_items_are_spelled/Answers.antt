use Rattle.fit_grammar.proofs.Encoder.Encoding.{encoded_spells}
use Rattle.fit_grammar.proofs.laws.written_items_are_spelled.Goals as goal

pub returns : goal.returns
returns c = encoded_spells
