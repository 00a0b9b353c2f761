use Rattle.fit_grammar.proofs.Decoding.OneValue.{one_value}
use Rattle.fit_grammar.proofs.laws.no_bytes_are_two_files.Goals as goal

pub returns : goal.returns
returns c = one_value
