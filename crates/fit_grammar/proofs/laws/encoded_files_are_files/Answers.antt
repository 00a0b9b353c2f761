use Rattle.fit_grammar.proofs.Encoder.Encoded.{encoded_is_file}
use Rattle.fit_grammar.proofs.laws.encoded_files_are_files.Goals as goal

pub returns : goal.returns
returns c = encoded_is_file
