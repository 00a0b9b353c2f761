use Rattle.fit_table.proofs.TokenLemmas.{tokens_nothing}
use Rattle.fit_table.proofs.table.put_all_lines.Goals as goal

pub returns-clause-text : goal.returns-clause-text
returns-clause-text g c = tokens_nothing c.in_ok-put_lines.ensures c.hand_over.ensures.puts
