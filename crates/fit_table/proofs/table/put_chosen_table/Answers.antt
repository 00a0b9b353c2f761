use Rattle.fit_table.proofs.TokenLemmas.{tokens_then, tokens_stop, tokens_text}
use Rattle.fit_table.proofs.table.put_chosen_table.Goals as goal

pub returns-in_err-put_head-clause-text : goal.returns-in_err-put_head-clause-text
returns-in_err-put_head-clause-text g c =
    tokens_stop c.from_residual.ensures.0 (tokens_text (rw c.chosen_names.ensures.names at c.in_err-put_head.ensures)) _

pub returns-clause-text : goal.returns-clause-text
returns-clause-text g c =
    tokens_then (tokens_text (rw c.chosen_names.ensures.names at c.in_ok-put_head.ensures)) c.put_own_lines.ensures.text
