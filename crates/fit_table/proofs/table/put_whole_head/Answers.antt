use Rattle.std.proofs.Common.{append-nil}
use Rattle.fit_text.proofs.PenLemmas.{puts_then, puts_same}
use Rattle.fit_table.proofs.table.put_whole_head.Goals as goal

pub returns-clause-text : goal.returns-clause-text
returns-clause-text g c =
    puts_same (puts_then (rw c.chosen_names.ensures.names at c.in_ok-put_head.ensures) c.hand_over.ensures.puts) (append-nil _)
