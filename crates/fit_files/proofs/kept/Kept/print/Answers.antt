use Rattle.fit_grammar.proofs.Encoder.Output.{then_writes, stops_before}
use Rattle.fit_files.specs.Printed.Kept.{heard_line}
use Rattle.fit_files.proofs.kept.Kept.print.Goals as goal

pub returns-in_err-print_kept-clause-lines : goal.returns-in_err-print_kept-clause-lines
returns-in_err-print_kept-clause-lines g c = stops_before c.from_residual.ensures.0 c.in_err-print_kept.ensures.lines (heard_line c.args.heard)

pub returns-clause-lines : goal.returns-clause-lines
returns-clause-lines g c = then_writes c.in_ok-print_kept.ensures.lines c.print_heard.ensures.line
