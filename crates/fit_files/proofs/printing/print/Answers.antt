use Rattle.fit_files.proofs.Reported.Printed.{line_flushed}
use Rattle.fit_files.proofs.printing.print.Goals as goal

pub returns-clause-line : goal.returns-clause-line
returns-clause-line g c =
    line_flushed _ _ _ (g.L.Display.output c.args.line.now) c.flush.result c.in_ok-put_line.ensures.line c.flush.ensures.all
