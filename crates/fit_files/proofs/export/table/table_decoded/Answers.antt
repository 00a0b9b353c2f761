use Rattle.fit_files.proofs.export.table.table_decoded.Goals as goal

pub returns-clause-text : goal.returns-clause-text
returns-clause-text g c = rw (← c.lend.ensures) (c.flush_written.ensures.text _ _ c.write_chosen-written.ensures)
