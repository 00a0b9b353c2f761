use Rattle.fit_runs.proofs.recording.clock.Clock.note.Goals as goal

pub returns-in-Entry-clause-shows : goal.returns-in-Entry-clause-shows
returns-in-Entry-clause-shows c = λ every times known.
    rw (c.in-Entry.is, c.if-is_done-3.true) (c.with_entry.ensures.shows every times known c.args.last)
