use Rattle.fit_c.proofs.committing.fitrec_uncommitted.Goals as goal

pub returns-in-None-clause-none : goal.returns-in-None-clause-none
returns-in-None-clause-none c = λ _ count has. c.count_uncommitted.ensures.none c.in-None.is count has
