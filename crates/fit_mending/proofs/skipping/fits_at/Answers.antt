use Rattle.fit_grammar.specs.Calls.Table.{definition_in}
use Rattle.fit_mending.proofs.Trusted.{sound_trusted}
use Rattle.fit_mending.proofs.skipping.fits_at.Goals as goal

pub returns-else-are_left_after-clause-some : goal.returns-else-are_left_after-clause-some
returns-else-are_left_after-clause-some c = λ is.
    sound_trusted (definition_in c.args.latest.now) c.args.progress.now c.args.bytes.now (c.is_trusted.ensures.is.0 is)
