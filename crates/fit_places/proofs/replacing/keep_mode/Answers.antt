use Rattle.std.proofs.Common.{[]}
use Rattle.fit_places.proofs.Runs.{copy_goes, copy_gives, no_mode}
use Rattle.fit_places.proofs.replacing.keep_mode.Goals as goal

pub returns-then-is_there-clause-goes : goal.returns-then-is_there-clause-goes
returns-then-is_there-clause-goes g c honest beside number start begun = copy_goes _ beside [] _ number start _ _ _ c.if-is_there.true begun (c.copy_mode.ensures honest)

pub returns-then-is_there-clause-mode : goal.returns-then-is_there-clause-mode
returns-then-is_there-clause-mode g c honest beside number start begun = copy_gives _ beside [] _ number start _ _ _ c.if-is_there.true begun (c.copy_mode.ensures honest)

pub returns-clause-mode : goal.returns-clause-mode
returns-clause-mode g c honest beside number start begun = no_mode _ beside [] _ number start _ c.if-is_there.false begun
