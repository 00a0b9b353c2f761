use Rattle.fit_disk.proofs.Moments.{at_end}
use Rattle.fit_recorder.specs.Files.Body.{StandsFor}
use Rattle.fit_recorder.proofs.Commit.Standing.{stays_stand}
use Rattle.fit_recorder.proofs.laws.what_is_committed_stands.Goals as goal

pub returns : goal.returns
returns g c honest recorder list committed at = at_end (StandsFor committed) _ _ (stays_stand _ _ list committed (at.holds honest))
