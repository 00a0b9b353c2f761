use Rattle.std.proofs.Common.{refl}
use Rattle.fit_files.proofs.Mending.{looks_bare}
use Rattle.fit_files.proofs.looking.look_at.Goals as goal

pub returns-in-Err : goal.returns-in-Err
returns-in-Err c = looks_bare c.args.all c.args.bytes.now _ c.in-Err.ensures.none refl refl refl refl refl
