use Rattle.std.proofs.Common.{refl}
use Rattle.fit_c.proofs.salvaging.fitrec_salvage.Goals as goal

pub returns-in-Ok-clause-ok : goal.returns-in-Ok-clause-ok
returns-in-Ok-clause-ok c = λ done.
    record { salvage = c.in-Ok.salvage; found = c.in-Ok.ensures.found; is = c.write_out.ensures.ok done; counted = refl }

pub returns-in-Ok-clause-no_room : goal.returns-in-Ok-clause-no_room
returns-in-Ok-clause-no_room c = λ short. record {
  salvage = c.in-Ok.salvage;
  found = c.in-Ok.ensures.found;
  needed_is = c.write_out.ensures.needed short;
  short = c.write_out.ensures.no_room short;
  counted = refl;
}
