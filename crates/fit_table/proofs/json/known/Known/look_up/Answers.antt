use Rattle.fit_table.specs.declared.json.known.Found.{Found}
use Rattle.fit_table.proofs.JsonLemmas.{known_more}
use Rattle.fit_table.proofs.json.known.Known.look_up.Goals as goal

pub invariant_of-self : goal.invariant_of-self
invariant_of-self c =
    let found : Found = record { message = c.args.message; number = c.args.number; row = c.row_by-row.result } in
    known_more c.self.inside.places c.args.at found c.self.invariant c.row_by-row.ensures
