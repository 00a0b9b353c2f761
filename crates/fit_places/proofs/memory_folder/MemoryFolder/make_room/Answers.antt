use Rattle.std.proofs.Common.{sym, subst, vec_len}
use Rattle.fit_places.specs.NameChanges.{NamesBelow, EarlierBelow}
use Rattle.fit_places.proofs.memory_folder.MemoryFolder.make_room.Goals as goal

pub invariant_of-self-clause-names_below : goal.invariant_of-self-clause-names_below
invariant_of-self-clause-names_below c =
    subst (λ changes. NamesBelow (vec_len c.args.self.now.things) changes) (sym c.reserve.ensures.items) c.args.self.now.names_below

pub invariant_of-self-clause-earlier_below : goal.invariant_of-self-clause-earlier_below
invariant_of-self-clause-earlier_below c =
    subst (λ changes. EarlierBelow (vec_len c.args.self.now.things) changes) (sym c.reserve.ensures.items) c.args.self.now.earlier_below
