use Rattle.std.proofs.Common.{sym, ap, ◌∙◌, subst, ◌+◌, ℕ, Option, Global, vec_len, string_bytes}
use Rattle.std.specs.Prelude.{String}
use Rattle.fit_places.specs.declared.memory_folder.NameChange.{NameChange}
use Rattle.fit_places.specs.NameChanges.{number_by, NamesBelow, EarlierBelow}
use Rattle.fit_places.specs.MemoryFolder.{Stands}
use Rattle.fit_places.specs.Changes.{with_name}
use Rattle.fit_places.proofs.MemoryFolders.{name_changed, names_below_changed, earlier_below_changed}
use Rattle.fit_places.proofs.memory_folder.MemoryFolder.change_name.Goals as goal

abbrev changed : String Global → Option ℕ → Option ℕ → NameChange
changed name number before = record { name = name; number = number; before = before }

pub invariant_of-self-clause-names_below : goal.invariant_of-self-clause-names_below
invariant_of-self-clause-names_below c =
    subst (λ changes. NamesBelow (vec_len c.args.self.now.things) changes) (sym c.put_first.ensures.items)
    (names_below_changed (vec_len c.args.self.now.things) (changed c.args.name c.args.number c.number_of-before.result) c.args.self.now.changes.items c.requires.below c.args.self.now.names_below)

pub invariant_of-self-clause-earlier_below : goal.invariant_of-self-clause-earlier_below
invariant_of-self-clause-earlier_below c =
    subst (λ changes. EarlierBelow (vec_len c.args.self.now.things) changes) (sym c.put_first.ensures.items)
    (earlier_below_changed (vec_len c.args.self.now.things) (changed c.args.name c.args.number c.number_of-before.result) c.args.self.now.changes.items c.number_of-before.ensures.below c.args.self.now.earlier_below)

pub returns-clause-stands : goal.returns-clause-stands
returns-clause-stands c = λ folder s.
    subst (λ changes. Stands changes (c.args.self.now.recent + 1) c.args.self.now.things.items c.args.self.now.created c.args.self.now.keeps_moved (with_name (string_bytes c.args.name) c.args.number folder)) (sym c.put_first.ensures.items)
    (name_changed c.args.self.now.changes.items c.args.self.now.recent c.args.self.now.things.items c.args.self.now.created c.args.self.now.keeps_moved folder (changed c.args.name c.args.number c.number_of-before.result) (c.number_of-before.ensures.value ∙ ap (number_by c.args.self.now.changes.items) c.as_str.ensures.value) s)
