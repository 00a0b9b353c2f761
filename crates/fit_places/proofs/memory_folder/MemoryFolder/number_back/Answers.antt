use Rattle.std.proofs.Common.{◌≡◌, sym, ap, subst, ◌∙◌, ◌-◌, take, vec_len}
use Rattle.std.specs.Prelude.{IfSome, slice_get}
use Rattle.fit_places.specs.NameChanges.{earlier_by, IsBelow}
use Rattle.fit_places.proofs.MemoryFolders.{found_below, recent_below}
use Rattle.fit_places.proofs.memory_folder.MemoryFolder.number_back.Goals as goal

pub returns-clause-below : goal.returns-clause-below
returns-clause-below c =
    let half = c.args.self.now in
    let list = earlier_by (take half.recent half.changes.items) c.args.name.now in
    let is : c.earlier_in.result ≡ slice_get list (c.args.back - 1) =
    c.earlier_in.ensures ∙ ap (λ items. slice_get (earlier_by (take half.recent items) c.args.name.now) (c.args.back - 1)) c.deref.ensures.value in
    subst (λ found. IfSome found (λ number. IsBelow (vec_len half.things) number)) (sym is)
    (found_below (vec_len half.things) list (c.args.back - 1) (recent_below (vec_len half.things) half.recent half.changes.items half.earlier_below c.args.name.now))
