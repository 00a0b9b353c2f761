use Rattle.std.proofs.Common.{ap, arith, length, take, take-take, length-take-le}
use Rattle.fit_text.proofs.PenLemmas.{label_added}
use Rattle.fit_text.proofs.writing.Pen.add_label.Goals as goal

pub slice_bounds-copy_from_slice-end-2 : goal.slice_bounds-copy_from_slice-end-2
slice_bounds-copy_from_slice-end-2 g c = omega (arith, c.label.told, length-take-le 32 c.label.inside.bytes (omega (arith, c.label.told)))

pub copy_from_slice-requires : goal.copy_from_slice-requires
copy_from_slice-requires g c = omega (arith, length-take-le 32 c.label.inside.bytes (omega (arith, c.label.told)))

pub returns-clause-label : goal.returns-clause-label
returns-clause-label g c =
    let inside = c.self.inside in
    let label = c.label.inside in
    rw (← c.self.view_is, ← c.label.view_is, ← take-take label.len 32 label.bytes c.label.invariant)
    (label_added _ _ inside.bytes _ (take 32 label.bytes) inside.len _ label.len 32 c.copy_from_slice.ensures.after
    (omega (arith, ap (λ w. length w.waiting) c.self.view_is, length-take-le inside.len inside.bytes (omega (arith, c.self.invariant))))
    (length-take-le 32 label.bytes (omega (arith, c.label.told))) c.label.invariant)
