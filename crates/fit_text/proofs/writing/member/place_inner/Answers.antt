use Rattle.std.proofs.Common.{◌≡◌, ◌++◌, ◌∙◌, ap, take, drop, length, length-drop, length-take-le, arith}
use Rattle.std.proofs.lemmas.List.{take_all}
use Rattle.fit_text.proofs.PenLemmas.{part_placed, inner_taken}
use Rattle.fit_text.proofs.writing.member.place_inner.Goals as goal

pub returns-clause-place : goal.returns-clause-place
returns-clause-place c =
    let label = c.label.inside in
    let rest = drop 1 label.bytes in
    let long : length rest ≡ 32 = omega (arith, length-drop 1 label.bytes, c.label.told) in
    let placed = c.copy_from_slice.ensures.after ∙ take_all 32 rest (omega (arith, long)) in
    let size = ap length placed in
    let n = c.saturating_sub.result in
    let few = c.saturating_sub.ensures in
    let inside = ap (λ m. take m rest) few ∙ inner_taken label.bytes label.len (omega (arith, c.label.told, c.label.invariant)) in
    rw (← c.label.view_is)
    (record {
      bytes = part_placed c.args.bytes.now c.copy_from_slice.new.self c.args.at _ n (omega (arith, size, long)) (omega (arith, size, long, few, c.label.invariant))
          ∙ ap (λ t. take c.args.at c.args.bytes.now ++ take n t) placed ∙ ap (λ t. take c.args.at c.args.bytes.now ++ t) inside;
      moved = omega (arith, ap length inside, length-take-le n rest (omega (arith, long, few, c.label.invariant)));
    })
