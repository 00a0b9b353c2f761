use Rattle.std.proofs.Common.{◌≡◌, ℕ, ◌+◌, ◌++◌, List, length, take, sym, ap, ◌∙◌, arith}
use Rattle.std.proofs.lemmas.List.{take_min}
use Rattle.std.proofs.Math.Seq.{take-append-add}
use Rattle.fit_grammar.proofs.file.header.add_header.Goals as goal

pub returns : goal.returns
returns c =
    let had = c.args.header.now.items in
    let bytes = c.args.bytes.now in
    let room = c.remaining_capacity.result in
    let whole : length had + room ≡ 14 = omega (arith, c.remaining_capacity.ensures) in
    (rw c.unwrap.ensures at c.try_extend_from_slice.ensures.ok)
    ∙ ap (λ (n : ℕ). had ++ take n bytes) c.min-own.ensures ∙ ap (λ (l : List ℕ). had ++ l) (take_min room bytes)
    ∙ sym (take-append-add had bytes room) ∙ ap (λ (n : ℕ). take n (had ++ bytes)) whole
