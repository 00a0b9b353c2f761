use Rattle.std.proofs.Common.{◌≡◌, ◌++◌, ◌∙◌, ℕ, take, arith, ap, subst, length-append, length-take}
use Rattle.std.proofs.lemmas.List.{append-nil}
use Rattle.std.specs.Io.KnownBytes.{Consumes}
use Rattle.fit_files.specs.Calls.Reading.{DecodesWith}
use Rattle.fit_files.proofs.Pieces.{consumes_more}
use Rattle.fit_files.proofs.Reported.Inputs.{outcome_of}
use Rattle.fit_files.proofs.decoding.decode_with_places.Goals as goal

pub returns-then-taken-eq0 : goal.returns-then-taken-eq0
returns-then-taken-eq0 g c =
    let so_far = c.loop-taken.invariant in
    let consumed = consumes_more _ _ _ _ _ so_far.2 c.in-Ok.ensures.bytes.0 in
    let none : so_far.0 ++ take c.in-Ok.taken c.read_piece.new.piece ≡ so_far.0 = ap (λ n. so_far.0 ++ take n c.read_piece.new.piece) c.if-taken-eq0.true ∙ append-nil so_far.0 in
    let all = subst (λ bytes. Consumes (g.T.Read.remaining c.args.from.now) (g.T.Read.remaining c.read_piece.new.from) bytes) none consumed in
    outcome_of DecodesWith (λ bytes why outcome. outcome) c.args.most _ _ so_far.0 c.finished.result
    (all, c.in-Ok.ensures.bytes.1 c.if-taken-eq0.true (omega arith), omega (arith, so_far.3, so_far.4)) (c.finished.ensures so_far.0 so_far.1)

pub returns-then-taken-most : goal.returns-then-taken-most
returns-then-taken-most g c =
    let so_far = c.loop-taken.invariant in
    let consumed = consumes_more _ _ _ _ _ so_far.2 c.in-Ok.ensures.bytes.0 in
    (λ same. absurd cc, (_, consumed, omega (arith, c.if-taken-most.true, so_far.3, so_far.4, c.in-Ok.ensures.bound, length-append {A = ℕ}, length-take {A = ℕ})))

pub loop-taken-preserved : goal.loop-taken-preserved
loop-taken-preserved g c =
    let so_far = c.loop-taken.invariant in
    let consumed = consumes_more _ _ _ _ _ so_far.2 c.in-Ok.ensures.bytes.0 in (
      so_far.0 ++ take c.in-Ok.taken c.read_piece.new.piece,
      c.feed.ensures.fed so_far.0 so_far.1,
      consumed,
      omega (arith, so_far.3, c.in-Ok.ensures.bound, length-append {A = ℕ}, length-take {A = ℕ}),
      omega (arith, c.if-taken-most.false, so_far.4),
    )
