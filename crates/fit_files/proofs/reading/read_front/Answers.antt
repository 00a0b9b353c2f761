use Rattle.std.proofs.Common.{List, ℕ, arith, sym, subst, length-append, length-take}
use Rattle.std.specs.Io.KnownBytes.{Consumes}
use Rattle.fit_files.proofs.Pieces.{consumes_none, consumes_more}
use Rattle.fit_files.proofs.reading.read_front.Goals as goal

pub loop-taken-init : goal.loop-taken-init
loop-taken-init g c =
    let P : List ℕ → Type 0 = λ t. Consumes (g.T.Read.remaining c.args.from.now) (g.T.Read.remaining c.args.from.now) t in
    (subst P (sym c.new-bytes.ensures.items) (consumes_none _), omega (arith, c.new-bytes.ensures.len))

pub loop-taken-preserved : goal.loop-taken-preserved
loop-taken-preserved g c =
    let P : List ℕ → Type 0 = λ t. Consumes (g.T.Read.remaining c.args.from.now) (g.T.Read.remaining c.read_piece.new.from) t in (
      subst P (sym c.in-Ok-extend_from_slice.ensures.items)
          (consumes_more _ _ _ _ _ c.loop-taken.invariant.0 c.in-Ok.ensures.bytes.0),
      omega (arith, c.in-Ok-extend_from_slice.ensures.len, c.len.ensures, length-take {A = ℕ}),
    )

pub returns-then-taken-most-clause-refused : goal.returns-then-taken-most-clause-refused
returns-then-taken-most-clause-refused g c =
    let consumed = consumes_more _ _ _ _ _ c.loop-taken.invariant.0 c.in-Ok.ensures.bytes.0 in
    (λ same. cc, (_, consumed, omega (arith, c.if-taken-most.true, c.len.ensures, c.in-Ok.ensures.bound, length-append {A = ℕ}, length-take {A = ℕ})))

pub returns-in_default-extend_from_slice-clause-refused : goal.returns-in_default-extend_from_slice-clause-refused
returns-in_default-extend_from_slice-clause-refused g c =
    let consumed = consumes_more _ _ _ _ _ c.loop-taken.invariant.0 c.in-Ok.ensures.bytes.0 in
    (λ same. cc, (_, consumed, omega (arith, c.if-taken-most.false, c.len.ensures, c.in-Ok.ensures.bound, length-append {A = ℕ}, length-take {A = ℕ})))
