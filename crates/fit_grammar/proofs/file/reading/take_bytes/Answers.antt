use Rattle.std.proofs.Common.{◌≡◌, ℕ, ◌++◌, List, [], sym, subst, ◌∙◌, arith}
use Rattle.std.proofs.lemmas.Bool.{eqb-true}
use Rattle.std.proofs.lemmas.List.{nil_from_length}
use Rattle.fit_grammar.specs.declared.file.state.Reading.{Reading}
use Rattle.fit_grammar.specs.Private.Feeding.{StandsBefore}
use Rattle.fit_grammar.proofs.file.reading.take_bytes.Goals as goal

-- nothing is carried
alone : (b bytes : List ℕ) (r : Reading) → r.carry.len ≡ 0
    → StandsBefore b r (r.carry.items ++ r.closing.items ++ bytes) → StandsBefore b r (r.closing.items ++ bytes)
alone b bytes r empty s =
    let none : r.carry.items ≡ [] = nil_from_length r.carry.items (omega (arith, empty, r.carry.ok.0)) in
    subst (λ (l : List ℕ). StandsBefore b r (l ++ r.closing.items ++ bytes)) none s

pub take_rest-requires-clause-stands : goal.take_rest-requires-clause-stands
take_rest-requires-clause-stands c =
    let r = c.args.reading.now in
    let empty = eqb-true r.carry.len 0 (sym c.is_empty.ensures ∙ c.if-is_empty.true) in
    (c.requires.stands.0, alone c.requires.stands.0 c.args.bytes.now r empty c.requires.stands.1)

pub returns-then-is_empty-clause-err : goal.returns-then-is_empty-clause-err
returns-then-is_empty-clause-err c = λ b s.
    let r = c.args.reading.now in
    let empty = eqb-true r.carry.len 0 (sym c.is_empty.ensures ∙ c.if-is_empty.true) in
    c.take_rest.ensures.err b (alone b c.args.bytes.now r empty s)
