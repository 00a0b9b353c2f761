use Rattle.std.proofs.Common.{List, ℕ, take, subst, arith}
use Rattle.std.proofs.lemmas.List.{length-take-le}
use Rattle.fit_grammar.specs.Calls.Pieces.{IsShownBy}
use Rattle.fit_grammar.specs.Private.Feeding.{ReadsOn}
use Rattle.fit_grammar.proofs.Pieces.Begun.{header_alone, header_long, header_parts}
use Rattle.fit_grammar.proofs.file.decoder.begin.Goals as goal

pub begun-reading-requires : goal.begun-reading-requires
begun-reading-requires c =
    let taken = c.args.taken.now in
    record {
      begins = header_alone taken c.args.found c.requires.begins;
      whole = length-take-le c.args.found.frame.header_size taken c.requires.begins.within;
      fits = c.requires.fits;
    }

pub split_at-requires : goal.split_at-requires
split_at-requires c =
    let fed = c.requires.fed in
    omega (arith, fed.1, header_long fed.0 c.args.bytes.now c.args.taken.now c.args.found fed.2 c.requires.begins)

pub read_on-requires : goal.read_on-requires
read_on-requires c = (take c.args.found.frame.header_size c.args.taken.now, c.begun-reading.ensures)

pub returns-in-Ok-clause-ok : goal.returns-in-Ok-clause-ok
returns-in-Ok-clause-ok c = λ fed long is.
    let taken = c.args.taken.now in
    let parts = header_parts fed c.args.bytes.now taken c.split_at.result.1.now c.args.found c.args.had long is
    c.requires.begins c.requires.had c.split_at.ensures.back in
    subst (λ (l : List ℕ). ReadsOn l c.read_on.new.reading) parts
    (c.in-Ok.ensures.ok (take c.args.found.frame.header_size taken) c.begun-reading.ensures)

pub returns-in-Err-clause-err : goal.returns-in-Err-clause-err
returns-in-Err-clause-err c = λ fed long is.
    let taken = c.args.taken.now in
    let parts = header_parts fed c.args.bytes.now taken c.split_at.result.1.now c.args.found c.args.had long is
    c.requires.begins c.requires.had c.split_at.ensures.back in
    subst (λ (l : List ℕ). IsShownBy l c.in-Err.fault) parts
    (c.in-Err.ensures.err (take c.args.found.frame.header_size taken) c.begun-reading.ensures)
