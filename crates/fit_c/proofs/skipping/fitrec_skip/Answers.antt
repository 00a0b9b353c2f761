use Rattle.std.proofs.Common.{ℕ, ◌+◌, ◌∙◌, List, ap, sym, inl, inr, arith}
use Rattle.fit_mending.specs.Pieces.{kept_row}
use Rattle.fit_mending.specs.declared.pieces.Piece.{Piece}
use Rattle.fit_files.specs.declared.looking.Looked.{Looked}
use Rattle.fit_files.specs.Printed.Mended.{seen_of}
use Rattle.fit_grammar.specs.Calls.Framed.{framed}
use Rattle.fit_c.specs.declared.salvaging.SalvageCounts.{SalvageCounts}
use Rattle.fit_c.proofs.Kept.{code_within, framed_length, held_are, held_size, held_within, kept_small, mending_of}
use Rattle.fit_c.proofs.skipping.fitrec_skip.Goals as goal

abbrev counts_of : Looked → ℕ → SalvageCounts
counts_of looked kept = record { kept = kept; looked_at = looked.looked_at; not_looked_at = looked.not_looked_at }

pub returns-in-Err-clause-ok : goal.returns-in-Err-clause-ok
returns-in-Err-clause-ok c = λ none. absurd (omega (arith, none, c.code.ensures, (code_within c.in-Err.fault.kind).0))

pub returns-in-Err-clause-within : goal.returns-in-Err-clause-within
returns-in-Err-clause-within c = λ none. absurd (omega (arith, none, c.code.ensures, (code_within c.in-Err.fault.kind).0))

pub returns-in-Err-clause-no_room : goal.returns-in-Err-clause-no_room
returns-in-Err-clause-no_room c = λ none. absurd (omega (arith, none, c.code.ensures, (code_within c.in-Err.fault.kind).1))

pub returns-in-Err-clause-content : goal.returns-in-Err-clause-content
returns-in-Err-clause-content c = λ done.
    elim done [
      | inl none ↦ absurd (omega (arith, none, c.code.ensures, (code_within c.in-Err.fault.kind).0))
      | inr none ↦ absurd (omega (arith, none, c.code.ensures, (code_within c.in-Err.fault.kind).1))
    ]

pub returns-in-Err-clause-more_pieces : goal.returns-in-Err-clause-more_pieces
returns-in-Err-clause-more_pieces c = λ none. absurd (omega (arith, none, c.code.ensures, (code_within c.in-Err.fault.kind).1))

pub returns-in-Err-clause-refused : goal.returns-in-Err-clause-refused
returns-in-Err-clause-refused c = λ least most. record {
  it = mending_of c.args.all c.args.bytes.now c.look_at-looked.result c.take_pieces-count.result _ c.look_at-looked.ensures
      c.take_pieces-count.ensures;
  nothing = omega (arith, c.take_pieces-count.ensures.kept_is, c.in-Err.ensures.nothing.0);
  fault = c.in-Err.fault;
  refused = c.in-Err.ensures.nothing.1;
  code_is = c.code.ensures;
}

pub returns-then-count-pieces-clause-more_pieces : goal.returns-then-count-pieces-clause-more_pieces
returns-then-count-pieces-clause-more_pieces c = λ _. record {
  it = mending_of c.args.all c.args.bytes.now c.look_at-looked.result c.take_pieces-count.result _ c.look_at-looked.ensures
      c.take_pieces-count.ensures;
  count_is = c.take_pieces-count.ensures.count_is;
  short = omega (arith, c.if-count-pieces.true, c.take_pieces-count.auto.pieces);
}

pub overflow_add-out_len : goal.overflow_add-out_len
overflow_add-out_len c =
    omega (
      arith,
      kept_small c.args.bytes.now c.look_at-looked.result c.take_pieces-count.result _ c.take_pieces-count.ensures
          (omega (arith, c.if-bytes.false)),
    )

pub overflow_add-kept : goal.overflow_add-kept
overflow_add-kept c =
    omega (
      arith,
      kept_small c.args.bytes.now c.look_at-looked.result c.take_pieces-count.result _ c.take_pieces-count.ensures
          (omega (arith, c.if-bytes.false)),
    )

pub returns-then-out-kept-clause-no_room : goal.returns-then-out-kept-clause-no_room
returns-then-out-kept-clause-no_room c = λ _.
    let looked = c.look_at-looked.result in
    let taken = c.take_pieces-count.ensures in
    record {
      it = mending_of c.args.all c.args.bytes.now looked c.take_pieces-count.result _ c.look_at-looked.ensures taken;
      needed_is = ap (λ n. n + 16) taken.kept_is
          ∙ sym (framed_length looked.frame (kept_row (seen_of c.args.bytes.now looked) taken.pieces) c.look_at-looked.ensures.long);
      short = search (arith, c.if-out-kept.true);
      pieces_are = taken.are (search (arith, c.if-count-pieces.false));
      counted = ap (counts_of looked) taken.kept_is;
    }

pub write_pieces-requires-clause-within : goal.write_pieces-requires-clause-within
write_pieces-requires-clause-within c =
    held_within (seen_of c.args.bytes.now c.look_at-looked.result) c.look_at-looked.result c.take_pieces-count.result _
    c.take_pieces-count.ensures (search (arith, c.if-count-pieces.false))

pub write_pieces-requires-clause-size : goal.write_pieces-requires-clause-size
write_pieces-requires-clause-size c =
    held_size (seen_of c.args.bytes.now c.look_at-looked.result) c.look_at-looked.result c.take_pieces-count.result _
    c.take_pieces-count.ensures (search (arith, c.if-count-pieces.false))

pub write_pieces-requires-clause-small : goal.write_pieces-requires-clause-small
write_pieces-requires-clause-small c =
    kept_small c.args.bytes.now c.look_at-looked.result c.take_pieces-count.result _ c.take_pieces-count.ensures
    (omega (arith, c.if-bytes.false))

pub returns-clause-ok : goal.returns-clause-ok
returns-clause-ok c = λ _.
    let looked = c.look_at-looked.result in
    let seen = seen_of c.args.bytes.now looked in
    let taken = c.take_pieces-count.ensures in
    record {
      it = mending_of c.args.all c.args.bytes.now looked c.take_pieces-count.result _ c.look_at-looked.ensures taken;
      file_is = c.write_pieces.ensures
          ∙ ap (λ (ps : List Piece). framed looked.frame (kept_row seen ps))
          (held_are seen looked c.take_pieces-count.result _ taken (search (arith, c.if-count-pieces.false)));
      pieces_are = taken.are (search (arith, c.if-count-pieces.false));
      counted = ap (counts_of looked) taken.kept_is;
    }
