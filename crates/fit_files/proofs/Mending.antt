-- What is kept of damaged bytes: for `skip_bytes`, and for the lines of it.
use Rattle.std.proofs.Common.{◌≡◌, inr, ℕ, ◌-◌, ◌<◌, ◌≤◌, Bool, true, false, ◌||◌, ◌==◌, if◌then◌else◌, List, [], ◌∷◌, ◌++◌, length, take, drop, get_or, refl, sym, ap, ◌∙◌, subst, append-nil, codes, Option, Result, Ok, Err, arith}
use Rattle.std.specs.Prelude.{◌↔◌, IfOk, OnErr}
use Rattle.std.specs.Result.{is_ok}
use Rattle.std.proofs.lemmas.List.{take_all, nil_from_length, length-drop, length-take}
use Rattle.fit_grammar.specs.declared.file.frame.Frame.{Frame}
use Rattle.fit_grammar.specs.Format.File.{FileValue, FileOf}
use Rattle.fit_grammar.specs.Calls.BeginningHeader.{BeginsWithHeader}
use Rattle.fit_mending.specs.declared.pieces.Piece.{Piece}
use Rattle.fit_mending.proofs.Files.{file_begins}
use Rattle.fit_text.specs.Pen.{Written, Puts}
use Rattle.fit_text.proofs.PenLemmas.{Leaves, leaves_none, puts_same, puts_then}
use Rattle.fit_files.specs.declared.fault.ReportFault.{ReportFault}
use Rattle.fit_files.specs.declared.looking.Looked.{Looked}
use Rattle.fit_files.specs.declared.mended.Mended.{Mended}
use Rattle.fit_files.specs.Printed.Mended.{LooksAt, bare_frame, first_of, kept_count, kept_line, mended_text, piece_text, pieces_text}
use Rattle.fit_files.specs.Printed.Salvaged.{looked_at, not_looked_at, salvaged_frame}
use Rattle.fit_files.proofs.Headers.{one_frame, one_size}

-- ---- what is looked at

-- no more is looked at than there is
within_if : (whole : Bool) (size : ℕ) (after : List ℕ) → length (if whole then after else take size after) ≤ length after
within_if true size after = omega arith
within_if false size after = omega (arith, length-take size after)

both : (b : Bool) → b ≡ true → b ≡ false → ⊥
both b is isnt = cc

looked_within : (all : Bool) (size : ℕ) (after : List ℕ) → length (looked_at all size after) ≤ length after
looked_within all size after = within_if (all || (size == 0)) size after

-- a call that answers Ok only if something holds, and always then
pub ok_exactly : {T E : Type 0} (r : Result T E) (P : T → Type 0) (Q : Type 0) → IfOk r P → (Q → OnErr r ⊥) → ((x : T) → P x → Q)
    → (is_ok r ≡ true) ↔ Q
ok_exactly (Ok x) P Q is refused from = (λ _. from x is, λ _. refl)
ok_exactly (Err e) P Q is refused from = (λ wrong. absurd (cc), λ q. absurd (refused q))

-- after a header
pub looks_after : (all : Bool) (bytes : List ℕ) (frame : Frame) (size : ℕ) (looked : Looked) → BeginsWithHeader bytes frame size →
    looked.front ≡ frame.header_size → looked.frame ≡ salvaged_frame frame →
    looked.looked_at ≡ length (looked_at all size (drop frame.header_size bytes)) →
    looked.not_looked_at ≡ not_looked_at all size (drop frame.header_size bytes) →
    (looked.trusted ≡ true) ↔ ((file : FileValue) × FileOf bytes file) → LooksAt all bytes looked
looks_after all bytes frame size looked begins here same seen left trusted = record {
  frame = rw same (record { size = inr refl; major = begins.is_frame.major });
  long = ap (λ (f : Frame). f.header_size) same;
  within = omega (arith, begins.within, here, seen, looked_within all size (drop frame.header_size bytes), length-drop frame.header_size bytes);
  headed = λ other there found.
      let one : frame ≡ other = one_frame bytes frame other size there begins found in
      let many : size ≡ there = one_size bytes frame other size there begins found in
      let P : Frame → ℕ → Type 0 = λ f s. (looked.front ≡ f.header_size) × (looked.frame ≡ salvaged_frame f)
      × (looked.looked_at ≡ length (looked_at all s (drop looked.front bytes)))
      × (looked.not_looked_at ≡ not_looked_at all s (drop looked.front bytes)) in
      subst (P other) many (subst (λ f. P f size) one (
        here,
        same,
        seen ∙ ap (λ n. length (looked_at all size (drop n bytes))) (sym here),
        left ∙ ap (λ n. not_looked_at all size (drop n bytes)) (sym here),
      ));
  bare = λ none. absurd (none frame size begins);
  trusted = trusted;
}

-- the bytes begin with no header
pub looks_bare : (all : Bool) (bytes : List ℕ) (looked : Looked) →
    ((frame : Frame) (size : ℕ) → BeginsWithHeader bytes frame size → ⊥) → looked.frame ≡ bare_frame → looked.front ≡ 0 →
    looked.looked_at ≡ length bytes → looked.not_looked_at ≡ 0 → looked.trusted ≡ false → LooksAt all bytes looked
looks_bare all bytes looked none same here seen left trusted = record {
  frame = rw same (record { size = inr refl; major = inr refl });
  long = ap (λ (f : Frame). f.header_size) same;
  within = omega (arith, here, seen);
  headed = λ frame size found. absurd (none frame size found);
  bare = λ none. (here, same, seen, left);
  trusted = (
    λ is. absurd (both looked.trusted is trusted),
    λ file. absurd (none file.0.frame (length file.1.records) (file_begins bytes bytes [] file.0 (sym (append-nil bytes)) file.1)),
  );
}

-- ---- the lines of the pieces

abbrev pub others : List Piece → List Piece
others pieces = take (length pieces - 1) (drop 1 pieces)

-- the first line, and those of the pieces after it
pub first_piece : (pieces : List Piece) (said left : List (Option ℕ)) (other : Option ℕ) (d : Piece) → 1 ≤ length pieces →
    other ≡ first_of said → left ≡ drop 1 said →
    pieces_text pieces said ≡ piece_text (get_or pieces 0 d) other ++ pieces_text (others pieces) left
first_piece [] said left other d some first more = absurd (omega arith)
first_piece (piece ∷ pieces) said left other d some first more =
    let rest : others (piece ∷ pieces) ≡ pieces = take_all _ pieces (omega arith) in
    rw (rest, first, more) refl

-- no piece is left, and all lines were handed over
pub all_lines : {T E : Type 0} (o m n : Written) (text : List ℕ) (left : List Piece) (said : List (Option ℕ))
    (flushed : Result T E) → length left < 1 → Leaves o m text (pieces_text left said) → Puts m n flushed [] → Puts o n flushed text
all_lines o m n text left said flushed none leaves flush =
    let no : left ≡ [] = nil_from_length left (omega arith) in
    puts_same (puts_then (leaves_none {E = ReportFault} (tt {0}) (rw no at leaves)) flush) (append-nil text)

-- the text of what is kept and left out, by the numbers that its first line has
pub text_is : (mended : Mended) (kept parts : ℕ) (counted rest : List Piece) (said : List (Option ℕ)) → kept ≡ length mended.skipped.row.items - mended.skipped.known →
    counted ≡ mended.skipped.pieces.items → parts ≡ kept_count counted → rest ≡ mended.skipped.pieces.items →
    said ≡ mended.skipped.others.items →
    (kept_line kept mended.looked.looked_at parts ++ codes "\n") ++ pieces_text rest said ≡ mended_text mended
text_is mended kept parts counted rest said long all count same also = rw (long, count, all, same, also) refl
