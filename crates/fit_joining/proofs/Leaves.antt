-- What is left of a text that is written piece by piece: for the loops that write.
use Rattle.std.proofs.Common.{◌≡◌, ℕ, List, [], ◌++◌, Option, Result, Ok, Err, sym, ap, ◌∙◌, append_assoc, append-nil}
use Rattle.std.specs.Result.{IsErr}
use Rattle.fit_grammar.specs.Calls.CheckedOutput.{WritesChecked}
use Rattle.fit_grammar.proofs.Encoder.Checked.{then_checked, stops_checked, checked_same}
use Rattle.fit_grammar.proofs.PlainForm.Written.{checked_ok, checked_none}
use Rattle.fit_joining.specs.Private.Row.{LeavesChecked}

-- at first all of it is left
pub leaves_all : (o : Option (List ℕ)) (before : ℕ) (text rest : List ℕ) → text ≡ rest → LeavesChecked o o before before text rest
leaves_all o before text rest is = record { done = []; split = is; written = checked_none o before tt }

-- after one more piece
pub leaves_next : {T E : Type 0} {o m n : Option (List ℕ)} {before middle after : ℕ} {x : T} {text rest part : List ℕ} (more : List ℕ)
    → LeavesChecked o m before middle text rest → WritesChecked {T = T} {E = E} m n middle after (Ok x) part → rest ≡ part ++ more
    → LeavesChecked o n before after text more
leaves_next {part = part} more h written is = record {
  done = h.done ++ part;
  split = h.split ∙ ap (λ (l : List ℕ). h.done ++ l) is ∙ sym (append_assoc h.done part more);
  written = checked_ok (then_checked h.written written);
}

-- or if it was not written
pub leaves_off : {S T E F : Type 0} {o m n : Option (List ℕ)} {before middle at : ℕ} {e : E} {r : Result T F} {text rest part : List ℕ}
    (after : ℕ) (more : List ℕ) → IsErr r → LeavesChecked o m before middle text rest
    → WritesChecked {T = S} {E = E} m n middle at (Err e) part → rest ≡ part ++ more → WritesChecked o n before after r text
leaves_off after more bad h written is =
    checked_same (then_checked h.written (stops_checked bad written after more))
    (sym (h.split ∙ ap (λ (l : List ℕ). h.done ++ l) is))

-- the last piece
pub leaves_last : {T E : Type 0} {o m n : Option (List ℕ)} {before middle after : ℕ} {r : Result T E} {text rest : List ℕ}
    → LeavesChecked o m before middle text rest → WritesChecked m n middle after r rest → WritesChecked o n before after r text
leaves_last h written = checked_same (then_checked h.written written) (sym h.split)

-- at the end nothing is left
pub leaves_none : {T E : Type 0} {o n : Option (List ℕ)} {before after : ℕ} {text rest : List ℕ} (x : T) → rest ≡ []
    → LeavesChecked o n before after text rest → WritesChecked {T = T} {E = E} o n before after (Ok x) text
leaves_none x none h =
    checked_same (checked_ok h.written) (sym (h.split ∙ ap (λ (l : List ℕ). h.done ++ l) none ∙ append-nil h.done))
