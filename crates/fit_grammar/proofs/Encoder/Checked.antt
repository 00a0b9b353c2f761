-- The same with a checksum of the text: for the encoder.
use Rattle.std.proofs.Common.{◌≡◌, ℕ, List, ◌++◌, Option, Result, Ok, Err, sym, ap, ◌∙◌, subst}
use Rattle.std.specs.Prelude.{OnOk}
use Rattle.std.specs.Result.{IsErr}
use Rattle.fit_base.specs.Checksum.{crc_from}
use Rattle.fit_base.proofs.Register.{crc_from-append}
use Rattle.fit_grammar.specs.Calls.CheckedOutput.{WritesChecked}
use Rattle.fit_grammar.proofs.Encoder.Output.{then_writes, stops_before}

checked_after : {S T E F : Type 0} (o m n : Option (List ℕ)) (before middle after : ℕ) (x : S) (r : Result T E) (a b : List ℕ) →
    WritesChecked {T = S} {E = F} o m before middle (Ok x) a → WritesChecked m n middle after r b
    → WritesChecked o n before after r (a ++ b)
checked_after o m n before middle after x (Ok y) a b h k =
    record {
      writes = then_writes h.writes k.writes;
      checksum = k.checksum ∙ ap (λ (s : ℕ). crc_from s b) h.checksum ∙ sym (crc_from-append before a b);
    }
checked_after o m n before middle after x (Err e) a b h k = record { writes = then_writes h.writes k.writes; checksum = tt }

-- one text was written, and then another
pub then_checked : {S T E F : Type 0} {o m n : Option (List ℕ)} {before middle after : ℕ} {x : S} {r : Result T E} {a b : List ℕ} →
    WritesChecked {T = S} {E = F} o m before middle (Ok x) a → WritesChecked m n middle after r b
    → WritesChecked o n before after r (a ++ b)
then_checked {o = o} {m = m} {n = n} {before = before} {middle = middle} {after = after} {x = x} {r = r} {a = a} {b = b} h k =
    checked_after o m n before middle after x r a b h k

no_checksum : {T E : Type 0} (r : Result T E) (P : Type 0) → IsErr r → OnOk r P
no_checksum (Ok x) P bad = cc
no_checksum (Err e) P bad = tt

-- if a text was not written, none after it was
pub stops_checked : {S T E F : Type 0} {o n : Option (List ℕ)} {before middle : ℕ} {e : E} {r : Result T F} {a : List ℕ} →
    IsErr r → WritesChecked {T = S} {E = E} o n before middle (Err e) a → (after : ℕ) (b : List ℕ)
    → WritesChecked o n before after r (a ++ b)
stops_checked {before = before} {r = r} {a = a} bad h after b =
    record { writes = stops_before bad h.writes b; checksum = no_checksum r (after ≡ crc_from before (a ++ b)) bad }

-- a text may be replaced by an equal one
pub checked_same : {T E : Type 0} {o n : Option (List ℕ)} {before after : ℕ} {r : Result T E} {a b : List ℕ}
    → WritesChecked o n before after r a → a ≡ b → WritesChecked o n before after r b
checked_same {o = o} {n = n} {before = before} {after = after} {r = r} h e =
    let P : List ℕ → Type 0 = λ t. WritesChecked o n before after r t in subst P e h
