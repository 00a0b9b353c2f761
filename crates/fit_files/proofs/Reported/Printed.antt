-- What a formatter puts into a pen, part by part: for `printing`.
use Rattle.std.proofs.Common.{◌≡◌, List, [], ◌∷◌, ◌++◌, ℕ, Option, Some, None, Result, Ok, sym, ap, ◌∙◌, append-nil, append_assoc, subst, codes, IfSome}
use Rattle.std.specs.Fmt.{WritesText as WritesParts, with_newline}
use Rattle.std.specs.List.{FoldsTo, concat}
use Rattle.arrayvec.specs.ArrayString.{ArrayString as Text}
use Rattle.fit_text.specs.Pen.{Written, Puts}
use Rattle.fit_text.proofs.PenLemmas.{puts_same, puts_then}

-- ---- a line is built in memory, and then put into the pen

-- the bytes that several calls added
in_calls : (o n : Text) (parts : List (List ℕ)) → FoldsTo (λ old part new. new.bytes ≡ old.bytes ++ part) o parts n → n.bytes ≡ o.bytes ++ concat parts
in_calls o n [] h = let P : Text → Type 0 = λ n. n.bytes ≡ o.bytes ++ [] in subst P h (sym (append-nil o.bytes))
in_calls o n (part ∷ parts) h = in_calls h.0 n parts h.2 ∙ ap (λ bytes. bytes ++ concat parts) h.1 ∙ append_assoc o.bytes part (concat parts)

-- a line was built
pub line_made : (o n : Text) (line : Option (List ℕ)) → o.bytes ≡ [] →
    WritesParts (λ old part new. new.bytes ≡ old.bytes ++ part) o (with_newline line) n → IfSome line (λ text. n.bytes ≡ text ++ codes "\n")
line_made o n None empty h = tt
line_made o n (Some text) empty h = in_calls o n h.parts h.calls ∙ ap (λ bytes. bytes ++ concat h.parts) empty ∙ h.whole

-- what holds of its bytes holds of the line
pub of_line : (P : List ℕ → Type 0) (bytes : List ℕ) (line : Option (List ℕ)) → IfSome line (λ text. bytes ≡ text ++ codes "\n") → P bytes →
    IfSome line (λ text. P (text ++ codes "\n"))
of_line P bytes None made holds = tt
of_line P bytes (Some text) made holds = subst P made holds

-- it was put, and all that waited was handed over
pub line_flushed : {T E : Type 0} (o m n : Written) (line : Option (List ℕ)) (result : Result T E) →
    IfSome line (λ text. Puts {E = E} o m (Ok (tt {0})) (text ++ codes "\n")) → Puts m n result [] →
    IfSome line (λ text. Puts o n result (text ++ codes "\n"))
line_flushed o m n None result put flushed = tt
line_flushed o m n (Some text) result put flushed = puts_same (puts_then put flushed) (append-nil (text ++ codes "\n"))
