-- What was written and printed, or how that stopped.
use Rattle.std.proofs.Common.{◌≡◌, ℕ, List, ◌++◌, Option, Result, Ok, Err, Bor, refl, sym, ap, subst, inl, inr}
use Rattle.std.specs.Prelude.{IfErr, OnOk}
use Rattle.std.specs.Result.{IsErr, IsErrAnd}
use Rattle.std.specs.Io.KnownBytes.{Appends}
use Rattle.std.proofs.KnownBytes.{Appends-trans}
use Rattle.fit_files.specs.declared.kept.Heard.{Heard}
use Rattle.fit_files.specs.declared.salvage.Salvage.{Salvage}
use Rattle.fit_places.specs.NamedFiles.{ReplacesNamed}
use Rattle.fit_words.specs.declared.request.SalvageForm.{SalvageForm}
use Rattle.fit_commands.specs.Faults.{IsNotMade, IsOutputReported}
use Rattle.fit_commands.specs.Reported.{IsMade, Transition}
use Rattle.fit_commands.specs.Written.{WritesFile, WritesForm, WritesOut, WritesRun}
use Rattle.fit_commands.specs.declared.fault.Fault.{Fault}

-- a result that stops with a fault
pub stops : {T : Type 0} (result : Result T Fault) (fault : Fault) → IsErr result × IsErrAnd result (λ e. e ≡ fault) → result ≡ Err fault
stops (Ok x) fault (not, same) = absurd (cc)
stops (Err e) fault (is, same) = ap Err same

-- the transition from these states
abbrev run_of : (List ℕ → Option (List ℕ)) → (List ℕ → Option (List ℕ)) → Option (List ℕ) → Option (List ℕ) → Transition
run_of old new before after = record { held_before = old; held_after = new; printed_before = before; printed_after = after }

-- nothing is printed of a file that was not written
pub stops_unwritten : (bytes text : List ℕ) (out : Bor (List ℕ)) (old new : List ℕ → Option (List ℕ)) (printed : Option (List ℕ))
    (result : Result (Unit {0}) Fault) (fault : Fault) → result ≡ Err fault → WritesFile {T = Unit {0}} bytes out old new (Err fault)
    → WritesOut bytes text out (run_of old new printed printed) result
stops_unwritten bytes text out old new printed result fault is wrote =
    subst (WritesOut bytes text out (run_of old new printed printed)) (sym is) (inl (wrote, refl))

-- the last lines of a file that was written
pub ends_printed : (bytes some more : List ℕ) (out : Bor (List ℕ)) (old new : List ℕ → Option (List ℕ)) (before mid after : Option (List ℕ))
    (result : Result (Unit {0}) Fault) → ReplacesNamed out.now bytes old new → Appends before mid some
    → OnOk result (Appends mid after more) → IfErr result IsOutputReported
    → WritesOut bytes (some ++ more) out (run_of old new before after) result
ends_printed bytes some more out old new before mid after (Ok done) wrote first last failed =
    (wrote, Appends-trans before mid after some more first last)
ends_printed bytes some more out old new before mid after (Err fault) wrote first last failed = inr (failed, wrote)

-- what is kept was made, and not written
pub stops_made : (form : SalvageForm) (salvage : Salvage) (heard : Option Heard) (bytes : List ℕ) (out : Bor (List ℕ))
    (old new : List ℕ → Option (List ℕ)) (result : Result (Option Heard) Fault) (fault : Fault) → result ≡ Err fault
    → IsMade form salvage heard bytes → WritesFile {T = Unit {0}} bytes out old new (Err fault)
    → WritesForm form salvage out old new result
stops_made form salvage heard bytes out old new result fault is made wrote =
    subst (WritesForm form salvage out old new) (sym is) (inr (heard, bytes, made, wrote))

-- it was not made, or not written
pub stops_form : {V : Type 0} (Makes : Result V Fault → Type 0) (IsOut : V → List ℕ → List ℕ → Type 0) (form : SalvageForm)
    (salvage : Salvage) (out : Bor (List ℕ)) (old new : List ℕ → Option (List ℕ)) (printed : Option (List ℕ))
    (result : Result (Unit {0}) Fault) (fault : Fault) → result ≡ Err fault
    → (IsNotMade form fault → Makes (Err fault))
    → ((heard : Option Heard) (bytes : List ℕ) → IsMade form salvage heard bytes
    → (made : V) × Makes (Ok made) × (text : List ℕ) × IsOut made bytes text)
    → WritesForm form salvage out old new (Err fault) → WritesRun Makes IsOut out (run_of old new printed printed) result
stops_form Makes IsOut form salvage out old new printed result fault is fails made (inl (not, same)) = inl (fault, is, fails not, same, refl)
stops_form Makes IsOut form salvage out old new printed result fault is fails made (inr (heard, bytes, form_is, wrote)) =
    let found = made heard bytes form_is in
    inr (found.0, found.1, bytes, found.2, found.3, stops_unwritten bytes found.2 out old new printed result fault is wrote)
