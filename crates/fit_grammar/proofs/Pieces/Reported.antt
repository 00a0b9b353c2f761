-- What is reported of the bytes so far, by where they end.
use Rattle.std.proofs.Common.{◌≡◌, ◌<◌, ℕ, List, length, arith, inl, inr}
use Rattle.std.proofs.lemmas.Bool.{cases_lt}
use Rattle.fit_grammar.specs.declared.file.decoder.State.{State}
use Rattle.fit_grammar.specs.declared.file.decoder.State.TheVariants as states
use Rattle.fit_grammar.specs.declared.file.fault.FaultKind.TheVariants.{Truncated}
use Rattle.fit_grammar.specs.declared.file.fault.FileFault.{FileFault}
use Rattle.fit_grammar.specs.Format.Refusal.{IsCutShort, IsFaultOf}
use Rattle.fit_grammar.specs.Calls.Pieces.{ShowsNothing, IsShownBy}
use Rattle.fit_grammar.specs.Calls.Fed.{WasFed, IsOpen, carried_length}

-- a fault that a prefix shows is the refusal of the bytes
pub shown_fault : (b : List ℕ) (fault : FileFault) → IsShownBy b fault → IsFaultOf b fault
shown_fault b fault (inl s) = inl (s.0, inl s.1)
shown_fault b fault (inr memory) = inr memory

-- so is the fault that they end too soon, if no more come
pub cut_fault : (b : List ℕ) (place : ℕ) → place ≡ length b → IsCutShort b Truncated (length b)
    → IsFaultOf b (record { kind = Truncated; place = place })
cut_fault b place e cut = rw e (inl (λ k. cc, inr cut))

-- if nothing is refused, no prefix shows a fault
pub open_quiet : (fed : List ℕ) (state : State) → IsOpen state → WasFed fed state → ShowsNothing fed
open_quiet fed (states.Header header) is was = was.2.none_shown
open_quiet fed (states.Records reading) is was =
    elim (cases_lt (length reading.closing.items) 2) [
      | inl short ↦ (was.cut short).none_shown
      | inr two ↦ (was.whole two).1
    ]
open_quiet fed (states.Refused fault) is was = absurd is

-- fewer bytes are carried than the longest item has
pub carried_short : (fed : List ℕ) (state : State) → WasFed fed state → carried_length state < 130051
carried_short fed (states.Header header) was = omega arith
carried_short fed (states.Records reading) was = was.short
carried_short fed (states.Refused fault) was = omega arith
