-- The bytes that a decoder was fed. A caller passes these propositions on from call to call, and never looks into them.
use Rattle.std.specs.Prelude.{◌≡◌, ℕ, List, length}
use Rattle.fit_grammar.specs.declared.file.decoder.State.{State}
use Rattle.fit_grammar.specs.declared.file.decoder.State.TheVariants as states
use Rattle.fit_grammar.specs.declared.file.fault.FaultKind.TheVariants.{Truncated}
use Rattle.fit_grammar.specs.Format.Refusal.{IsCutShort}
use Rattle.fit_grammar.specs.Calls.Pieces.{IsShownBy}
use Rattle.fit_grammar.specs.Private.Decoding.{IsShort}
use Rattle.fit_grammar.specs.Private.Feeding.{ReadsOn}

-- the bytes that were fed
abbrev pub WasFed : List ℕ → State → Type 0
WasFed fed (states.Header header) =
    (header.items ≡ fed) × IsShort fed × IsCutShort fed Truncated (length fed)
WasFed fed (states.Records reading) = ReadsOn fed reading
WasFed fed (states.Refused fault) = IsShownBy fed fault

-- nothing is refused yet
abbrev pub IsOpen : State → Type 0
IsOpen (states.Refused fault) = ⊥
IsOpen _ = Unit {0}

-- how many bytes of an unfinished item are kept
abbrev pub carried_length : State → ℕ
carried_length (states.Records reading) = length reading.carry.items
carried_length _ = 0
