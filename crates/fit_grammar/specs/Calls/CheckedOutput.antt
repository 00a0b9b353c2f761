-- A text that is handed to a writer and added to a checksum.
use Rattle.std.specs.Prelude.{◌≡◌, ℕ, List, Option, Result, OnOk}
use Rattle.fit_base.specs.Checksum.{crc_from}
use Rattle.fit_grammar.specs.Calls.Output.{WritesText}

-- the text was handed over, and at Ok it was added to the checksum
pub record WritesChecked {T E : Type 0} (old new : Option (List ℕ)) (before after : ℕ)
    (result : Result T E) (text : List ℕ) : Type 0 where
  pub writes : WritesText old new result text
  pub checksum : OnOk result (after ≡ crc_from before text)
