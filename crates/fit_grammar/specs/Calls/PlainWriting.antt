-- Why a plain form that is written item by item is broken off.
use Rattle.std.specs.Prelude.{◌≡◌, List, true, false, Result, Ok, Err}
use Rattle.std.specs.List.{list_any}
use Rattle.fit_grammar.specs.Format.Item.{Item}
use Rattle.fit_grammar.specs.declared.plain.writing.WritePlainFault.{WritePlainFault}
use Rattle.fit_grammar.specs.declared.plain.writing.WritePlainFault.TheVariants.{TooLong, Write}
use Rattle.fit_grammar.specs.Calls.PlainForm.{has_too_many_fields}

-- at Ok no definition of these items has 256 fields or more, and at `TooLong` one has
abbrev pub JudgesFields : {F : Type 0} → List Item → Result (Unit {0}) (WritePlainFault F) → Type 0
JudgesFields items (Ok done) = list_any has_too_many_fields items ≡ false
JudgesFields items (Err TooLong) = list_any has_too_many_fields items ≡ true
JudgesFields items (Err (Write fault)) = Unit {0}
