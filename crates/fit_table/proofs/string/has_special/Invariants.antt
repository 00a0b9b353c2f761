use Rattle.std.proofs.Common.{◌≡◌, drop}
use Rattle.std.specs.List.{list_any}
use Rattle.fit_table.specs.Cells.{is_special}
use Rattle.fit_table.proofs.string.has_special.Given as goal

abbrev pub invariant-loop-byte : goal.invariant-loop-byte
invariant-loop-byte l = list_any is_special l.text ≡ list_any is_special (drop l.byte-index l.text)
