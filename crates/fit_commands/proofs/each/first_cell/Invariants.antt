use Rattle.std.proofs.Common.{◌≡◌, ◌++◌, codes, true}
use Rattle.std.specs.List.{flat_map}
use Rattle.std.specs.Str.Iter.{bytes_rest}
use Rattle.fit_table.specs.Cells.{byte_cell}
use Rattle.fit_commands.proofs.each.first_cell.Given as goal

abbrev pub invariant-loop-byte : goal.invariant-loop-byte
invariant-loop-byte l =
    l.cell.items ++ flat_map (byte_cell true) (bytes_rest l.byte-iterator)
    ≡ codes "\"" ++ flat_map (byte_cell true) l.name
