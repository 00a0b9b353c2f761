use Rattle.std.proofs.Common.{◌≡◌, ◌+◌, length}
use Rattle.fit_grammar.specs.Calls.LentItem.{messages_in}
use Rattle.fit_grammar.specs.Format.Message.{messages_of}
use Rattle.fit_table.specs.Described.{descriptions_of, known_from}
use Rattle.fit_table.proofs.described.descriptions_of.Given as goal

abbrev pub invariant-loop-item : goal.invariant-loop-item
invariant-loop-item l = record {
  known : known_from l.known.items l.place (messages_in l.item-iterator) ≡ descriptions_of (messages_of l.file.items);
  count : l.place + length (messages_in l.item-iterator) ≡ length (messages_of l.file.items);
}
