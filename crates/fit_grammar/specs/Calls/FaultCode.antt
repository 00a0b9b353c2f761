-- The numbers of faults.
use Rattle.std.specs.Prelude.{ℕ}
use Rattle.fit_grammar.specs.declared.file.fault.FaultKind.{FaultKind}
use Rattle.fit_grammar.specs.declared.file.fault.FaultKind.TheVariants as kinds
use Rattle.fit_grammar.specs.declared.file.fault.PutFault.{PutFault}
use Rattle.fit_grammar.specs.declared.file.fault.PutFault.TheVariants as puts
use Rattle.fit_grammar.specs.declared.file.fault.EncodeFault.{EncodeFault}
use Rattle.fit_grammar.specs.declared.file.fault.EncodeFault.TheVariants as encodes
use Rattle.fit_grammar.specs.declared.plain.fault.PlainFaultKind.{PlainFaultKind}
use Rattle.fit_grammar.specs.declared.plain.fault.PlainFaultKind.TheVariants as plains
use Rattle.fit_grammar.specs.declared.item.ItemFault.{ItemFault}
use Rattle.fit_grammar.specs.declared.item.ItemFault.TheVariants as items

abbrev pub kind_code : FaultKind → ℕ
kind_code kinds.Truncated = 1
kind_code kinds.HeaderSize = 2
kind_code kinds.Magic = 3
kind_code kinds.Protocol = 4
kind_code kinds.HeaderCrc = 5
kind_code (kinds.UndefinedLocal local) = 6
kind_code kinds.SplitMessage = 7
kind_code kinds.FileCrc = 8
kind_code kinds.TrailingBytes = 9
kind_code kinds.Memory = 10

abbrev pub put_code : PutFault → ℕ
put_code puts.UndefinedLocal = 1
put_code puts.Length = 2
put_code puts.TooLong = 3
put_code puts.Memory = 4

abbrev pub encode_code : EncodeFault → ℕ
encode_code encodes.Write = 1

abbrev pub item_code : ItemFault → ℕ
item_code (items.UndefinedLocal local) = 1

abbrev pub plain_code : PlainFaultKind → ℕ
plain_code plains.TooLong = 1
plain_code plains.Memory = 2
