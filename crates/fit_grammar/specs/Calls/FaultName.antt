-- The names of faults that are printed.
use Rattle.std.specs.Prelude.{ℕ, List, ◌++◌, codes, decimal}
use Rattle.fit_grammar.specs.declared.file.fault.FaultKind.{FaultKind}
use Rattle.fit_grammar.specs.declared.file.fault.FaultKind.TheVariants as kinds
use Rattle.fit_grammar.specs.declared.plain.fault.PlainFaultKind.{PlainFaultKind}
use Rattle.fit_grammar.specs.declared.plain.fault.PlainFaultKind.TheVariants as plains

abbrev pub kind_name : FaultKind → List ℕ
kind_name kinds.Truncated = codes "Truncated"
kind_name kinds.HeaderSize = codes "HeaderSize"
kind_name kinds.Magic = codes "Magic"
kind_name kinds.Protocol = codes "Protocol"
kind_name kinds.HeaderCrc = codes "HeaderCrc"
kind_name (kinds.UndefinedLocal local) = codes "UndefinedLocal(" ++ decimal local ++ codes ")"
kind_name kinds.SplitMessage = codes "SplitMessage"
kind_name kinds.FileCrc = codes "FileCrc"
kind_name kinds.TrailingBytes = codes "TrailingBytes"
kind_name kinds.Memory = codes "Memory"

abbrev pub plain_name : PlainFaultKind → List ℕ
plain_name plains.TooLong = codes "TooLong"
plain_name plains.Memory = codes "Memory"
