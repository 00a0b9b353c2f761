use Rattle.std.proofs.Common.{◌↔◌, map}
use Rattle.std.specs.List.{AllByRecursion}
use Rattle.fit_grammar.specs.Calls.LentItem.{item_lent}
use Rattle.fit_grammar.specs.Calls.PlainForm.{IsPlain}
use Rattle.fit_joining.proofs.part.is_plain.Given as goal

abbrev pub invariant-loop-item : goal.invariant-loop-item
invariant-loop-item l = AllByRecursion IsPlain (map item_lent l.item-iterator) ↔ AllByRecursion IsPlain l.file.items
