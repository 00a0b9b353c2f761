use Rattle.std.proofs.Common.{◌≡◌, length, ap, sym, ◌∙◌, arith}
use Rattle.fit_grammar.specs.Format.Records.{data_size}
use Rattle.fit_grammar.specs.Format.File.{FileValue}
use Rattle.fit_grammar.specs.Private.ItemRow.{items_in}
use Rattle.fit_grammar.proofs.Encoder.Encoded.{encoded_items-length}
use Rattle.fit_grammar.proofs.file.File.data_size.Goals as goal

total : (c : goal.After-len) → c.len.result ≡ data_size (items_in c.self.inside.records.items)
total c =
    c.len.ensures ∙ c.self.inside.records.ok.0 ∙ sym (ap length c.self.invariant.written)
    ∙ encoded_items-length (items_in c.self.inside.records.items)

pub overflow_cast-result : goal.overflow_cast-result
overflow_cast-result c = record { fits = omega (arith, total c, c.self.invariant.can_be.bound) }

pub returns : goal.returns
returns c = total c ∙ ap (λ (v : FileValue). data_size v.items) c.self.view_is
