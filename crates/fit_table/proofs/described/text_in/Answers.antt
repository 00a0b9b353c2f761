use Rattle.std.proofs.Common.{◌≡◌, ◌+◌, ◌-◌, ◌==◌, take, drop, Some, sym, ap, ◌∙◌, arith, rules}
use Rattle.std.specs.List.{before_first}
use Rattle.fit_base.specs.Value.{Field}
use Rattle.fit_base.specs.declared.base.BaseType.TheVariants.{String}
use Rattle.fit_base.specs.Base.{base_type}
use Rattle.fit_columns.proofs.PlaceLemmas.{all_sizes, place_found}
use Rattle.fit_table.specs.Described.{text_in}
use Rattle.fit_table.proofs.DescribedLemmas.{text_is}
use Rattle.fit_table.proofs.described.text_in.Goals as goal

pub returns-in-Some-String : goal.returns-in-Some-String
returns-in-Some-String c =
    let d = c.args.definition.now in
    let place = c.place_in-place.result in
    let content = c.args.content.now in
    let size : (place.at + c.from.result) - place.at ≡ place.size = omega (arith, c.from.ensures) in
    let is_string : base_type place.base ≡ Some String = sym c.of.ensures.table ∙ c.in-Some-String.is ∙ ap Some c.in-Some-String.field-0-is in
    c.text_bytes.ensures ∙ ap (λ (f : Field). before_first (λ byte. byte == 0) f.bytes) c.new.ensures
    ∙ ap (λ n. before_first (λ byte. byte == 0) (take n (drop place.at content))) size
    ∙ text_is (record { base = place.base; arch = d.arch; bytes = take place.size (drop place.at content) }) is_string
    ∙ ap text_in (sym (place_found d c.args.number place content (omega (arith, c.requires.whole, all_sizes d)) (omega (arith, c.ranges.number.fits)) c.place_in-place.ensures))

pub returns-in_default : goal.returns-in_default
returns-in_default c =
    let d = c.args.definition.now in
    let shown = place_found d c.args.number c.place_in-place.result c.args.content.now (omega (arith, c.requires.whole, all_sizes d))
    (omega (arith, c.ranges.number.fits)) c.place_in-place.ensures in
    rw shown (search rules)
