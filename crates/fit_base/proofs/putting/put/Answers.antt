use Rattle.std.proofs.Common.{◌≡◌, ◌∙◌, ap₂, length, rules}
use Rattle.std.proofs.lemmas.Int.{to_z-of_z}
use Rattle.std.specs.Int.{w128}
use Rattle.fit_base.specs.Number.{number, as_unsigned}
use Rattle.fit_base.specs.Base.{row_of}
use Rattle.fit_base.proofs.Fields.{unsigned_at-field_of, signed_at-field_of}
use Rattle.fit_base.proofs.putting.put.Goals as goal

pub returns-clause-unsigned : goal.returns-clause-unsigned
returns-clause-unsigned c =
    let same = ap₂ as_unsigned c.size.ensures (to_z-of_z w128 c.args.value c.ranges.value) in
    let len : length c.put_number.new.out ≡ (row_of c.args.base).size = search rules in
    unsigned_at-field_of c.args.base c.args.arch c.put_number.new.out len
    ∙ c.put_number.ensures ∙ c.number_for.ensures.number ∙ same

pub returns-clause-signed : goal.returns-clause-signed
returns-clause-signed c signed =
    let same = ap₂ as_unsigned c.size.ensures (to_z-of_z w128 c.args.value c.ranges.value) in
    let len : length c.put_number.new.out ≡ (row_of c.args.base).size = search rules in
    let written : number c.args.arch c.put_number.new.out ≡ as_unsigned (row_of c.args.base).size c.args.value =
    c.put_number.ensures ∙ c.number_for.ensures.number ∙ same in
    signed_at-field_of c.args.base c.args.arch c.put_number.new.out c.args.value len written signed c.requires.low c.requires.high
