use Rattle.std.proofs.Common.{◌≡◌, ◌+◌, ◌-◌, ◌++◌, ℕ, take, drop, ap, ◌∙◌, arith}
use Rattle.fit_shifting.specs.Private.Content.{field_moved}
use Rattle.fit_shifting.proofs.Middle.{front_back, rest_back}
use Rattle.fit_shifting.proofs.MovedMessage.{next_length}
use Rattle.fit_shifting.proofs.content.move_next.Goals as goal

pub returns-clause-moved : goal.returns-clause-moved
returns-clause-moved c =
    let field = c.args.field.now in
    let at = c.args.at in
    let content = c.args.content.now in
    let new = c.move_field.new.bytes in
    let count : at + field.size - at ≡ field.size = omega arith in
    front_back content new at _ field.size c.requires
    (next_length c.args.shift c.args.message c.args.arch field content new at c.requires c.move_field.ensures)
    ∙ ap (λ l. take at content ++ l) c.move_field.ensures
    ∙ ap (λ (n : ℕ). take at content ++ field_moved c.args.shift c.args.message c.args.arch field (take n (drop at content))) count

pub returns-clause-rest : goal.returns-clause-rest
returns-clause-rest c =
    let field = c.args.field.now in
    let at = c.args.at in
    let content = c.args.content.now in
    let new = c.move_field.new.bytes in
    let count : at + field.size - at ≡ field.size = omega arith in
    rest_back content new at _ field.size c.requires
    (next_length c.args.shift c.args.message c.args.arch field content new at c.requires c.move_field.ensures)
    ∙ ap (λ (n : ℕ). drop n (drop at content)) count
