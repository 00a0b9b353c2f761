use Rattle.std.proofs.Common.{◌≡◌, ℕ, ◌+◌, ◌-◌, sym, ap, arith}
use Rattle.fit_grammar.specs.Format.Records.{in_force}
use Rattle.fit_grammar.proofs.Pieces.Carried.{after_begun}
use Rattle.fit_grammar.proofs.file.carry.take_begun.Goals as goal

pub overflow_sub-result : goal.overflow_sub-result
overflow_sub-result c =
    let r = c.args.reading.now in
    let taken = (rw c.deref.ensures.value at c.in-Ok.ensures.taken).taken in
    after_begun (in_force r.file.items) r.carry.items taken.item c.args.had c.in-Ok.used c.requires.had taken.at_front
    c.requires.begun

pub returns-in-Ok-clause-taken : goal.returns-in-Ok-clause-taken
returns-in-Ok-clause-taken c =
    let r = c.args.reading.now in
    let taken = rw c.deref.ensures.value at c.in-Ok.ensures.taken in
    let le = after_begun (in_force r.file.items) r.carry.items taken.taken.item c.args.had c.in-Ok.used c.requires.had
    taken.taken.at_front c.requires.begun in
    let all : c.args.had + (c.in-Ok.used - c.args.had) ≡ c.in-Ok.used = omega arith in
    (rw all taken, ap (λ (n : ℕ). r.at + n) (sym all), c.clear.ensures.items)
