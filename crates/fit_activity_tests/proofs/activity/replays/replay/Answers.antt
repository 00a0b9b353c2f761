use Rattle.std.proofs.Common.{◌++◌, ◌∷◌, [], length, refl, ap, sym, ◌∙◌, arith, append_assoc, length-append}
use Rattle.fit_grammar.proofs.Counted.{few_messages}
use Rattle.fit_activity_tests.proofs.activity.replays.replay.Goals as goal

pub loop-message-init : goal.loop-message-init
loop-message-init c = ([], refl, c.new-replay.ensures)

pub apply-requires : goal.apply-requires
apply-requires c =
    let heard = c.loop-message.invariant in
    let all = c.into_iter-message-iterator.ensures.into_iter_gives ∙ c.messages-message-items.ensures in (
      heard.0,
      heard.2,
      omega (
        arith,
        ap length all,
        few_messages c.args.file.now.items,
        c.frame-frame.ensures.possible.bound,
        ap length heard.1,
        length-append heard.0 c.loop-message.message-iterator,
      ),
    )

pub loop-message-preserved : goal.loop-message-preserved
loop-message-preserved c =
    let heard = c.loop-message.invariant in
    let m = c.in-Some.message.message in (
      heard.0 ++ m ∷ [],
      heard.1 ∙ ap (λ xs. heard.0 ++ xs) c.in-Some.ensures.steps ∙ sym (append_assoc heard.0 (m ∷ []) c.next.new.self),
      c.in-Ok.ensures.heard heard.0 heard.2,
    )
