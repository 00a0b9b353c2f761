use Rattle.std.proofs.Common.{ℕ, ◌+◌, ◌++◌, ◌∷◌, [], ◌<◌, ◌^◌, cond, length, refl, ap, sym, ◌∙◌, arith, append-nil, append_assoc}
use Rattle.std.proofs.lemmas.Bool.{eq-eqb, ne_eqb}
use Rattle.fit_activity.specs.Files.Activity.{messages_counted}
use Rattle.fit_grammar.proofs.Counted.{few_messages}
use Rattle.fit_activity.proofs.FinishedActivity.Passed.{count-push, count-room}
use Rattle.fit_finishing.proofs.closing.count_of.Goals as goal

pub loop-message-init : goal.loop-message-init
loop-message-init c = ([], refl, refl)

pub overflow_add-count : goal.overflow_add-count
overflow_add-count c =
    let seen = c.loop-message.invariant in
    let all = c.into_iter-message-iterator.ensures.into_iter_gives ∙ c.messages-message-items.ensures in
    let few : length c.into_iter-message-iterator.result < 2 ^ 32 =
    omega (arith, ap length all, few_messages c.args.file.now.items, c.frame-frame.ensures.possible.bound) in
    let room = count-room c.args.global seen.0 _ c.next.new.self _ (seen.1 ∙ ap (λ xs. seen.0 ++ xs) c.in-Some.ensures.steps) few in
    omega (arith, room, seen.2)

pub loop-message-preserved-then-global : goal.loop-message-preserved-then-global
loop-message-preserved-then-global c =
    let seen = c.loop-message.invariant in
    let m = c.in-Some.message.message in
    let one = eq-eqb m.global c.args.global (sym c.global.ensures ∙ c.if-global.true) in (
      seen.0 ++ m ∷ [],
      seen.1 ∙ ap (λ xs. seen.0 ++ xs) c.in-Some.ensures.steps ∙ sym (append_assoc seen.0 (m ∷ []) c.next.new.self),
      ap (λ (n : ℕ). n + 1) seen.2 ∙ ap (λ b. messages_counted c.args.global seen.0 + cond b 1 0) (sym one) ∙ count-push c.args.global seen.0 m,
    )

pub loop-message-preserved : goal.loop-message-preserved
loop-message-preserved c =
    let seen = c.loop-message.invariant in
    let m = c.in-Some.message.message in
    let none = ne_eqb m.global c.args.global (λ is. c.if-global.false (c.global.ensures ∙ is)) in (
      seen.0 ++ m ∷ [],
      seen.1 ∙ ap (λ xs. seen.0 ++ xs) c.in-Some.ensures.steps ∙ sym (append_assoc seen.0 (m ∷ []) c.next.new.self),
      omega (arith, seen.2, ap (λ b. messages_counted c.args.global seen.0 + cond b 1 0) (sym none) ∙ count-push c.args.global seen.0 m),
    )

pub returns : goal.returns
returns c =
    let seen = c.loop-message.invariant in
    let all = sym c.messages-message-items.ensures ∙ sym c.into_iter-message-iterator.ensures.into_iter_gives ∙ seen.1
    ∙ ap (λ xs. seen.0 ++ xs) c.in-None.ensures.steps.0 ∙ append-nil seen.0 in
    seen.2 ∙ ap (messages_counted c.args.global) (sym all)
