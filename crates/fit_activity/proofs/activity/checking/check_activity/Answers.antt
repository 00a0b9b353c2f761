use Rattle.std.proofs.Common.{◌++◌, ◌∷◌, [], ◌<◌, ◌^◌, length, refl, ap, sym, ◌∙◌, arith, append-nil, append_assoc}
use Rattle.fit_activity.specs.Files.Activity.{activity_in}
use Rattle.fit_activity.specs.Private.Seen.{seen_with, activity_seen}
use Rattle.fit_grammar.proofs.Counted.{few_messages}
use Rattle.fit_activity.proofs.FinishedActivity.Passed.{seen-push, count-room}
use Rattle.fit_activity.proofs.activity.checking.check_activity.Goals as goal

pub loop-message-init : goal.loop-message-init
loop-message-init c = ([], refl, c.new-seen.ensures)

pub loop-message-preserved : goal.loop-message-preserved
loop-message-preserved c =
    let seen = c.loop-message.invariant in
    let m = c.in-Some.message.message in (
      seen.0 ++ m ∷ [],
      seen.1 ∙ ap (λ xs. seen.0 ++ xs) c.in-Some.ensures.steps ∙ sym (append_assoc seen.0 (m ∷ []) c.next.new.self),
      c.take.ensures ∙ ap (λ s. seen_with s m) seen.2 ∙ seen-push seen.0 m,
    )

pub take-requires-clause-records : goal.take-requires-clause-records
take-requires-clause-records c =
    let seen = c.loop-message.invariant in
    let all = c.into_iter-message-iterator.ensures.into_iter_gives ∙ c.messages-message-items.ensures in
    let few : length c.into_iter-message-iterator.result < 2 ^ 32 =
    omega (arith, ap length all, few_messages c.args.file.now.items, c.frame-frame.ensures.possible.bound) in
    let room = count-room 20 seen.0 _ c.next.new.self _ (seen.1 ∙ ap (λ xs. seen.0 ++ xs) c.in-Some.ensures.steps) few in
    omega (arith, room, ap (λ s. s.records) seen.2)

pub take-requires-clause-laps : goal.take-requires-clause-laps
take-requires-clause-laps c =
    let seen = c.loop-message.invariant in
    let all = c.into_iter-message-iterator.ensures.into_iter_gives ∙ c.messages-message-items.ensures in
    let few : length c.into_iter-message-iterator.result < 2 ^ 32 =
    omega (arith, ap length all, few_messages c.args.file.now.items, c.frame-frame.ensures.possible.bound) in
    let room = count-room 19 seen.0 _ c.next.new.self _ (seen.1 ∙ ap (λ xs. seen.0 ++ xs) c.in-Some.ensures.steps) few in
    omega (arith, room, ap (λ s. s.laps) seen.2)

pub take-requires-clause-sessions : goal.take-requires-clause-sessions
take-requires-clause-sessions c =
    let seen = c.loop-message.invariant in
    let all = c.into_iter-message-iterator.ensures.into_iter_gives ∙ c.messages-message-items.ensures in
    let few : length c.into_iter-message-iterator.result < 2 ^ 32 =
    omega (arith, ap length all, few_messages c.args.file.now.items, c.frame-frame.ensures.possible.bound) in
    let room = count-room 18 seen.0 _ c.next.new.self _ (seen.1 ∙ ap (λ xs. seen.0 ++ xs) c.in-Some.ensures.steps) few in
    omega (arith, room, ap (λ s. s.sessions) seen.2)

pub take-requires-clause-activities : goal.take-requires-clause-activities
take-requires-clause-activities c =
    let seen = c.loop-message.invariant in
    let all = c.into_iter-message-iterator.ensures.into_iter_gives ∙ c.messages-message-items.ensures in
    let few : length c.into_iter-message-iterator.result < 2 ^ 32 =
    omega (arith, ap length all, few_messages c.args.file.now.items, c.frame-frame.ensures.possible.bound) in
    let room = count-room 34 seen.0 _ c.next.new.self _ (seen.1 ∙ ap (λ xs. seen.0 ++ xs) c.in-Some.ensures.steps) few in
    omega (arith, room, ap (λ s. s.activities) seen.2)

pub returns : goal.returns
returns c =
    let seen = c.loop-message.invariant in
    let all = sym c.messages-message-items.ensures ∙ sym c.into_iter-message-iterator.ensures.into_iter_gives ∙ seen.1
    ∙ ap (λ xs. seen.0 ++ xs) c.in-None.ensures.steps.0 ∙ append-nil seen.0 in
    c.verdict.ensures ∙ ap activity_seen seen.2 ∙ ap activity_in (sym all)
