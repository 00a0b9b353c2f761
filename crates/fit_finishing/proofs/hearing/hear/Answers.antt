use Rattle.std.proofs.Common.{◌++◌, ◌∷◌, [], ◌<◌, ◌^◌, length, refl, ap, sym, ◌∙◌, subst, arith, append-nil, append_assoc, length-append}
use Rattle.fit_grammar.proofs.Counted.{few_messages}
use Rattle.fit_finishing.specs.Heard.{heard_as, heard_if}
use Rattle.fit_finishing.specs.Private.Ride.{IsHearing}
use Rattle.fit_finishing.proofs.Room.{heard-held, heard-push, none-given}
use Rattle.fit_finishing.proofs.hearing.hear.Goals as goal

pub loop-message-init : goal.loop-message-init
loop-message-init c = ([], refl, refl)

pub hear_entry-requires : goal.hear_entry-requires
hear_entry-requires c =
    let seen = c.loop-message.invariant in
    let all = c.into_iter-message-iterator.ensures.into_iter_gives ∙ c.messages-message-items.ensures in
    let few : length c.into_iter-message-iterator.result < 2 ^ 32 =
    omega (arith, ap length all, few_messages c.args.file.now.items, c.frame-frame.ensures.possible.bound) in
    let m = c.in-Some.message.message in
    let whole = ap length (seen.1 ∙ ap (λ xs. seen.0 ++ xs) c.in-Some.ensures.steps) ∙ length-append seen.0 (m ∷ c.next.new.self) in
    (heard_as c.args.sport seen.0, seen.2, omega (arith, heard-held c.args.sport seen.0, whole, few))

pub loop-message-preserved-in-Some-entry_in : goal.loop-message-preserved-in-Some-entry_in
loop-message-preserved-in-Some-entry_in c =
    let seen = c.loop-message.invariant in
    let m = c.in-Some.message.message in
    let so_far = heard_as c.args.sport seen.0 in (
      seen.0 ++ m ∷ [],
      seen.1 ∙ ap (λ xs. seen.0 ++ xs) c.in-Some.ensures.steps ∙ sym (append_assoc seen.0 (m ∷ []) c.next.new.self),
      subst (IsHearing c.hear_entry.new.self) (ap (λ o. heard_if c.args.sport o so_far) c.in-Some-entry_in.ensures ∙ sym (heard-push c.args.sport seen.0 m))
          (c.hear_entry.ensures so_far seen.2),
    )

pub loop-message-preserved : goal.loop-message-preserved
loop-message-preserved c =
    let seen = c.loop-message.invariant in
    let m = c.in-Some.message.message in
    let so_far = heard_as c.args.sport seen.0 in (
      seen.0 ++ m ∷ [],
      seen.1 ∙ ap (λ xs. seen.0 ++ xs) c.in-Some.ensures.steps ∙ sym (append_assoc seen.0 (m ∷ []) c.next.new.self),
      subst (IsHearing c.loop-message.hearing) (ap (λ o. heard_if c.args.sport o so_far) (none-given c.entry_in.result (λ e is. c.in_default.not-Some e is) ∙ c.entry_in.ensures) ∙ sym (heard-push c.args.sport seen.0 m)) seen.2,
    )

pub returns : goal.returns
returns c =
    let seen = c.loop-message.invariant in
    let all = sym c.messages-message-items.ensures ∙ sym c.into_iter-message-iterator.ensures.into_iter_gives ∙ seen.1
    ∙ ap (λ xs. seen.0 ++ xs) c.in-None.ensures.steps.0 ∙ append-nil seen.0 in
    subst (λ messages. IsHearing c.loop-message.hearing (heard_as c.args.sport messages)) (sym all) seen.2
