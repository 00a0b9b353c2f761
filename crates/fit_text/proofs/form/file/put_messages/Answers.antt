use Rattle.std.proofs.Common.{◌≡◌, ◌∷◌, [], length, refl, ap, sym, ◌∙◌, arith}
use Rattle.std.specs.List.{flat_map, enumerate_from}
use Rattle.fit_grammar.specs.Format.Item.{Defines}
use Rattle.fit_grammar.specs.Format.Message.{messages_of}
use Rattle.fit_grammar.specs.Format.Records.{in_force}
use Rattle.fit_grammar.specs.Calls.LentItem.{lent_item, messages_in}
use Rattle.fit_grammar.specs.Calls.Table.{in_force_after}
use Rattle.fit_text.specs.Form.{line_of}
use Rattle.fit_text.proofs.PenLemmas.{leaves_all, leaves_less, leaves_off}
use Rattle.fit_text.proofs.PlanLemmas.{plan_at, plan_got}
use Rattle.fit_text.proofs.form.file.put_messages.Goals as goal

pub loop-item-init : goal.loop-item-init
loop-item-init g c =
    let all = c.into_iter-item-iterator.ensures.into_iter_gives in
    let stated : messages_in c.into_iter-item-iterator.result ≡ messages_of c.args.file.now.items =
    ap messages_in all ∙ c.items-item-items.ensures.messages in (
      in_force [],
      record {
        under = rw all c.items-item-items.ensures.under;
        plans = c.new-plans.ensures.plans (in_force []);
        utc = c.new-plans.ensures.utc;
        empty = c.new-plans.ensures.empty ∙ ap (λ notation. notation.empty) c.notation.ensures;
        same = refl;
        put = rw stated (leaves_all _ _);
        count = omega (arith, ap length stated);
      },
    )

pub forget-requires : goal.forget-requires
forget-requires g c =
    let steps = c.in-Some.ensures.steps ∙ ap (λ item. lent_item item ∷ c.next.new.self) c.in-Definition.is in
    let under = rw steps at c.loop-item.invariant.1.under in
    omega (arith, under.0, c.local.ensures)

pub loop-item-preserved-in-Definition : goal.loop-item-preserved-in-Definition
loop-item-preserved-in-Definition g c =
    let definition_for = c.loop-item.invariant.0 in
    let kept = c.loop-item.invariant.1 in
    let d = c.in-Definition.definition in
    let steps = c.in-Some.ensures.steps ∙ ap (λ item. lent_item item ∷ c.next.new.self) c.in-Definition.is in
    let under = rw steps at kept.under in (
      in_force_after (Defines d) definition_for,
      record {
        under = under.1;
        plans = c.forget.ensures.plans definition_for d (sym c.local.ensures) kept.plans;
        utc = c.forget.ensures.utc ∙ kept.utc;
        empty = c.forget.ensures.empty ∙ kept.empty;
        same = kept.same;
        put = rw steps at kept.put;
        count = rw steps at kept.count;
      },
    )

pub settle-requires : goal.settle-requires
settle-requires g c =
    let steps = c.in-Some.ensures.steps ∙ ap (λ item. lent_item item ∷ c.next.new.self) c.in-Data.is in
    let under = rw steps at c.loop-item.invariant.1.under in
    under.0

pub get-requires : goal.get-requires
get-requires g c =
    let definition_for = c.loop-item.invariant.0 in
    let message = c.in-Data.message in
    let steps = c.in-Some.ensures.steps ∙ ap (λ item. lent_item item ∷ c.next.new.self) c.in-Data.is in
    let under = rw steps at c.loop-item.invariant.1.under in
    let plans = c.settle.ensures.plans definition_for under.1 c.loop-item.invariant.1.plans in
    (message.definition, plan_at definition_for _ message.local message.definition c.settle.ensures.some under.1 plans)

pub put_message-requires : goal.put_message-requires
put_message-requires g c =
    let definition_for = c.loop-item.invariant.0 in
    let message = c.in-Data.message in
    let steps = c.in-Some.ensures.steps ∙ ap (λ item. lent_item item ∷ c.next.new.self) c.in-Data.is in
    let under = rw steps at c.loop-item.invariant.1.under in
    let plans = c.settle.ensures.plans definition_for under.1 c.loop-item.invariant.1.plans in
    let empty = c.settle.ensures.empty ∙ c.loop-item.invariant.1.empty in
    rw (c.loop-item.invariant.1.same, ← empty) (plan_got definition_for _ message.local message.definition _ _ _ c.get.ensures.plan c.get.ensures.columns c.get.ensures.developer under.1 plans).0

pub returns-in_err-put_message-in-Data-clause-text : goal.returns-in_err-put_message-in-Data-clause-text
returns-in_err-put_message-in-Data-clause-text g c =
    let definition_for = c.loop-item.invariant.0 in
    let kept = c.loop-item.invariant.1 in
    let message = c.in-Data.message in
    let steps = c.in-Some.ensures.steps ∙ ap (λ item. lent_item item ∷ c.next.new.self) c.in-Data.is in
    let under = rw steps at kept.under in
    let plans = c.settle.ensures.plans definition_for under.1 kept.plans in
    let got = plan_got definition_for _ message.local message.definition _ _ _ c.get.ensures.plan c.get.ensures.columns c.get.ensures.developer under.1 plans in
    let utc = got.1 ∙ c.settle.ensures.utc ∙ kept.utc in
    leaves_off _ c.from_residual.ensures.0 kept.put (rw (utc, kept.same) at c.in_err-put_message-in-Data.ensures.text)
    (ap (λ items. flat_map (λ row. line_of (g.F.Form.form c.args.form.now) c.args.utc row.0 row.1) (enumerate_from c.loop-item.number (messages_in items))) steps)

pub loop-item-preserved : goal.loop-item-preserved
loop-item-preserved g c =
    let definition_for = c.loop-item.invariant.0 in
    let kept = c.loop-item.invariant.1 in
    let message = c.in-Data.message in
    let steps = c.in-Some.ensures.steps ∙ ap (λ item. lent_item item ∷ c.next.new.self) c.in-Data.is in
    let under = rw steps at kept.under in
    let plans = c.settle.ensures.plans definition_for under.1 kept.plans in
    let got = plan_got definition_for _ message.local message.definition _ _ _ c.get.ensures.plan c.get.ensures.columns c.get.ensures.developer under.1 plans in
    let utc = got.1 ∙ c.settle.ensures.utc ∙ kept.utc in (
      definition_for,
      record {
        under = under.2;
        plans = plans;
        utc = c.settle.ensures.utc ∙ kept.utc;
        empty = c.settle.ensures.empty ∙ kept.empty;
        same = c.in_ok-put_message-in-Data.ensures.same ∙ kept.same;
        put = leaves_less _ kept.put (rw (utc, kept.same) at c.in_ok-put_message-in-Data.ensures.text)
            (ap (λ items. flat_map (λ row. line_of (g.F.Form.form c.args.form.now) c.args.utc row.0 row.1) (enumerate_from c.loop-item.number (messages_in items))) steps);
        count = omega (arith, kept.count, ap (λ items. length (messages_in items)) steps);
      },
    )
