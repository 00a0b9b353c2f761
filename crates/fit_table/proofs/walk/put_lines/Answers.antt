use Rattle.std.proofs.Common.{◌≡◌, ◌∷◌, [], length, map, ap, sym, ◌∙◌, arith}
use Rattle.fit_grammar.proofs.Counted.{few_messages}
use Rattle.fit_grammar.specs.Format.Item.{Defines}
use Rattle.fit_grammar.specs.Format.Message.{messages_of}
use Rattle.fit_grammar.specs.Format.Records.{in_force}
use Rattle.fit_grammar.specs.Calls.LentItem.{lent_item, messages_in}
use Rattle.fit_grammar.specs.Calls.Table.{in_force_after}
use Rattle.fit_table.proofs.NamedLemmas.{name_of}
use Rattle.fit_table.proofs.TokenLemmas.{begin_tokens, less_tokens, off_tokens}
use Rattle.fit_table.proofs.LineLemmas.{next_line, other_line}
use Rattle.fit_table.proofs.walk.put_lines.Goals as goal

pub loop-item-init : goal.loop-item-init
loop-item-init g c =
    let all = c.into_iter-item-iterator.ensures.into_iter_gives in
    let stated : messages_in c.into_iter-item-iterator.result ≡ messages_of c.args.file.now.items =
    ap messages_in all ∙ c.items-item-items.ensures.messages in (
      in_force [],
      record {
        under = rw all c.items-item-items.ensures.under;
        plans = c.new-plans.ensures c.as_slice-codes.result.now [] (in_force []);
        named = c.new-named.ensures c.args.known.now (map name_of c.args.names.now) (in_force []);
        count = omega (arith, ap length stated);
        put = rw stated (begin_tokens _ _);
      },
    )

pub loop-item-preserved-in-Definition : goal.loop-item-preserved-in-Definition
loop-item-preserved-in-Definition g c =
    let definition_for = c.loop-item.invariant.0 in
    let kept = c.loop-item.invariant.1 in
    let d = c.in-Definition.definition in
    let steps = c.in-Some.ensures.steps ∙ ap (λ item. lent_item item ∷ c.next.new.self) c.in-Definition.is in
    let under = rw steps at kept.under in (
      in_force_after (Defines d) definition_for,
      record {
        under = under.1;
        plans = c.forget.ensures c.as_slice-codes.result.now [] definition_for d (sym c.local.ensures) kept.plans;
        named = c.forget-in-Definition.ensures c.args.known.now (map name_of c.args.names.now) c.loop-item.next definition_for d
            (sym c.local-in-Definition.ensures) kept.named;
        count = rw steps at kept.count;
        put = rw steps at kept.put;
      },
    )

pub overflow_add-next : goal.overflow_add-next
overflow_add-next g c =
    let steps = c.in-Some.ensures.steps ∙ ap (λ item. lent_item item ∷ c.next.new.self) c.in-Data.is in
    omega (
      arith,
      few_messages c.args.file.now.items,
      c.data_size.ensures,
      c.loop-item.invariant.1.count,
      ap (λ items. length (messages_in items)) steps,
    )

pub loop-item-preserved-then-global-message : goal.loop-item-preserved-then-global-message
loop-item-preserved-then-global-message g c =
    let definition_for = c.loop-item.invariant.0 in
    let kept = c.loop-item.invariant.1 in
    let found = c.in-Data.found in
    let steps = c.in-Some.ensures.steps ∙ ap (λ item. lent_item item ∷ c.next.new.self) c.in-Data.is in
    let under = rw steps at kept.under in (
      definition_for,
      record {
        under = under.2;
        plans = kept.plans;
        named = (rw c.known.ensures at c.pass.ensures) (map name_of c.args.names.now) definition_for kept.named;
        count = omega (arith, kept.count, ap (λ items. length (messages_in items)) steps);
        put = rw (
          steps,
          other_line (g.L.Line.tokens c.args.line.now c.args.known.now (map name_of c.args.names.now)) c.args.message c.loop-item.next found.definition c.in-Data.time found.content.now
              (messages_in c.next.new.self) (λ e. c.if-global-message.true (c.global.ensures ∙ e)),
        ) at kept.put;
      },
    )

pub put-requires : goal.put-requires
put-requires g c =
    let definition_for = c.loop-item.invariant.0 in
    let kept = c.loop-item.invariant.1 in
    let found = c.in-Data.found in
    let steps = c.in-Some.ensures.steps ∙ ap (λ item. lent_item item ∷ c.next.new.self) c.in-Data.is in
    let under = rw steps at kept.under in
    let plans = c.settle.ensures.plans definition_for under.1 kept.plans in
    record {
      cells = (
        c.args.known.now,
        map name_of c.args.names.now,
        c.loop-item.next,
        (c.settle-in-Data.ensures.cells definition_for under.1 kept.named).are found.local found.definition c.get-cells.result.now c.get-cells.ensures under.1,
      );
      numbers = rw c.requires.fields at c.codes_of-codes.ensures.small;
      plan = rw (← c.requires.fields, ← c.codes_of-codes.ensures.same, ← c.as_slice-codes.ensures.value)
          (plans found.local found.definition c.get-plan.result.now c.get-plan.ensures under.1).0;
    }

pub loop-item-preserved : goal.loop-item-preserved
loop-item-preserved g c =
    let definition_for = c.loop-item.invariant.0 in
    let kept = c.loop-item.invariant.1 in
    let found = c.in-Data.found in
    let steps = c.in-Some.ensures.steps ∙ ap (λ item. lent_item item ∷ c.next.new.self) c.in-Data.is in
    let under = rw steps at kept.under in
    let is = sym c.global.ensures ∙ c.if-global-message.false in
    let named = c.settle-in-Data.ensures.cells definition_for under.1 kept.named in
    let cells = named.are found.local found.definition c.get-cells.result.now c.get-cells.ensures under.1 in (
      definition_for,
      record {
        under = under.2;
        named = (rw c.known-in-Data.ensures at c.pass-in-Data.ensures) (map name_of c.args.names.now) definition_for named;
        plans = λ local d plan there has. ((c.settle.ensures.plans definition_for under.1 kept.plans local d plan there has).0, λ code below. absurd (omega (arith, below)));
        count = omega (arith, kept.count, ap (λ items. length (messages_in items)) steps);
        put = less_tokens _ (rw steps at kept.put) (c.in_ok-put-in-Data.ensures c.args.known.now (map name_of c.args.names.now) c.loop-item.next cells)
            (next_line (g.L.Line.tokens c.args.line.now c.args.known.now (map name_of c.args.names.now)) c.args.message c.loop-item.next found.definition c.in-Data.time found.content.now
            (messages_in c.next.new.self) is);
      },
    )

pub returns-in_err-put-in-Data : goal.returns-in_err-put-in-Data
returns-in_err-put-in-Data g c =
    let kept = c.loop-item.invariant.1 in
    let found = c.in-Data.found in
    let steps = c.in-Some.ensures.steps ∙ ap (λ item. lent_item item ∷ c.next.new.self) c.in-Data.is in
    let definition_for = c.loop-item.invariant.0 in
    let under = rw steps at kept.under in
    let is = sym c.global.ensures ∙ c.if-global-message.false in
    let cells = (c.settle-in-Data.ensures.cells definition_for under.1 kept.named).are found.local found.definition c.get-cells.result.now c.get-cells.ensures under.1 in
    off_tokens _ c.from_residual.ensures.0 (rw steps at kept.put) (c.in_err-put-in-Data.ensures c.args.known.now (map name_of c.args.names.now) c.loop-item.next cells)
    (next_line (g.L.Line.tokens c.args.line.now c.args.known.now (map name_of c.args.names.now)) c.args.message c.loop-item.next found.definition c.in-Data.time
    found.content.now (messages_in c.next.new.self) is)
