use Rattle.std.proofs.Common.{◌≡◌, ◌==◌, ◌∷◌, max, false, [], ◌++◌, length, get_or, ap, refl, sym, ◌∙◌, append-nil, append_assoc, length-append, arith, rules}
use Rattle.std.specs.Option.{is_some}
use Rattle.fit_grammar.specs.Format.Item.{Defines}
use Rattle.fit_grammar.specs.Format.Message.{messages_of}
use Rattle.fit_grammar.specs.Format.Records.{in_force}
use Rattle.fit_grammar.specs.Calls.LentItem.{lent_item, data_under, items_lent, messages_in}
use Rattle.fit_grammar.specs.Calls.Table.{in_force_after}
use Rattle.fit_columns.specs.Fields.{held_in, timed_in}
use Rattle.fit_columns.specs.Rows.{rows_from}
use Rattle.fit_columns.proofs.WalkLemmas.{few_rows, rows_more, held_step, held_skip, timed_step}
use Rattle.fit_columns.proofs.walk.walk.Goals as goal

pub loop-item-init : goal.loop-item-init
loop-item-init g c =
    let given = c.into_iter-item-iterator.ensures.into_iter_gives in
    let all = given ∙ c.items-item-items.ensures.items in
    let stated : messages_in c.into_iter-item-iterator.result ≡ messages_of c.args.file.now.items =
    ap messages_in given ∙ c.items-item-items.ensures.messages in (
      in_force [],
      [],
      record {
        under = rw given c.items-item-items.ensures.under;
        plans = c.new-plans.ensures c.args.codes.now c.args.held.now (in_force []);
        next = omega (arith, ap length stated);
        has_taken = c.requires.begins;
        keeps = refl;
        all = ap (rows_from c.args.message 0) all;
        timed = ap (timed_in c.args.message) all;
        held = λ code below.
            omega (arith, c.requires.none code below, ap (λ items. held_in c.args.message items code) all);
      },
    )

pub loop-item-preserved-in-Definition : goal.loop-item-preserved-in-Definition
loop-item-preserved-in-Definition g c =
    let definition_for = c.loop-item.invariant.0 in
    let kept = c.loop-item.invariant.2 in
    let d = c.in-Definition.definition in
    let steps = c.in-Some.ensures.steps ∙ ap (λ item. lent_item item ∷ c.next.new.self) c.in-Definition.is in
    let under = rw steps at kept.under in (
      in_force_after (Defines d) definition_for,
      c.loop-item.invariant.1,
      record {
        under = under.1;
        plans = c.forget.ensures c.args.codes.now c.loop-item.held definition_for d (sym c.local.ensures) kept.plans;
        next = rw steps at kept.next;
        has_taken = kept.has_taken;
        keeps = kept.keeps;
        all = rw steps at kept.all;
        timed = rw steps at kept.timed;
        held = rw steps at kept.held;
      },
    )

pub overflow_add-next : goal.overflow_add-next
overflow_add-next g c =
    let steps = c.in-Some.ensures.steps ∙ ap (λ item. lent_item item ∷ c.next.new.self) c.in-Data.is in
    omega (arith, c.requires.small, c.loop-item.invariant.2.next, ap (λ items. length (messages_in items)) steps)

pub loop-item-preserved-then-global-message : goal.loop-item-preserved-then-global-message
loop-item-preserved-then-global-message g c =
    let kept = c.loop-item.invariant.2 in
    let found = c.in-Data.found in
    let m = data_under found.definition found.local found.offset c.in-Data.time found.content.now in
    let steps = c.in-Some.ensures.steps ∙ ap (λ item. lent_item item ∷ c.next.new.self) c.in-Data.is in
    let under = rw steps at kept.under in
    let other : found.definition.global ≡ c.args.message → ⊥ = λ e. c.if-global-message.true (c.global.ensures ∙ e) in
    let no : (found.definition.global == c.args.message) ≡ false = search rules in
    let next = rw steps at kept.next in (
      c.loop-item.invariant.0,
      c.loop-item.invariant.1,
      record {
        under = under.2;
        plans = kept.plans;
        next = omega (arith, next);
        has_taken = kept.has_taken;
        keeps = kept.keeps;
        all = rw no at rw steps at kept.all;
        timed = rw no at rw steps at kept.timed;
        held = λ code below.
            let before = rw steps at kept.held code below in
            ap (λ n. max (get_or c.loop-item.held code 0) n) (sym (held_skip c.args.message code m c.next.new.self other)) ∙ before;
      },
    )

pub take-requires : goal.take-requires
take-requires g c =
    let definition_for = c.loop-item.invariant.0 in
    let taken = c.loop-item.invariant.1 in
    let kept = c.loop-item.invariant.2 in
    let found = c.in-Data.found in
    let steps = c.in-Some.ensures.steps ∙ ap (λ item. lent_item item ∷ c.next.new.self) c.in-Data.is in
    let under = rw steps at kept.under in
    let plans = c.settle.ensures.plans definition_for under.1 kept.plans in
    let own = plans found.local found.definition c.get.result.now c.get.ensures under.1 in
    let few = few_rows c.args.message 0 (items_lent c.args.file.now.items) in (
      c.args.codes.now,
      taken,
      own.0,
      kept.has_taken,
      omega (
        arith,
        few,
        length-append taken (rows_from c.args.message c.loop-item.next c.loop-item.item-iterator),
        ap length kept.all,
        c.requires.small,
        ap length c.items-item-items.ensures.messages,
        ap (λ items. length (messages_in items)) c.items-item-items.ensures.items,
      ),
      c.requires.few,
    )

pub loop-item-preserved : goal.loop-item-preserved
loop-item-preserved g c =
    let definition_for = c.loop-item.invariant.0 in
    let taken = c.loop-item.invariant.1 in
    let kept = c.loop-item.invariant.2 in
    let found = c.in-Data.found in
    let rest = c.next.new.self in
    let next = c.loop-item.next in
    let m = data_under found.definition found.local found.offset c.in-Data.time found.content.now in
    let steps = c.in-Some.ensures.steps ∙ ap (λ item. lent_item item ∷ c.next.new.self) c.in-Data.is in
    let under = rw steps at kept.under in
    let is = sym c.global.ensures ∙ c.if-global-message.false in
    let places = rw steps at kept.next in
    let more = rows_more c.args.message next m rest is in
    let all = rw more at rw steps at kept.all in
    let held = rw steps at kept.held in
    let timed = rw steps at kept.timed in
    let seen : c.is_some-timed.result ≡ is_some c.in-Data.time = search rules in
    let plans = c.settle.ensures.plans definition_for under.1 kept.plans in
    let own = plans found.local found.definition c.get.result.now c.get.ensures under.1 in
    let noted = c.settle.ensures.noted definition_for under.1 kept.plans in (
      definition_for,
      taken ++ record { place = next; lent = m } ∷ [],
      record {
        under = under.2;
        plans = plans;
        next = omega (arith, places);
        has_taken = c.take.ensures.taken c.args.codes.now taken own.0 kept.has_taken;
        keeps = c.take.ensures.keeps ∙ kept.keeps;
        all = append_assoc taken _ _ ∙ all;
        timed = timed_step c.args.message c.loop-item.timed c.is_some-timed.result _ m rest _ is seen refl timed;
        held = λ code below. held_step c.args.message code c.loop-item.held c.settle.new.held m rest _ is
            (omega (arith, below, c.loop-item.auto.held)) noted (held code below);
      },
    )

pub returns-clause-taken : goal.returns-clause-taken
returns-clause-taken g c =
    let kept = c.loop-item.invariant.2 in
    let done : c.loop-item.item-iterator ≡ [] = c.in-None.ensures.steps.0 in
    let all = rw done at kept.all in
    rw (← all, append-nil) kept.has_taken
