use Rattle.std.proofs.Common.{◌≡◌, inr, ◌<◌, ◌+◌, ◌++◌, [], ℕ, All, List, map, take, length, get_or, Bor, sym, ap, subst, ◌∙◌, arith}
use Rattle.std.proofs.lemmas.List.Elements.{All-more}
use Rattle.std.proofs.lemmas.Result.{err_from_is_err_and}
use Rattle.std.specs.List.{cons_option}
use Rattle.fit_scripts.specs.Scripts.Faults.{IsFirstFault, IsReached, IsWrong}
use Rattle.fit_scripts.specs.Scripts.Script.{IsLine, event_of, events_of}
use Rattle.fit_scripts.specs.declared.script.fault.ScriptFaultKind.{ScriptFaultKind}
use Rattle.fit_histories.specs.declared.event.Event.{Event}
use Rattle.fit_scripts.specs.declared.script.fault.ScriptFault.{ScriptFault}
use Rattle.fit_histories.specs.Commands.{CanRun}
use Rattle.fit_scripts.proofs.Scripts.CanRun.{events_can}
use Rattle.fit_scripts.proofs.Scripts.Lines.{now_at, within_now, events_next}
use Rattle.fit_scripts.proofs.script.parse.parse_script.Goals as goal

abbrev texts_of : List (Bor (List ℕ)) → List (List ℕ)
texts_of items = map (λ item. item.now) items

first_fault : (items : List (Bor (List ℕ))) (texts : List (List ℕ)) (i : ℕ) (d : Bor (List ℕ)) (number : ℕ) (kind found : ScriptFaultKind) →
    texts_of items ≡ texts → i < length items → All IsLine (take i (texts_of items)) → number ≡ i + 1 → kind ≡ found →
    IsWrong (get_or items i d).now found → IsFirstFault texts number kind
first_fault items texts i d number kind found is within before counted same wrong =
    subst (λ all. IsFirstFault all number kind) is
    (record {
      index = i;
      counted = counted;
      within = within_now items i within;
      before = before;
      wrong = rw (now_at items i d within, same) wrong;
    })

reached : (items : List (Bor (List ℕ))) (texts : List (List ℕ)) (i number : ℕ) → texts_of items ≡ texts → i < length items →
    All IsLine (take i (texts_of items)) → number ≡ i + 1 → IsReached texts number
reached items texts i number is within before counted =
    subst (λ all. IsReached all number) is (record { index = i; counted = counted; within = inr (within_now items i within); before = before })

lines_more : (items : List (Bor (List ℕ))) (i : ℕ) (d : Bor (List ℕ)) → i < length items → All IsLine (take i (texts_of items)) →
    IsLine (get_or items i d).now → All IsLine (take (i + 1) (texts_of items))
lines_more items i d within before is =
    All-more IsLine (texts_of items) i [] (within_now items i within) before (rw (now_at items i d within) is)

events_more : (items : List (Bor (List ℕ))) (i : ℕ) (d : Bor (List ℕ)) (old new : List Event) → i < length items →
    old ≡ events_of 1 (take i (texts_of items)) → new ≡ old ++ cons_option (event_of (i + 1) (get_or items i d).now) [] →
    new ≡ events_of 1 (take (i + 1) (texts_of items))
events_more items i d old new within before more =
    rw (events_next (texts_of items) i (within_now items i within), now_at items i d within, ← before) more

pub returns-in_err-add_event-clause-fault : goal.returns-in_err-add_event-clause-fault
returns-in_err-add_event-clause-fault c =
    let left = err_from_is_err_and c.from_residual.result c.from_residual.ensures.1 in
    let known = c.in_err-add_event.ensures in
    let items = c.deref-line-items.result.now in
    let all = ap texts_of c.deref-line-items.ensures.value ∙ c.in-Ok.ensures in
    let number = ap (λ fault. fault.line) left.2 ∙ known.number in
    rw left.1 (
      (λ want. reached items _ c.loop-index.index _ all (omega arith) c.loop-index.invariant.lines number),
      (λ other.
          let kind = ap (λ (fault : ScriptFault). fault.kind) left.2 in
          first_fault items _ c.loop-index.index _ _ left.0.kind _ all (omega arith) c.loop-index.invariant.lines number kind
          (known.fault (λ e. other (kind ∙ e)))),
    )

pub loop-index-preserved : goal.loop-index-preserved
loop-index-preserved c =
    let items = c.deref-line-items.result.now in
    let i = c.loop-index.index in
    let within : i < length items = omega arith in
    record {
      lines = lines_more items i _ within c.loop-index.invariant.lines c.in_ok-add_event.ensures.line;
      events = events_more items i _ c.loop-index.events.items c.add_event.new.events.items within
          c.loop-index.invariant.events c.in_ok-add_event.ensures.events;
    }

pub returns-clause-counts : goal.returns-clause-counts
returns-clause-counts c =
    subst (λ events. All (λ event. CanRun event.command) events) (sym c.loop-index.invariant.events)
    (events_can 1 (take c.loop-index.index (texts_of c.deref-line-items.result.now)))
