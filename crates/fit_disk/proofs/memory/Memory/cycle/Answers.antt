use Rattle.std.proofs.Common.{sym, subst, arith}
use Rattle.fit_disk.specs.Content.{IsBytes}
use Rattle.fit_disk.specs.Cycle.{taken_by, cycled}
use Rattle.fit_disk.specs.State.{State, BothLeft, seen_in}
use Rattle.fit_disk.specs.Store.{store_story}
use Rattle.fit_disk.proofs.Leaving.{drop_bytes}
use Rattle.fit_disk.proofs.Cycling.{cycle_leaves}
use Rattle.fit_disk.proofs.memory.Memory.cycle.Goals as goal

pub returns-clause-left : goal.returns-clause-left
returns-clause-left c =
    let store = c.args.self.now.store in
    let state = (store_story store).now in
    let choices = c.args.choices.now in
    let bytes : IsBytes choices = λ i. omega (arith, c.type_inv.choices i) in
    let left : BothLeft state (seen_in (cycled choices state)) = record {
      data_left = cycle_leaves state.data_file choices store.in_data.sound bytes;
      journal_left = cycle_leaves state.journal_file _ store.in_journal.sound (drop_bytes (taken_by state.data_file choices) choices bytes);
    } in
    subst (λ (new : State). BothLeft state (seen_in new)) (sym c.cycle.ensures.now) left
