use Rattle.std.proofs.Common.{ℕ, List, sym, ap, ◌∙◌}
use Rattle.std.specs.List.{list_all}
use Rattle.fit_base.specs.declared.order.Arch.{Arch}
use Rattle.fit_shifting.specs.Moved.{can_move_time}
use Rattle.fit_shifting.specs.Private.Content.{times_of}
use Rattle.fit_shifting.proofs.MovedValues.{not_raw}
use Rattle.fit_shifting.proofs.checking.can_move_values.Goals as goal

pub returns-else-is_raw : goal.returns-else-is_raw
returns-else-is_raw c =
    let v = c.args.value.now in
    let shift = c.args.shift in
    c.can_move_times.ensures
    ∙ ap (λ (a : Arch). list_all (can_move_time shift) (times_of a c.raw.result.now)) c.arch.ensures
    ∙ ap (λ (bytes : List ℕ). list_all (can_move_time shift) (times_of v.arch bytes)) c.raw.ensures
    ∙ sym (not_raw shift v.base v.arch v.bytes c.requires (sym c.is_raw.ensures ∙ c.if-is_raw.false))
