use Rattle.std.proofs.Common.{refl, ap}
use Rattle.fit_text.proofs.PenLemmas.{leaves_less, leaves_off}
use Rattle.fit_table.specs.Named.{titles}
use Rattle.fit_table.proofs.NamedLemmas.{any_name, name_of, first_from}
use Rattle.fit_table.proofs.named.put_titles.Goals as goal

pub returns-in_err-put : goal.returns-in_err-put
returns-in_err-put g c =
    leaves_off _ c.from_residual.ensures.0 c.loop-left.invariant c.in_err-put.ensures
    (ap titles (first_from name_of c.loop-left.left.now any_name c.in-len1-up.len_at_least))

pub returns-in_err-put_string : goal.returns-in_err-put_string
returns-in_err-put_string g c =
    let h = leaves_less _ c.loop-left.invariant c.in_ok-put.ensures
    (ap titles (first_from name_of c.loop-left.left.now any_name c.in-len1-up.len_at_least)) in
    leaves_off _ c.from_residual-in_err-put_string.ensures.0 h (rw c.new-name.ensures at c.in_err-put_string.ensures) refl

pub loop-left-preserved : goal.loop-left-preserved
loop-left-preserved g c =
    let h = leaves_less _ c.loop-left.invariant c.in_ok-put.ensures
    (ap titles (first_from name_of c.loop-left.left.now any_name c.in-len1-up.len_at_least)) in
    leaves_less _ h (rw c.new-name.ensures at c.in_ok-put_string.ensures) refl
