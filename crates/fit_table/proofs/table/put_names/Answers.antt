use Rattle.std.proofs.Common.{codes, refl}
use Rattle.fit_text.proofs.PenLemmas.{leaves_less, leaves_off}
use Rattle.fit_table.proofs.LineLemmas.{first_name, later}
use Rattle.fit_table.specs.Table.{names_from}
use Rattle.fit_table.proofs.table.put_names.Goals as goal

pub returns-in_err-put : goal.returns-in_err-put
returns-in_err-put g c =
    leaves_off _ c.from_residual.ensures.0 c.loop-left.invariant c.in_err-put.ensures
    (first_name c.args.layout.now c.loop-left.front.now c.loop-left.left.now c.in-len1-up.len_at_least)

pub returns-in_err-put_name : goal.returns-in_err-put_name
returns-in_err-put_name g c =
    leaves_off (names_from c.args.layout.now (codes ",") (later c.loop-left.left.now)) c.from_residual-in_err-put_name.ensures.0
    (leaves_less _ c.loop-left.invariant c.in_ok-put.ensures
    (first_name c.args.layout.now c.loop-left.front.now c.loop-left.left.now c.in-len1-up.len_at_least))
    c.in_err-put_name.ensures refl

pub loop-left-preserved : goal.loop-left-preserved
loop-left-preserved g c =
    leaves_less (names_from c.args.layout.now (codes ",") (later c.loop-left.left.now))
    (leaves_less _ c.loop-left.invariant c.in_ok-put.ensures
    (first_name c.args.layout.now c.loop-left.front.now c.loop-left.left.now c.in-len1-up.len_at_least))
    c.in_ok-put_name.ensures refl
