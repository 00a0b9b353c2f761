use Rattle.std.proofs.Common.{List, ℕ, subst, true, arith}
use Rattle.fit_grammar.specs.Format.Message.{developer_of}
use Rattle.fit_text.specs.Plan.{joined}
use Rattle.fit_text.proofs.PenLemmas.{Leaves, leaves_all, leaves_less, leaves_off, leaves_none}
use Rattle.fit_text.proofs.FormLemmas.{first_size, next_developer, no_developer}
use Rattle.fit_text.proofs.form.developer.put_developer_fields.Goals as goal

pub loop-left-init : goal.loop-left-init
loop-left-init g c = record { within = c.requires; put = leaves_all _ _ }

pub split_at-requires : goal.split_at-requires
split_at-requires g c =
    omega (
      arith,
      first_size c.loop-left.left.now c.in-len1-up.len_at_least,
      c.loop-left.invariant.within,
      c.from.ensures,
    )

pub returns-in_err-put_next : goal.returns-in_err-put_next
returns-in_err-put_next g c =
    let form = g.F.Form.form c.args.form.now in
    leaves_off _ c.from_residual.ensures.0 c.loop-left.invariant.put c.in_err-put_next.ensures
    (next_developer form.notation.between (form.developer c.args.number) c.loop-left.first c.args.arch c.loop-left.left.now c.loop-left.rest.now _ _ _
    c.in-len1-up.len_at_least c.split_at.ensures.front c.split_at.ensures.back c.from.ensures)

pub loop-left-preserved : goal.loop-left-preserved
loop-left-preserved g c =
    let form = g.F.Form.form c.args.form.now in
    let left = c.loop-left.left.now in
    let size = first_size left c.in-len1-up.len_at_least in
    record {
      within = omega (arith, size, c.loop-left.invariant.within, c.split_at.ensures.back_len, c.from.ensures);
      put = leaves_less _ c.loop-left.invariant.put c.in_ok-put_next.ensures
          (next_developer form.notation.between (form.developer c.args.number) c.loop-left.first c.args.arch left c.loop-left.rest.now _ _ _
          c.in-len1-up.len_at_least c.split_at.ensures.front c.split_at.ensures.back c.from.ensures);
    }

pub returns : goal.returns
returns g c =
    let form = g.F.Form.form c.args.form.now in
    let text = form.developer c.args.number in
    let P : List ℕ → Type 0 = λ t. Leaves c.args.pen.now c.loop-left.pen
    (joined form.notation.between true text (developer_of c.args.arch c.args.fields.now c.args.content.now)) t in
    leaves_none tt
    (subst P (no_developer form.notation.between text c.loop-left.first c.args.arch c.loop-left.left.now c.loop-left.rest.now c.in_default.len_below)
    c.loop-left.invariant.put)
