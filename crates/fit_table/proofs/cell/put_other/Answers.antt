use Rattle.std.proofs.Common.{◌∷◌, [], take, drop, sym, ap, ◌∙◌}
use Rattle.fit_base.specs.Base.{base_type}
use Rattle.fit_base.specs.Value.{values_of}
use Rattle.fit_table.specs.Cells.{field_tokens}
use Rattle.fit_table.specs.Table.{empty_of}
use Rattle.fit_table.specs.Unit.{unit_in}
use Rattle.fit_table.proofs.CellLemmas.{no_bytes}
use Rattle.fit_table.specs.Tokens.{Text}
use Rattle.fit_table.proofs.LineLemmas.{no_profile, no_time, held_shows}
use Rattle.fit_table.proofs.TokenLemmas.{tokens_same, tokens_text}
use Rattle.fit_table.proofs.cell.put_other.Goals as goal

pub returns-then-not-layout : goal.returns-then-not-layout
returns-then-not-layout g c =
    tokens_same (tokens_text c.put.ensures)
    (ap (λ e. Text e ∷ []) c.empty_of-empty.ensures
    ∙ no_profile c.args.layout.now c.args.arch c.args.time c.args.content.now c.args.place.now c.requires.none c.if-not-layout.true)

pub returns-then-is_time : goal.returns-then-is_time
returns-then-is_time g c =
    tokens_same (tokens_text c.put-then-is_time.ensures)
    (ap (λ e. Text e ∷ []) c.empty_of-empty.ensures
    ∙ no_time c.args.layout.now c.args.arch c.args.time c.args.content.now c.args.place.now c.requires.none c.if-not-layout.false (sym c.if-is_time.ensures))

pub returns-then-place-eq0 : goal.returns-then-place-eq0
returns-then-place-eq0 g c =
    let layout = c.args.layout.now in
    let place = c.args.place.now in
    tokens_same (tokens_text c.put-then-place-eq0.ensures)
    (ap (λ e. Text e ∷ []) c.empty_of-empty.ensures
    ∙ no_bytes (empty_of layout) (unit_in layout place.number) place.base c.args.arch
    ∙ ap (λ n. field_tokens (empty_of layout) (unit_in layout place.number) (base_type place.base)
    (values_of (record { base = place.base; arch = c.args.arch; bytes = take n (drop place.at c.args.content.now) }))) (sym c.if-place-eq0.true)
    ∙ held_shows layout c.args.arch c.args.time c.args.content.now place c.requires.none c.if-not-layout.false (sym c.if-is_time.ensures))

pub returns : goal.returns
returns g c =
    tokens_same c.put_held.ensures
    (rw (c.empty_of-empty.ensures, c.unit_at-unit.ensures)
    (held_shows c.args.layout.now c.args.arch c.args.time c.args.content.now c.args.place.now c.requires.none c.if-not-layout.false (sym c.if-is_time.ensures)))
