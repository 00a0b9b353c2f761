use Rattle.std.proofs.Common.{List, ℕ, ◌++◌, rules, subst, refl, inl, inr}
use Rattle.fit_files.specs.Printed.Kept.{heard_line, kept_lines}
use Rattle.fit_commands.specs.Reported.{IsKeptOf, IsSalvagedOut, SalvagesNamed, like_text}
use Rattle.fit_commands.proofs.Written.{ends_printed, stops, stops_form}
use Rattle.fit_commands.proofs.salvage.salvage_file.Goals as goal

pub returns-in_err-kept : goal.returns-in_err-kept
returns-in_err-kept g c = inl (
  c.in_err-kept.field-0.0,
  stops _ _ c.from_residual-in_err-kept.ensures,
  inr (
    c.in_ok-like.like,
    c.in_ok-like.ensures.like,
    inr (c.in_ok-read.read, c.in_ok-read.ensures.read, inl (c.in_err-kept.ensures.reported, c.in_err-kept.ensures.whole)),
  ),
  refl,
  refl,
)

pub returns-in_err-heard : goal.returns-in_err-heard
returns-in_err-heard g c =
    let like = c.in_ok-like.like in
    let kept = c.in_ok-kept.kept in
    let kept_is = subst (λ (known : List ℕ). IsKeptOf c.args.form.now known c.in_ok-read.read.bytes.items kept) c.known_row.ensures c.in_ok-kept.ensures.kept in
    stops_form (SalvagesNamed c.args.form.now (g.F.NamedFiles.held c.args.files.now) c.args.name) IsSalvagedOut c.args.form.now c.salvage-salvage.result _ _ _ _ _ _
    (stops _ _ c.from_residual-in_err-heard.ensures)
    (λ not. inr (like, c.in_ok-like.ensures.like, inr (c.in_ok-read.read, c.in_ok-read.ensures.read, inr (kept, kept_is, not))))
    (λ heard bytes made. (
      record { like = like; kept = kept; heard = heard; bytes = bytes },
      (c.in_ok-like.ensures.like, c.in_ok-read.read, c.in_ok-read.ensures.read, kept_is, c.salvage-salvage.result, c.salvage-salvage.ensures, made),
      (kept_lines kept ++ heard_line heard) ++ like_text like,
      (refl, refl),
    ))
    c.in_err-heard.ensures

pub returns-in_err-reported : goal.returns-in_err-reported
returns-in_err-reported g c =
    let like = c.in_ok-like.like in
    let kept = c.in_ok-kept.kept in
    let wrote = c.in_ok-heard.ensures in
    let kept_is = subst (λ (known : List ℕ). IsKeptOf c.args.form.now known c.in_ok-read.read.bytes.items kept) c.known_row.ensures c.in_ok-kept.ensures.kept in
    inr (
      record { like = like; kept = kept; heard = c.in_ok-heard.heard; bytes = wrote.0 },
      (c.in_ok-like.ensures.like, c.in_ok-read.read, c.in_ok-read.ensures.read, kept_is, c.salvage-salvage.result, c.salvage-salvage.ensures, wrote.1),
      wrote.0,
      (kept_lines kept ++ heard_line c.in_ok-heard.heard) ++ like_text like,
      (refl, refl),
      search rules,
    )

pub returns : goal.returns
returns g c =
    let like = c.in_ok-like.like in
    let kept = c.in_ok-kept.kept in
    let wrote = c.in_ok-heard.ensures in
    let kept_is = subst (λ (known : List ℕ). IsKeptOf c.args.form.now known c.in_ok-read.read.bytes.items kept) c.known_row.ensures c.in_ok-kept.ensures.kept in
    inr (
      record { like = like; kept = kept; heard = c.in_ok-heard.heard; bytes = wrote.0 },
      (c.in_ok-like.ensures.like, c.in_ok-read.read, c.in_ok-read.ensures.read, kept_is, c.salvage-salvage.result, c.salvage-salvage.ensures, wrote.1),
      wrote.0,
      (kept_lines kept ++ heard_line c.in_ok-heard.heard) ++ like_text like,
      (refl, refl),
      ends_printed wrote.0 (kept_lines kept ++ heard_line c.in_ok-heard.heard) (like_text like) _ _ _ _ _ _ c.print_like.result wrote.2
          (search rules) c.print_like.ensures.line c.print_like.ensures.fault,
    )
