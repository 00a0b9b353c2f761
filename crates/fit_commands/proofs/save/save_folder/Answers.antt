use Rattle.std.proofs.Common.{◌++◌, rules, refl, inl, inr, codes}
use Rattle.fit_files.specs.Printed.Summary.{summary_text}
use Rattle.fit_grammar.specs.Format.Encoding.{encoded}
use Rattle.fit_commands.proofs.Written.{stops, stops_unwritten}
use Rattle.fit_commands.proofs.save.save_folder.Goals as goal

pub returns-then-not-has_counted_bytes : goal.returns-then-not-has_counted_bytes
returns-then-not-has_counted_bytes g c = inl (
  _,
  refl,
  inr (
    c.in_ok-read.read,
    c.in_ok-read.ensures.data,
    c.in_ok-read.journal_bytes.items,
    c.in_ok-read.ensures.journal,
    (search rules, search rules),
  ),
  refl,
  refl,
)

pub returns-in_err-saved : goal.returns-in_err-saved
returns-in_err-saved g c = inl (
  c.in_err-saved.field-0.0,
  stops _ _ c.from_residual-in_err-saved.ensures,
  inr (
    c.in_ok-read.read,
    c.in_ok-read.ensures.data,
    c.in_ok-read.journal_bytes.items,
    c.in_ok-read.ensures.journal,
    c.in_err-saved.ensures.reported,
  ),
  refl,
  refl,
)

pub returns-in_err-write_whole : goal.returns-in_err-write_whole
returns-in_err-write_whole g c =
    let saved = c.in_ok-saved.saved in
    inr (
      saved,
      (c.in_ok-read.read, c.in_ok-read.ensures.data, c.in_ok-read.journal_bytes.items, c.in_ok-read.ensures.journal, c.in_ok-saved.ensures.ride),
      encoded saved.file,
      summary_text saved.summary ++ codes "\n",
      (refl, refl),
      stops_unwritten _ _ _ _ _ _ _ _ (stops _ _ c.from_residual-in_err-write_whole.ensures) c.in_err-write_whole.ensures,
    )

pub returns : goal.returns
returns g c =
    let saved = c.in_ok-saved.saved in
    inr (
      saved,
      (c.in_ok-read.read, c.in_ok-read.ensures.data, c.in_ok-read.journal_bytes.items, c.in_ok-read.ensures.journal, c.in_ok-saved.ensures.ride),
      encoded saved.file,
      summary_text saved.summary ++ codes "\n",
      (refl, refl),
      search rules,
    )
