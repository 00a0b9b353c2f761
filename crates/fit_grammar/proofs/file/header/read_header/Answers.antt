use Rattle.std.proofs.Common.{◌≡◌, ◌≤◌, length, refl, ◌∙◌, arith, length-take-le}
use Rattle.std.proofs.lemmas.Bool.{false≢true}
use Rattle.fit_grammar.specs.declared.file.fault.FaultKind.TheVariants.{HeaderCrc}
use Rattle.fit_grammar.proofs.Decoding.HeaderRefused.{Passes}
use Rattle.fit_grammar.proofs.Decoding.HeaderRead.{check_refused, header_byte, begins_passes, begins_good}
use Rattle.fit_grammar.proofs.file.header.read_header.Goals as goal
use Rattle.fit_grammar.proofs.file.header.read_header.Goals.{else-header-eq14-via-then-header-eq14+else-not-checks_header, else-header-eq14-via-else-header-eq14}

pub returns-then-not-checks_header-clause-refused : goal.returns-then-not-checks_header-clause-refused
returns-then-not-checks_header-clause-refused c =
    let b = c.args.bytes.now in
    let fr = c.in_ok-header.header.frame in
    let h = c.in_ok-header.ensures.header in
    let is_14 : fr.header_size ≡ 14 = c.if-header-eq14.true in
    let there : 14 ≤ length b = omega (arith, is_14, h.within) in
    let passes : Passes b 14 = rw is_14 at (begins_passes b fr c.in_ok-header.header.data_size h) in
    check_refused b _ HeaderCrc 12 14 c.fault.ensures (λ e. cc) passes there (
      refl,
      length-take-le 14 b there,
      header_byte 14 b 0 (omega arith)
          ∙ h.header_size ∙ is_14,
      λ good. false≢true (c.if-not-checks_header.ensures.1 good),
    )

pub returns-clause-header : goal.returns-clause-header
returns-clause-header c =
    let h = c.in_ok-header.ensures.header in
    record {
      within = h.within;
      is_header = begins_good c.args.bytes.now c.in_ok-header.header.frame c.in_ok-header.header.data_size h
          (λ e. elim c.else-header-eq14.branch [
            | else-header-eq14-via-then-header-eq14+else-not-checks_header w ↦ w.if-not-checks_header.ensures.0 refl
            | else-header-eq14-via-else-header-eq14 w ↦ absurd (w.if-header-eq14.false e)
          ]);
    }
