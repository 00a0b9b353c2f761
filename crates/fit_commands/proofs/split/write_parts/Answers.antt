use Rattle.std.proofs.Common.{[], ◌∷◌, ◌++◌, get_or, refl, sym, ap, subst, ◌∙◌, append-nil, arith, List}
use Rattle.std.proofs.KnownBytes.{Appends-nil, Appends-trans}
use Rattle.std.proofs.lemmas.List.{nil_from_length}
use Rattle.fit_mending.specs.declared.chained.Part.{Part}
use Rattle.fit_files.specs.Printed.Parts.{AreLines}
use Rattle.fit_commands.specs.Reported.{WritesParts}
use Rattle.fit_commands.proofs.Parts.{begins_all, begins_then, first_of, line_of, lines_more, lines_stop, split_more, written_more}
use Rattle.fit_commands.proofs.split.write_parts.Goals as goal

pub loop-rest-init : goal.loop-rest-init
loop-rest-init g c = ([], [], refl, refl, Appends-nil (g.O.Write.contents c.args.out.now), λ name. refl)

pub loop-rest-preserved : goal.loop-rest-preserved
loop-rest-preserved g c =
    let was = c.loop-rest.invariant in
    let rest = c.loop-rest.rest.now in
    let printed = c.in-Ok.ensures.line in
    let part = get_or rest 0 _ in (
      was.0 ++ part ∷ [],
      was.1 ++ line_of part printed.0,
      split_more _ was.0 _ _ part was.2 (first_of rest _ c.in-len1-up.len_at_least),
      lines_more was.0 was.1 part printed.0 was.3 printed.1,
      Appends-trans _ _ _ was.1 _ was.4 printed.2.all,
      written_more c.args.folder.now was.0 part _ _ _ was.5 c.in_ok-write_part.ensures.written,
    )

pub returns-in_err-write_part-clause-lines : goal.returns-in_err-write_part-clause-lines
returns-in_err-write_part-clause-lines g c =
    let was = c.loop-rest.invariant in
    lines_stop _ was.0 _ _ _ was.1 _ c.from_residual.ensures.0 was.2 was.3 (begins_all _ _ was.1 was.4)

pub returns-in-Err-clause-lines : goal.returns-in-Err-clause-lines
returns-in-Err-clause-lines g c =
    let was = c.loop-rest.invariant in
    let rest = c.loop-rest.rest.now in
    let printed = c.in-Err.ensures.line in
    let part = get_or rest 0 _ in (
      was.0 ++ part ∷ [],
      _,
      split_more _ was.0 _ _ part was.2 (first_of rest _ c.in-len1-up.len_at_least),
      was.1 ++ line_of part printed.0,
      lines_more was.0 was.1 part printed.0 was.3 printed.1,
      begins_then _ _ _ was.1 _ was.4 printed.2.beginning,
    )

pub returns-clause-lines : goal.returns-clause-lines
returns-clause-lines g c =
    let was = c.loop-rest.invariant in
    let none = nil_from_length c.loop-rest.rest.now (omega (arith, c.in_default.len_below)) in
    let all = was.2 ∙ ap (λ (r : List Part). was.0 ++ r) none ∙ append-nil was.0 in (
      was.1,
      subst (λ (parts : List Part). AreLines parts was.1) (sym all) was.3,
      was.4,
    )

pub returns-clause-written : goal.returns-clause-written
returns-clause-written g c =
    let was = c.loop-rest.invariant in
    let none = nil_from_length c.loop-rest.rest.now (omega (arith, c.in_default.len_below)) in
    let all = was.2 ∙ ap (λ (r : List Part). was.0 ++ r) none ∙ append-nil was.0 in
    subst (λ (parts : List Part). WritesParts c.args.folder.now parts (g.F.NamedFiles.held c.args.files.now) (g.F.NamedFiles.held c.loop-rest.files)) (sym all) was.5
