use Rattle.std.proofs.Common.{rules, ◌+◌, ℕ, [], ◌∷◌, ◌++◌, length, map, take, drop, ◌-◌, sym, ap, subst, ◌∙◌}
use Rattle.std.proofs.KnownBytes.{Appends-trans}
use Rattle.std.specs.Prelude.{string_bytes}
use Rattle.fit_commands.specs.Each.{AreFoundLines, FoundFile}
use Rattle.fit_commands.proofs.Found.{checks_stop, found_more, names_more, refused_fits}
use Rattle.fit_commands.proofs.Parts.{begins_then}
use Rattle.fit_commands.proofs.each.check_all.Goals as goal

pub returns-in_err-print_found : goal.returns-in_err-print_found
returns-in_err-print_found g c =
    let was = c.loop-rest.invariant.1 in
    let rest = c.loop-rest.rest.now in
    let file : FoundFile = record { name = c.as_str-name.result; found = c.sum_up_file-found.result } in
    let printed = c.in_err-print_found.ensures.line in
    record {
      lines = checks_stop c.args.json _ _ (was.0 ++ file ∷ []) (map string_bytes (take (length rest - 1) (drop 1 rest))) _ _ (was.1 ++ printed.0) _ _
          c.from_residual.ensures.0
          (names_more _ was.0 file rest _ c.in-len1-up.len_at_least was.2
          (c.as_str-name.ensures.value ∙ ap string_bytes c.first-item.is))
          (found_more c.args.json _ was.0 was.1 c.loop-rest.refused file printed.0 was.3 c.sum_up_file-found.ensures printed.1)
          (begins_then _ _ _ was.1 printed.0 was.4 printed.2.beginning);
      fault = search rules;
    }

pub loop-rest-preserved : goal.loop-rest-preserved
loop-rest-preserved g c = (
  refused_fits c.loop-rest.refused c.refused_in-refused.result (length c.args.names.now) c.sum_up_file-found.result c.loop-rest.rest.now
      c.in-len1-up.len_at_least c.loop-rest.invariant.0 c.refused_in-refused.ensures,
  let was = c.loop-rest.invariant.1 in
      let rest = c.loop-rest.rest.now in
      let file : FoundFile = record { name = c.as_str-name.result; found = c.sum_up_file-found.result } in
      let printed = c.in_ok-print_found.ensures.line in (
        was.0 ++ file ∷ [],
        was.1 ++ printed.0,
        names_more _ was.0 file rest _ c.in-len1-up.len_at_least was.2
            (c.as_str-name.ensures.value ∙ ap string_bytes c.first-item.is),
        subst (λ (n : ℕ). AreFoundLines c.args.json (g.F.NamedFiles.held c.args.files.now) (was.0 ++ file ∷ []) (was.1 ++ printed.0) (c.loop-rest.refused + n)) (sym c.refused_in-refused.ensures)
            (found_more c.args.json _ was.0 was.1 c.loop-rest.refused file printed.0 was.3 c.sum_up_file-found.ensures printed.1),
        Appends-trans _ _ _ was.1 _ was.4 printed.2.all,
      ),
)
