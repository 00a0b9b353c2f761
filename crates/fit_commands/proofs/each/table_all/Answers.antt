use Rattle.std.proofs.Common.{[], ◌∷◌, ◌++◌, length, ap, ◌∙◌}
use Rattle.std.specs.Prelude.{string_bytes}
use Rattle.fit_commands.proofs.Tables.{left_out_fits, names_less, tables_more}
use Rattle.fit_commands.proofs.each.table_all.Goals as goal

pub loop-rest-preserved : goal.loop-rest-preserved
loop-rest-preserved g c =
    let was = c.loop-rest.invariant.1 in
    let rest = c.loop-rest.rest.now in
    let name = c.as_str-name.result.now in (
      left_out_fits c.loop-rest.left_out c.left_out_in-left_out.result (length c.args.names.now) c.in_ok-added.added rest c.in-len1-up.len_at_least
          c.loop-rest.invariant.0 c.left_out_in-left_out.ensures,
      (
        was.0 ++ name ∷ [],
        names_less _ was.0 rest _ name c.in-len1-up.len_at_least was.1 (c.as_str-name.ensures.value ∙ ap string_bytes c.first-item.is),
        tables_more c.args.layout.now _ was.0 _ _ _ c.loop-rest.left_out c.left_out_in-left_out.result name c.in_ok-added.added
            c.left_out_in-left_out.ensures was.2 c.in_ok-added.ensures.lines,
      ),
    )
