use Rattle.std.proofs.Common.{inr, map, sym, subst, List, Global}
use Rattle.std.specs.Prelude.{String, string_bytes}
use Rattle.fit_commands.specs.Each.{AreNamesOf, ChecksEach}
use Rattle.fit_commands.proofs.Written.{stops}
use Rattle.fit_commands.proofs.each.check_each.Goals as goal

pub returns-in_err-check_all : goal.returns-in_err-check_all
returns-in_err-check_all g c =
    let words = map (λ word. word.now) c.args.names.now.all.items in
    record {
      lines = subst (ChecksEach c.args.json (g.F.NamedFiles.held c.args.files.now) words (g.O.Write.contents c.args.out.now) (g.O.Write.contents c.check_all.new.out))
          (sym (stops _ _ c.from_residual-in_err-check_all.ensures))
          (inr (
            map string_bytes c.as_slice.result.now,
            subst (λ (names : List (String Global)). AreNamesOf words (map string_bytes names)) (sym c.as_slice.ensures.value) c.in_ok-all.ensures.names,
            inr (c.in_err-check_all.ensures.fault, c.in_err-check_all.ensures.lines),
          ));
    }
