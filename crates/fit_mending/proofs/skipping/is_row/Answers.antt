use Rattle.std.proofs.Common.{◌≡◌, List, ℕ, length, sym, subst, arith, eq-eqb}
use Rattle.std.proofs.lemmas.List.{take_all}
use Rattle.fit_grammar.specs.Format.Records.{Records}
use Rattle.fit_mending.proofs.skipping.is_row.Goals as goal

pub returns : goal.returns
returns c =
    let bytes = c.args.bytes.now in
    let found = c.longest_front.ensures in (
      (λ all.
          let same : c.longest_front.result ≡ length bytes = search (arith, all) in (
            found.items,
            subst (λ (l : List ℕ). Records l found.items) (take_all c.longest_front.result bytes (omega (arith, same))) found.are_records,
          )),
      λ row. eq-eqb c.longest_front.result (length bytes) (omega (
        arith,
        found.within,
        found.longest (length bytes) row.0 (omega arith)
            (subst (λ (l : List ℕ). Records l row.0) (sym (take_all (length bytes) bytes (omega arith))) row.1),
      )),
    )
