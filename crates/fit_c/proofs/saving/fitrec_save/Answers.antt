use Rattle.std.proofs.Common.{List, ℕ, subst}
use Rattle.fit_grammar.specs.Format.File.{FileOf}
use Rattle.fit_c.proofs.saving.fitrec_save.Goals as goal

pub slice_bounds-read-end : goal.slice_bounds-read-end
slice_bounds-read-end c = (c.fitrec_repair-answer.ensures.within c.if-answer-ne0.false).data_within

pub unreachable-requires : goal.unreachable-requires
unreachable-requires c =
    let repaired = c.fitrec_repair-answer.ensures.ok c.if-answer-ne0.false in
    c.in_default.ensures.taken repaired.valid.0 repaired.valid.1

pub returns-clause-ok : goal.returns-clause-ok
returns-clause-ok c = λ done.
    let repaired = c.fitrec_repair-answer.ensures.ok c.if-answer-ne0.false in (
      record {
        list = repaired.list;
        file = c.in-Ok.file;
        finished = record {
          stood = repaired.stood;
          file = subst (λ (bytes : List ℕ). FileOf bytes c.in-Ok.file) repaired.is c.in-Ok.ensures.file;
        };
        bytes_are = c.write_file.ensures.ok done;
        sums_up = repaired.sums_up;
      },
      c.write_file.ensures.within done,
    )

pub returns-clause-not_written : goal.returns-clause-not_written
returns-clause-not_written c =
    let repaired = c.fitrec_repair-answer.ensures.ok c.if-answer-ne0.false in (
      record {
        no_room = λ short. record {
          list = repaired.list;
          file = c.in-Ok.file;
          finished = record {
            stood = repaired.stood;
            file = subst (λ (bytes : List ℕ). FileOf bytes c.in-Ok.file) repaired.is c.in-Ok.ensures.file;
          };
          needed_is = c.write_file.ensures.needed short;
          short = c.write_file.ensures.no_room short;
        };
        too_long = λ long. record {
          list = repaired.list;
          file = c.in-Ok.file;
          finished = record {
            stood = repaired.stood;
            file = subst (λ (bytes : List ℕ). FileOf bytes c.in-Ok.file) repaired.is c.in-Ok.ensures.file;
          };
          too_long = c.write_file.ensures.too_long long;
        };
      },
      c.write_file.ensures.unchanged,
    )
