use Rattle.std.proofs.Common.{arith}
use Rattle.fit_grammar.proofs.OneItem.DefinitionRead.{begun_data}
use Rattle.fit_grammar.proofs.item.next_data.Goals as goal

pub returns-then-window-used : goal.returns-then-window-used
returns-then-window-used c = λ f there.
    record {
      states = begun_data f c.args.window.now c.args.definition c.args.local c.args.offset c.requires.begun
          c.requires.head there (omega arith);
      lent = tt;
      local = tt;
    }
