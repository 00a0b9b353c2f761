use Rattle.fit_grammar.proofs.OneItem.DefinitionRead.{begun_definition, next_is}
use Rattle.fit_grammar.proofs.item.next_definition.Goals as goal

pub returns-then-window-used : goal.returns-then-window-used
returns-then-window-used c = λ f.
    record {
      states = begun_definition f c.args.window.now c.requires.head.0 c.args.announced c.requires.begun c.requires.head.1
          (rw (← c.definition_length-used.ensures.length) c.if-window-used.true);
      lent = tt;
      local = tt;
    }

pub returns : goal.returns
returns c = λ f.
    next_is f c.args.window.now c.requires.head.0 c.definition_length-used.result c.args.announced c.new-message.result
    c.requires.head.1 c.requires.begun c.definition_length-used.ensures.length c.if-window-used.false c.new-message.ensures
