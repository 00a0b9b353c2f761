use Rattle.std.proofs.Common.{ap, ◌∙◌}
use Rattle.fit_grammar.specs.Format.Item.{Head}
use Rattle.fit_grammar.specs.Private.FirstByte.{local_of}
use Rattle.fit_grammar.proofs.item.step_under.Goals as goal

pub returns-in-Definition : goal.returns-in-Definition
returns-in-Definition c = λ f there. c.next_definition.ensures f

pub returns-in-Some : goal.returns-in-Some
returns-in-Some c = λ f there. c.next_data.ensures f (ap (λ (h : Head). f (local_of h)) c.in-Data.ensures ∙ there ∙ c.in-Some.is)
