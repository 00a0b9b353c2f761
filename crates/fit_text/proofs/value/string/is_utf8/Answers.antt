use Rattle.std.proofs.Common.{◌∙◌}
use Rattle.fit_text.proofs.ValueLemmas.{utf8_is}
use Rattle.fit_text.proofs.value.string.is_utf8.Goals as goal

pub returns : goal.returns
returns c = c.is_some.ensures ∙ utf8_is _ _ c.text.ensures.utf8
