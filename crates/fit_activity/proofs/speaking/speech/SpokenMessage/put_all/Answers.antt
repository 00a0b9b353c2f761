use Rattle.fit_activity.proofs.Spelling.Fields.{putting-none, putting-next, putting-first, putting-all}
use Rattle.fit_activity.proofs.speaking.speech.SpokenMessage.put_all.Goals as goal

pub loop-rest-init : goal.loop-rest-init
loop-rest-init c = putting-none _ _ c.requires

pub loop-rest-preserved : goal.loop-rest-preserved
loop-rest-preserved c =
    putting-next _ c.loop-rest.self _ _ c.loop-rest.rest.now _ c.in-len1-up.len_at_least c.put.ensures.fields c.put.ensures.content c.loop-rest.invariant

pub put-requires-clause-fits : goal.put-requires-clause-fits
put-requires-clause-fits c = (putting-first _ _ _ _ _ c.in-len1-up.len_at_least c.loop-rest.invariant).fit.0

pub returns : goal.returns
returns c = putting-all _ _ _ c.loop-rest.rest.now c.in_default.len_below c.loop-rest.invariant
