use Rattle.std.proofs.Common.{None, Some, subst, arith}
use Rattle.fit_activity.proofs.Spelling.Fields.{IsPutting, putting-none, putting-one, putting-can, putting-end, present-first}
use Rattle.fit_activity.proofs.speaking.speech.SpokenMessage.put_present.Goals as goal

pub loop-rest-init : goal.loop-rest-init
loop-rest-init c = putting-none _ _ c.requires

pub loop-rest-preserved : goal.loop-rest-preserved
loop-rest-preserved c =
    subst (IsPutting _ c.loop-rest.self _) (present-first c.loop-rest.rest.now _ None c.in-len1-up.len_at_least c.in-None.is) c.loop-rest.invariant

pub put-requires-clause-fits : goal.put-requires-clause-fits
put-requires-clause-fits c =
    let first = present-first c.loop-rest.rest.now _ (Some c.in-Some.field) c.in-len1-up.len_at_least c.in-Some.is in
    (putting-can _ _ _ _ _ (subst (IsPutting _ c.loop-rest.self _) first c.loop-rest.invariant)).fit.0

pub put-requires-clause-few : goal.put-requires-clause-few
put-requires-clause-few c =
    let first = present-first c.loop-rest.rest.now _ (Some c.in-Some.field) c.in-len1-up.len_at_least c.in-Some.is in
    omega (arith, (putting-can _ _ _ _ _ (subst (IsPutting _ c.loop-rest.self _) first c.loop-rest.invariant)).few)

pub put-requires-clause-short : goal.put-requires-clause-short
put-requires-clause-short c =
    let first = present-first c.loop-rest.rest.now _ (Some c.in-Some.field) c.in-len1-up.len_at_least c.in-Some.is in
    (putting-can _ _ _ _ _ (subst (IsPutting _ c.loop-rest.self _) first c.loop-rest.invariant)).short

pub loop-rest-preserved-in-Some : goal.loop-rest-preserved-in-Some
loop-rest-preserved-in-Some c =
    let first = present-first c.loop-rest.rest.now _ (Some c.in-Some.field) c.in-len1-up.len_at_least c.in-Some.is in
    putting-one _ c.loop-rest.self _ _ _ c.in-Some.field c.put.ensures.fields c.put.ensures.content
    (subst (IsPutting _ c.loop-rest.self _) first c.loop-rest.invariant)

pub returns : goal.returns
returns c = putting-end _ _ _ c.loop-rest.rest.now c.in_default.len_below c.loop-rest.invariant
