use Rattle.std.proofs.Common.{◌++◌, ap, ◌∙◌, codes}
use Rattle.fit_text.proofs.FormLemmas.{some_begins, none_begins}
use Rattle.fit_text.proofs.PenLemmas.{puts_same, puts_then, puts_stop}
use Rattle.fit_text.proofs.json.put_title.Goals as goal

pub returns-in_err-put-in-Some : goal.returns-in_err-put-in-Some
returns-in_err-put-in-Some g c =
    puts_same (puts_stop c.from_residual.ensures.0 c.in_err-put-in-Some.ensures _) (some_begins c.args.title c.in-Some.title c.in-Some.is)

pub returns-in_err-put-in-Some-2 : goal.returns-in_err-put-in-Some-2
returns-in_err-put-in-Some-2 g c =
    puts_same
    (puts_then c.in_ok-put-in-Some.ensures (puts_stop c.from_residual-in_err-put-in-Some-2.ensures.0 c.in_err-put-in-Some-2.ensures _))
    (ap (λ t. codes ",\"name\":\"" ++ (t ++ codes "\",\"fields\":{")) c.as_bytes.ensures.value ∙ some_begins c.args.title c.in-Some.title c.in-Some.is)

pub returns-in_ok-put-in-Some-2 : goal.returns-in_ok-put-in-Some-2
returns-in_ok-put-in-Some-2 g c =
    puts_same (puts_then c.in_ok-put-in-Some.ensures (puts_then c.in_ok-put-in-Some-2.ensures c.put-in-Some-2.ensures))
    (ap (λ t. codes ",\"name\":\"" ++ (t ++ codes "\",\"fields\":{")) c.as_bytes.ensures.value ∙ some_begins c.args.title c.in-Some.title c.in-Some.is)

pub returns-in-None : goal.returns-in-None
returns-in-None g c = puts_same c.put-in-None.ensures (none_begins c.args.title c.in-None.is)
