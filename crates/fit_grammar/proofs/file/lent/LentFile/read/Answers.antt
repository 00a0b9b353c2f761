use Rattle.fit_grammar.specs.Private.Passing.{framed_items}
use Rattle.fit_grammar.proofs.Decoding.Refused.{file_not_refused}
use Rattle.fit_grammar.proofs.file.lent.LentFile.read.Goals as goal

pub returns-in_err-header-clause-taken : goal.returns-in_err-header-clause-taken
returns-in_err-header-clause-taken c = λ v file.
    absurd (file_not_refused c.args.bytes.now v _ _ file c.in_err-header.ensures.refused.1)

pub returns-in_err-size-clause-taken : goal.returns-in_err-size-clause-taken
returns-in_err-size-clause-taken c = λ v file.
    absurd (file_not_refused c.args.bytes.now v _ _ file c.in_err-size.ensures.refused.1)

pub returns-in_err-close-clause-taken : goal.returns-in_err-close-clause-taken
returns-in_err-close-clause-taken c = λ v file.
    absurd (file_not_refused c.args.bytes.now v _ _ file c.in_err-close.ensures.refused.1)

pub returns-clause-file : goal.returns-clause-file
returns-clause-file c =
    let p = c.in_ok-size.ensures.passed in
    rw (c.of_passed.ensures p) (c.in_ok-close.ensures.file (framed_items c.in_ok-header.header.frame p.items) p.reached)
