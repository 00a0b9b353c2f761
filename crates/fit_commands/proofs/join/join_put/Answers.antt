use Rattle.std.proofs.Common.{List, ℕ, ap, subst, ◌∙◌}
use Rattle.fit_grammar.specs.Format.File.{FileValue, FileOf}
use Rattle.fit_grammar.specs.Format.Message.{messages_of}
use Rattle.fit_grammar.proofs.Decoding.OneValue.{one_value}
use Rattle.fit_joining.specs.JoinedItems.{joined_file}
use Rattle.fit_commands.proofs.join.join_put.Goals as goal

pub returns-in-Ok-clause-messages : goal.returns-in-Ok-clause-messages
returns-in-Ok-clause-messages c =
    let joined = joined_file c.args.first.now c.args.others.now in
    ap (λ (v : FileValue). messages_of v.items)
    (one_value c.in_ok-bytes.bytes.items c.in-Ok.joined joined
    (subst (λ (bytes : List ℕ). FileOf bytes c.in-Ok.joined) c.deref.ensures.value c.in-Ok.ensures.file) c.in_ok-bytes.ensures.file)
    ∙ c.in_ok-bytes.ensures.messages
