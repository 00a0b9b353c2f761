use Rattle.std.proofs.Common.{length, ap, ◌∙◌, arith}
use Rattle.fit_grammar.proofs.Encoder.Encoded.{encoded_is_file}
use Rattle.fit_grammar.proofs.Counted.{few_messages}
use Rattle.fit_files.proofs.plain.count_messages.Goals as goal

pub loop-message-preserved : goal.loop-message-preserved
loop-message-preserved c = omega (arith, ap length c.in-Some.ensures.steps, c.loop-message.invariant)

pub overflow_add-count : goal.overflow_add-count
overflow_add-count c =
    let all = c.into_iter-message-iterator.ensures.into_iter_gives ∙ c.messages-message-items.ensures in
    omega (arith, ap length all, few_messages c.args.file.now.items, c.frame-frame.ensures.possible.bound, c.loop-message.invariant)

pub returns-clause-count : goal.returns-clause-count
returns-clause-count c =
    let all = c.into_iter-message-iterator.ensures.into_iter_gives ∙ c.messages-message-items.ensures in
    omega (arith, ap length all, ap length c.in-None.ensures.steps.0, c.loop-message.invariant)

pub returns-clause-file : goal.returns-clause-file
returns-clause-file c = encoded_is_file c.args.file.now c.frame-frame.ensures.possible
