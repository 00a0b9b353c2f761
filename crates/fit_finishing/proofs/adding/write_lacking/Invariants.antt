use Rattle.std.proofs.Common.{◌≡◌, ◌≤◌, length, take}
use Rattle.fit_grammar.specs.Format.Encoding.{encoded_items}
use Rattle.fit_activity.specs.Messages.MessageBytes.{speech_size}
use Rattle.fit_finishing.specs.Details.{speech_with}
use Rattle.fit_finishing.specs.Lacking.{added_items}
use Rattle.fit_finishing.proofs.adding.write_lacking.Given as goal

-- the bytes so far are those of the messages so far that the file lacks
abbrev pub invariant-loop-message : goal.invariant-loop-message
invariant-loop-message l =
    record {
      written : take l.used l.out ≡ encoded_items (added_items l.lacks (speech_with l.details (take l.message-index l.speech)));
      count : l.used ≤ speech_size (speech_with l.details (take l.message-index l.speech));
      long : length l.out ≡ length l.initial.out;
    }
