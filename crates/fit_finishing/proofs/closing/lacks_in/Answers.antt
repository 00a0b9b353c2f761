use Rattle.std.proofs.Common.{◌≡◌, ap, sym, ◌∙◌}
use Rattle.std.specs.Prelude.{◌==◌, ◌&&◌, not, count_by}
use Rattle.fit_grammar.specs.Format.Message.{messages_of}
use Rattle.fit_activity.specs.Rides.Recording.{is_lap}
use Rattle.fit_activity.specs.Rides.Timer.{runs_now}
use Rattle.fit_activity.specs.Files.Activity.{begins_with_file_id, messages_counted}
use Rattle.fit_finishing.specs.Lacking.{goes_on, lacks_lap}
use Rattle.fit_finishing.proofs.closing.lacks_in.Goals as goal
use Rattle.fit_finishing.proofs.closing.lacks_in.Goals.{then-running, else-running}

pub returns : goal.returns
returns c = λ list are.
    let messages = messages_of c.args.file.now.items in
    let stop : c.if-running.result ≡ (runs_now list && (messages_counted 18 messages == 0)) =
    elim c.if-running.branch [
      | then-running w ↦ w.result-is ∙ ap (λ n. n == 0) c.count_of-sessions.ensures ∙ ap (λ b. b && (messages_counted 18 messages == 0)) (sym w.if-running.true ∙ c.running.ensures list are)
      | else-running w ↦ w.result-is ∙ w.if-running.false ∙ ap (λ b. b && (messages_counted 18 messages == 0)) (sym w.if-running.false ∙ c.running.ensures list are)
    ] in
    let laps = messages_counted 19 messages in
    let sessions = messages_counted 18 messages in
    let lap : c.lacks_lap.result ≡ lacks_lap laps sessions (count_by is_lap list) (goes_on list) =
    c.lacks_lap.ensures ∙ ap (λ n. lacks_lap n c.count_of-sessions.result c.from.result c.went_on.result) c.count_of.ensures
    ∙ ap (λ n. lacks_lap laps n c.from.result c.went_on.result) c.count_of-sessions.ensures
    ∙ ap (λ n. lacks_lap laps sessions n c.went_on.result) (c.from.ensures ∙ ap (λ lap. lap.index) (c.lap.ensures list are))
    ∙ ap (lacks_lap laps sessions (count_by is_lap list)) (c.went_on.ensures list are) in
    let session : (c.count_of-sessions.result == 0) ≡ (messages_counted 18 messages == 0) = ap (λ n. n == 0) c.count_of-sessions.ensures in
    let file_id : not c.begins_with_file_id.result ≡ not (begins_with_file_id messages) = ap not c.begins_with_file_id.ensures in
    let activity : (c.count_of-2.result == 0) ≡ (messages_counted 34 messages == 0) = ap (λ n. n == 0) c.count_of-2.ensures in
    cc
