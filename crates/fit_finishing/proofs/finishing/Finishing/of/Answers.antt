use Rattle.std.proofs.Common.{◌≡◌, ◌++◌, ◌∷◌, [], refl, sym, ap, ◌∙◌, subst, arith, map}
use Rattle.std.specs.Prelude.{not}
use Rattle.std.specs.List.{filter}
use Rattle.std.proofs.lemmas.Bool.{leb-true}
use Rattle.fit_grammar.specs.Format.Message.{messages_of}
use Rattle.fit_grammar.proofs.Counted.{few_messages}
use Rattle.fit_activity.specs.Rides.Recording.{start_time}
use Rattle.fit_activity.specs.Messages.ProfileField.{ProfileMessageFits, as_message}
use Rattle.fit_activity.specs.Messages.ProfileMessage.{file_id_message}
use Rattle.fit_activity.specs.Messages.MessageBytes.{spelled, message_stated}
use Rattle.fit_activity.specs.Messages.RideMessages.{closing_with, session_with}
use Rattle.fit_activity.specs.Files.Activity.{activity_in, summary_of}
use Rattle.fit_finishing.specs.Heard.{heard}
use Rattle.fit_activity.specs.declared.recording.start.Sport.TheVariants.{Generic}
use Rattle.fit_activity.specs.Rides.Refusal.{has_stopped}
use Rattle.fit_activity.specs.Rides.Stretch.{end_time, lap_of, activity_of}
use Rattle.fit_finishing.specs.Effort.{effort_of, effort_message}
use Rattle.fit_finishing.specs.Sports.{sport_heard}
use Rattle.fit_finishing.specs.declared.details.Details.{Details}
use Rattle.fit_finishing.specs.Details.{with_details, speech_with}
use Rattle.fit_finishing.specs.Lacking.{is_lacking, added_items, opening, closing_detailed, details_of, number_stated, laps_finished, sessions_finished}
use Rattle.fit_finishing.specs.Finished.{finished_messages}
use Rattle.fit_finishing.specs.Private.Ride.{IsRide, IsHearing}
use Rattle.fit_finishing.proofs.Room.{heard-held}
use Rattle.fit_finishing.proofs.Added.{added_messages, added_size, opened_messages, nothing_added}
use Rattle.fit_finishing.proofs.Detailed.{DetailsFit, closing-stated}
use Rattle.fit_finishing.proofs.Possible.{opening-fits, closing-fits, closing-can, opening-can, closed-follow, possible}
use Rattle.fit_finishing.proofs.Passes.{passes}
use Rattle.fit_finishing.proofs.finishing.Finishing.of.Goals as goal

pub returns-clause-finishing : goal.returns-clause-finishing
returns-clause-finishing c =
    let v = c.args.file.now in
    let messages = messages_of v.items in
    let h = heard messages in
    let all : IsHearing c.hear.result h = c.hear.ensures in
    let is : IsRide c.in-Riding.ride h = subst (λ x. IsHearing x h) c.in-Riding.is all in
    let lacks = c.lacks_in-lacks.result in
    let lacks_is = c.lacks_in-lacks.ensures h.list is.totals in
    let details = c.in_fields-details.result in
    let own = c.speak_file_id.new.speech in
    let last = c.speak_closing_with.new.speech in
    let first = speech_with details own in
    let closing = speech_with details last in
    let opening_is : own ≡ spelled (file_id_message (start_time h.list) 0) ∷ [] =
    c.speak_file_id.ensures.spelled ∙ ap (λ t. spelled (file_id_message t 0) ∷ []) (c.first_time.ensures h.list is.totals) in
    let first_is : first ≡ spelled (file_id_message (start_time h.list) 0) ∷ [] = ap (speech_with details) opening_is in
    let opening_stated : map message_stated first ≡ opening h.list =
    ap (map message_stated) (first_is ∙ sym opening_is) ∙ c.speak_file_id.ensures.stated ∙ ap (λ t. as_message (file_id_message t 0) ∷ []) (c.first_time.ensures h.list is.totals) in
    let last_is = c.speak_closing_with.ensures.spelled h.list is.totals in
    let first_fits = opening-fits details (start_time h.list) 0 own opening_is in
    let closing_fits = closing-fits details c.laps_of.result h.list last last_is in
    let can = c.frame-frame.ensures.possible in
    let follow = closed-follow lacks v.items closing can.items_follow closing_fits.fit closing_fits.whole in
    let is_details : details ≡ details_of messages h.list =
    c.in_fields-details.ensures.same
    ∙ ap (λ sport. record { sport = sport; effort = c.summary.result; sessions = c.sessions_of.result }) c.sport_in.ensures
    ∙ ap (λ effort. record { sport = sport_heard messages; effort = effort; sessions = c.sessions_of.result }) (c.summary.ensures.value h.list is.effort)
    ∙ ap (λ n. record { sport = sport_heard messages; effort = effort_of h.list; sessions = n }) (c.sessions_of.ensures ∙ ap (λ x. number_stated (sessions_finished x messages)) lacks_is) in
    let fit : DetailsFit details = record {
      sport = c.in_fields-details.ensures.sport;
      effort = subst (λ (d : Details). ProfileMessageFits (effort_message d.effort)) (sym c.in_fields-details.ensures.same) c.summary.ensures.fits;
      sessions = c.in_fields-details.ensures.sessions;
    } in
    let closing_stated : map message_stated closing ≡ closing_detailed (number_stated (laps_finished lacks messages)) (details_of messages h.list) h.list =
    ap (λ speech. map message_stated (speech_with details speech)) last_is
    ∙ closing-stated details (has_stopped h.list) (end_time h.list) (lap_of h.list) (session_with c.laps_of.result h.list) (activity_of h.list) fit
    ∙ ap (λ speech. map (with_details details) (map message_stated speech)) (sym last_is)
    ∙ ap (map (with_details details)) (c.speak_closing_with.ensures.stated h.list is.totals)
    ∙ ap (λ d. map (with_details d) (closing_with c.laps_of.result h.list)) is_details
    ∙ ap (λ n. closing_detailed n (details_of messages h.list) h.list) c.laps_of.ensures in
    let stated : messages_of (added_items lacks first ++ (v.items ++ added_items lacks closing)) ≡ finished_messages messages =
    ap (λ speech. messages_of (added_items lacks speech ++ (v.items ++ added_items lacks closing))) first_is
    ∙ opened_messages lacks (start_time h.list) 0 (v.items ++ added_items lacks closing) follow
    ∙ ap (λ speech. filter (is_lacking lacks) (map message_stated speech) ++ messages_of (v.items ++ added_items lacks closing)) (sym first_is)
    ∙ ap (λ ms. filter (is_lacking lacks) ms ++ messages_of (v.items ++ added_items lacks closing)) opening_stated
    ∙ ap (λ ms. filter (is_lacking lacks) (opening h.list) ++ ms) (added_messages lacks v.items closing)
    ∙ ap (λ ms. filter (is_lacking lacks) (opening h.list) ++ (messages ++ filter (is_lacking lacks) ms)) closing_stated
    ∙ ap (λ x. filter (is_lacking x) (opening h.list) ++ (messages ++ filter (is_lacking x) (closing_detailed (number_stated (laps_finished x messages)) (details_of messages h.list) h.list))) lacks_is in
    let few = added_size lacks first in
    let more = added_size lacks closing in
    record {
      finishes = record {
        frame = refl;
        items = (
          added_items lacks first,
          added_items lacks closing,
          refl,
          λ begins. nothing_added lacks first (start_time h.list) 0 first_is (ap (λ x. x.file_id) lacks_is ∙ ap not begins),
        );
        possible = possible v lacks first closing can first_fits closing_fits (omega (arith, few, first_fits.size)) (omega (arith, more, closing_fits.size)) (omega arith);
        messages = stated;
        taken = is.taken;
        left_out = is.left_out;
        sampled = leb-true 1 _ (sym is.sampled ∙ c.if-not-ride.false);
        activity = (summary_of (finished_messages messages), ap activity_in stated ∙ passes messages h.list (c.is_finishable.ensures.finishable c.if-not-is_finishable.false));
      };
      file_id = ap (λ x. x.file_id) lacks_is;
      fits = record {
        opening_can = opening-can (start_time h.list) 0 own opening_is;
        opening_size = first_fits.size;
        opening_added = omega (arith, few, first_fits.size);
        closing_can = closing-can c.laps_of.result h.list last last_is;
        closing_size = closing_fits.size;
        closing_added = omega (arith, more, closing_fits.size);
        room = omega arith;
      };
    }

pub summary-requires : goal.summary-requires
summary-requires c =
    let messages = messages_of c.args.file.now.items in
    let h = heard messages in
    let all : IsHearing c.hear.result h = c.hear.ensures in
    let is : IsRide c.in-Riding.ride h = subst (λ x. IsHearing x h) c.in-Riding.is all in
    (h.list, is.effort, omega (arith, heard-held Generic messages, few_messages c.args.file.now.items, c.frame-frame.ensures.possible.bound))
