-- What is kept of messages, with one more message.
use Rattle.std.proofs.Common.{◌≡◌, ℕ, ◌+◌, ◌<◌, ◌^◌, Bool, true, false, cond, nat_eq, List, [], ◌∷◌, ◌++◌, length, Option, Some, refl, sym, ap, ◌∙◌, arith, length-append}
use Rattle.std.specs.Prelude.{find, count_by, option_and_then, ◌==◌, ◌&&◌}
use Rattle.std.proofs.lemmas.List.Sums.{sum_by_push, sum_by-cons, count_by-le-length}
use Rattle.std.proofs.lemmas.Bool.{ne_eqb}
use Rattle.fit_base.specs.declared.base.BaseType.TheVariants.{Enum, Uint32}
use Rattle.fit_grammar.specs.Format.Message.{Message}
use Rattle.fit_activity.specs.declared.activity.seen.Seen.{Seen}
use Rattle.fit_activity.specs.declared.activity.seen.SessionValues.{SessionValues}
use Rattle.fit_grammar.specs.Format.OneValue.{value_of}
use Rattle.fit_activity.specs.Files.Activity.{has_global, begins_with_file_id, is_activity_file, is_activity_type, messages_counted}
use Rattle.fit_activity.specs.Private.Seen.{session_values, is_some_message, seen_in_messages, seen_with}

-- the first message that passes a test
find-by : (b : Bool) (k : ℕ) (p : Message → Bool) (x m : Message) (rest : Option Message)
    → cond b (Some x) (cond (nat_eq k 0 && p m) (Some m) rest) ≡ cond (nat_eq (cond b 1 0 + k) 0 && p m) (Some m) (cond b (Some x) rest)
find-by true k p x m rest =
    let no : nat_eq (1 + k) 0 ≡ false = ne_eqb (1 + k) 0 (λ e. omega (arith, e)) in
    ap (λ b. cond (b && p m) (Some m) (Some x)) (sym no)
find-by false k p x m rest =
    let e : 0 + k ≡ k = omega arith in
    ap (λ (n : ℕ). cond (nat_eq n 0 && p m) (Some m) rest) (sym e)

pub find-push : (p : Message → Bool) (messages : List Message) (m : Message)
    → find p (messages ++ m ∷ []) ≡ cond (nat_eq (count_by p messages) 0 && p m) (Some m) (find p messages)
find-push p [] m = refl
find-push p (x ∷ messages) m =
    ap (λ o. cond (p x) (Some x) o) (find-push p messages m)
    ∙ find-by (p x) (count_by p messages) p x m (find p messages)
    ∙ ap (λ (n : ℕ). cond (nat_eq n 0 && p m) (Some m) (find p (x ∷ messages))) (sym (sum_by-cons (λ y. cond (p y) 1 0) x messages))

-- the values of a session, if there is one
abbrev pub values_by : Option Message → SessionValues
values_by o =
    record {
      start = option_and_then (value_of Uint32 2) o;
      elapsed_ms = option_and_then (value_of Uint32 7) o;
      timer_ms = option_and_then (value_of Uint32 8) o;
      distance_cm = option_and_then (value_of Uint32 9) o;
    }

values-cond : (b : Bool) (m : Message) (o : Option Message) → cond b (session_values m) (values_by o) ≡ values_by (cond b (Some m) o)
values-cond true m o = refl
values-cond false m o = refl

begins-push : (messages : List Message) (m : Message) → cond (is_some_message messages) (begins_with_file_id messages) (has_global 0 m) ≡ begins_with_file_id (messages ++ m ∷ [])
begins-push [] m = refl
begins-push (x ∷ messages) m = refl

activity-push : (messages : List Message) (m : Message)
    → cond (is_some_message messages) (is_activity_file messages) (is_activity_type (value_of Enum 0 m)) ≡ is_activity_file (messages ++ m ∷ [])
activity-push [] m = refl
activity-push (x ∷ messages) m = refl

some-push : (messages : List Message) (m : Message) → true ≡ is_some_message (messages ++ m ∷ [])
some-push [] m = refl
some-push (x ∷ messages) m = refl

pub count-push : (global : ℕ) (messages : List Message) (m : Message) → messages_counted global messages + cond (m.global == global) 1 0 ≡ messages_counted global (messages ++ m ∷ [])
count-push global messages m = sym (sum_by_push (λ x. cond (has_global global x) 1 0) messages m)

abbrev pub seen_from : Bool → Bool → Bool → ℕ → ℕ → ℕ → ℕ → SessionValues → Seen
seen_from begun file_id activity_file records laps sessions activities session =
    record {
      begun = begun;
      file_id = file_id;
      activity_file = activity_file;
      records = records;
      laps = laps;
      sessions = sessions;
      activities = activities;
      session = session;
    }

pub seen-push : (messages : List Message) (m : Message) → seen_with (seen_in_messages messages) m ≡ seen_in_messages (messages ++ m ∷ [])
seen-push messages m =
    let all = messages ++ m ∷ [] in
    let f = cond (is_some_message messages) (begins_with_file_id messages) (has_global 0 m) in
    let a = cond (is_some_message messages) (is_activity_file messages) (is_activity_type (value_of Enum 0 m)) in
    let r = messages_counted 20 messages + cond (m.global == 20) 1 0 in
    let l = messages_counted 19 messages + cond (m.global == 19) 1 0 in
    let s = messages_counted 18 messages + cond (m.global == 18) 1 0 in
    let c = messages_counted 34 messages + cond (m.global == 34) 1 0 in
    let v = cond ((messages_counted 18 messages == 0) && has_global 18 m) (session_values m) (values_by (find (has_global 18) messages)) in
    let session = values-cond ((messages_counted 18 messages == 0) && has_global 18 m) m (find (has_global 18) messages) ∙ ap values_by (sym (find-push (has_global 18) messages m)) in
    ap (λ b. seen_from b f a r l s c v) (some-push messages m)
    ∙ ap (λ b. seen_from (is_some_message all) b a r l s c v) (begins-push messages m)
    ∙ ap (λ b. seen_from (is_some_message all) (begins_with_file_id all) b r l s c v) (activity-push messages m)
    ∙ ap (λ (n : ℕ). seen_from (is_some_message all) (begins_with_file_id all) (is_activity_file all) n l s c v) (count-push 20 messages m)
    ∙ ap (λ (n : ℕ). seen_from (is_some_message all) (begins_with_file_id all) (is_activity_file all) (messages_counted 20 all) n s c v) (count-push 19 messages m)
    ∙ ap (λ (n : ℕ). seen_from (is_some_message all) (begins_with_file_id all) (is_activity_file all) (messages_counted 20 all) (messages_counted 19 all) n c v) (count-push 18 messages m)
    ∙ ap (λ (n : ℕ). seen_from (is_some_message all) (begins_with_file_id all) (is_activity_file all) (messages_counted 20 all) (messages_counted 19 all) (messages_counted 18 all) n v) (count-push 34 messages m)
    ∙ ap (λ w. seen_from (is_some_message all) (begins_with_file_id all) (is_activity_file all) (messages_counted 20 all) (messages_counted 19 all) (messages_counted 18 all) (messages_counted 34 all) w) session

-- a count has room for one more message, among fewer than 2^32
pub count-room : (global : ℕ) (done : List Message) (m : Message) (rest all : List Message) → all ≡ done ++ m ∷ rest → length all < 2 ^ 32
    → messages_counted global done + 1 < 2 ^ 32
count-room global done m rest all joined few =
    let whole = ap length joined ∙ length-append done (m ∷ rest) in
    omega (arith, whole, few, count_by-le-length (has_global global) done)
