use Rattle.std.proofs.Common.{◌≡◌, ℕ, Some, Bool, sym, ap, ◌∙◌}
use Rattle.std.specs.Prelude.{slice_set, is_some}
use Rattle.fit_grammar.specs.Calls.PlainForm.{timed_definition}
use Rattle.fit_grammar.specs.Format.Records.{in_force}
use Rattle.fit_grammar.proofs.plain.making.Plain.take_data.Goals as goal
use Rattle.fit_grammar.proofs.plain.making.Plain.take_data.Goals.{In_ok-put, then-self-message+in_ok-define_plain, else-self-message+else-size-room}
use Rattle.fit_grammar.proofs.PlainForm.Taken.{timed_local, defined_here, set_again, same_flag}

pub put-requires-clause-in_force : goal.put-requires-clause-in_force
put-requires-clause-in_force c =
    let m = c.args.message.now in
    elim c.if-self-message.branch [
      | then-self-message+in_ok-define_plain w ↦
          let local = timed_local c.is_some-timed.result m.definition ∙ c.requires.1 in
          ap (λ p. in_force p.file.items m.local) w.self-is
          ∙ defined_here c.args.self.now.file w.define_plain.new.self.file (timed_definition c.is_some-timed.result m.definition) m.local
          w.in_ok-define_plain.ensures.file local
          ∙ ap (λ (b : Bool). Some (timed_definition b m.definition)) c.is_some-timed.ensures
      | else-self-message+else-size-room w ↦
          let flag = same_flag _ _ w.if-self-message.false in
          ap (λ p. in_force p.file.items m.local) w.self-is ∙ c.requires.2 (flag ∙ c.is_some-timed.ensures)
    ]

-- the flag after the definition, if one is written
flag : (c : In_ok-put) → c.if-self-message.self.timed ≡ slice_set c.args.self.now.timed c.args.message.now.local (is_some c.args.time)
flag c =
    let old = c.args.self.now.timed in
    let m = c.args.message.now in
    elim c.if-self-message.branch [
      | then-self-message+in_ok-define_plain w ↦
          ap (λ p. p.timed) w.self-is ∙ w.in_ok-define_plain.ensures.timed
          ∙ ap (λ (l : ℕ). slice_set old l c.is_some-timed.result) c.requires.1
          ∙ ap (λ (b : Bool). slice_set old m.local b) c.is_some-timed.ensures
      | else-self-message+else-size-room w ↦ ap (λ p. p.timed) w.self-is
          ∙ sym (set_again old m.local (is_some c.args.time) (same_flag _ _ w.if-self-message.false ∙ c.is_some-timed.ensures))
    ]

pub returns-clause-timed : goal.returns-clause-timed
returns-clause-timed c = c.put.ensures.timed ∙ flag c
