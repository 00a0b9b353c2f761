use Rattle.std.proofs.Common.{◌≡◌, ◌≢◌, ℕ, ◌+◌, ◌*◌, ◌<◌, List, [], ◌∷◌, length, Option, option_map, None, Some, refl, sym, ◌∙◌, ap, arith}
use Rattle.std.specs.Prelude.{slice_index, IfSome}
use Rattle.fit_base.specs.Number.{low_first}
use Rattle.fit_grammar.specs.declared.definition.Definition.{Definition}
use Rattle.fit_grammar.specs.Format.Message.{message_under}
use Rattle.fit_grammar.specs.Calls.LentMessage.{LentMessage, lent_time}
use Rattle.fit_grammar.proofs.StatedTime.{no_time_in_short}
use Rattle.fit_grammar.proofs.message.Message.time.Goals as goal

four_bytes : (bytes : List ℕ) → length bytes ≡ 4
    → slice_index bytes 0 + slice_index bytes 1 * 256 + slice_index bytes 2 * 65536 + slice_index bytes 3 * 16777216 ≡ low_first bytes
four_bytes [] long = absurd (omega arith)
four_bytes (a ∷ []) long = absurd (omega arith)
four_bytes (a ∷ b ∷ []) long = absurd (omega arith)
four_bytes (a ∷ b ∷ c ∷ []) long = absurd (omega arith)
four_bytes (a ∷ b ∷ c ∷ d ∷ []) long = omega arith
four_bytes (a ∷ b ∷ c ∷ d ∷ e ∷ bytes) long = absurd (omega arith)

long_by : (time : Option (List ℕ)) (bytes : List ℕ) → time ≡ Some bytes → IfSome time (λ b. length b ≡ 4) → length bytes ≡ 4
long_by time bytes is h = rw is at h

pub returns-in-Some-clause-time : goal.returns-in-Some-clause-time
returns-in-Some-clause-time c =
    let long = long_by c.self.inside.time c.in-Some.bytes c.in-Some.is c.self.invariant.1 in
    let value : c.from_le_bytes.result ≡ low_first c.in-Some.bytes = c.from_le_bytes.ensures ∙ four_bytes c.in-Some.bytes long in
    rw (← c.self.view_is, c.in-Some.is, value) refl

abbrev lent : Definition → Option (List ℕ) → List ℕ → LentMessage
lent d time content = record {
  compressed = option_map low_first time;
  message = message_under d (option_map low_first time) content;
}

no_time_in : (d : Definition) (time : Option (List ℕ)) (content : List ℕ)
    → ((bytes : List ℕ) → time ≢ Some bytes) → length content < 4 → None ≡ lent_time (lent d time content)
no_time_in d None content none short = sym (no_time_in_short d.arch d.fields.items content short)
no_time_in d (Some bytes) content none short = absurd (none bytes refl)

pub returns-then-self-lt4-clause-time : goal.returns-then-self-lt4-clause-time
returns-then-self-lt4-clause-time c =
    let none = no_time_in c.self.inside.definition c.self.inside.time c.self.inside.content.now
    c.in_default.not-Some c.if-self-lt4.true in
    none ∙ ap lent_time c.self.view_is
