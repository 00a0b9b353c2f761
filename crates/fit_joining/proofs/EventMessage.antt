-- The messages that are added, an event of the timer and the sport: for `write_joined`.
use Rattle.std.proofs.Common.{◌≡◌, ℕ, ◌+◌, ◌*◌, [], ◌∷◌, None, ap, ◌∙◌, arith}
use Rattle.fit_base.specs.Value.{Numbers}
use Rattle.fit_grammar.specs.Format.Message.{Message, message_under}
use Rattle.fit_grammar.proofs.Encoder.Encoded.{four_again}
use Rattle.fit_joining.specs.Timer.{timer_message}
use Rattle.fit_finishing.specs.declared.sport.SportStated.{SportStated}
use Rattle.fit_joining.specs.Joined.{sport_message}
use Rattle.fit_joining.specs.Events.{event_definition, event_content, sport_definition, sport_content}

one_again : (n : ℕ) → n + 256 * 0 ≡ n
one_again n = omega arith

-- an event with these numbers in its fields
abbrev event_by : ℕ → ℕ → Message
event_by time type =
    record {
      global = 21;
      fields =
          record { number = 253; base = 0x86; values = Numbers (time ∷ []) } ∷ record { number = 0; base = 0; values = Numbers (0 ∷ []) }
          ∷ record { number = 1; base = 0; values = Numbers (type ∷ []) } ∷ [];
      developer = [];
    }

pub event_stated : (time type : ℕ) → message_under event_definition None (event_content time type) ≡ timer_message time type
event_stated time type =
    ap (λ (n : ℕ). event_by n (type + 256 * 0)) (four_again time) ∙ ap (event_by time) (one_again type)

abbrev sport_by : ℕ → ℕ → Message
sport_by sport sub_sport = sport_message (record { sport = sport; sub_sport = sub_sport })

pub sport_stated : (s : SportStated) → message_under sport_definition None (sport_content s) ≡ sport_message s
sport_stated s =
    ap (λ (n : ℕ). sport_by n (s.sub_sport + 256 * 0)) (one_again s.sport) ∙ ap (sport_by s.sport) (one_again s.sub_sport)
