-- Whether the rider made a lap, message by message: for `has_made_lap`.
use Rattle.std.proofs.Common.{◌≡◌, ◌==◌, ◌&&◌, ◌||◌, Bool, true, false, List, ◌∷◌, refl}
use Rattle.std.specs.List.{list_any}
use Rattle.fit_grammar.specs.Format.Message.{Message}
use Rattle.fit_joining.specs.Joined.{goes_on, has_made_lap}

-- among messages after others, of which one was a lap or none
abbrev pub made_after : Bool → List Message → Bool
made_after has_lap messages = (has_lap && list_any goes_on messages) || has_made_lap messages

-- ---- one more message

-- a lap or a record after a lap
pub found : (has_lap : Bool) (m : Message) (messages : List Message) → (has_lap && goes_on m) ≡ true → made_after has_lap (m ∷ messages) ≡ true
found true m messages is = rw is refl
found false m messages is = cc

-- any other
passed_by : (has_lap lap record_here more made : Bool) → (has_lap && (lap || record_here)) ≡ false
    → ((has_lap && ((lap || record_here) || more)) || ((lap && more) || made)) ≡ (((has_lap || lap) && more) || made)
passed_by true true record_here more made is = cc
passed_by true false true more made is = cc
passed_by true false false more made is = refl
passed_by false lap record_here more made is = refl

pub passed : (has_lap : Bool) (m : Message) (messages : List Message) → (has_lap && goes_on m) ≡ false
    → made_after has_lap (m ∷ messages) ≡ made_after (has_lap || (m.global == 19)) messages
passed has_lap m messages is =
    passed_by has_lap (m.global == 19) (m.global == 20) (list_any goes_on messages) (has_made_lap messages) is
