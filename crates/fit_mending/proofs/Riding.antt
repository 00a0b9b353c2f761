-- Items that go on with the messages before them.
use Rattle.std.proofs.Common.{◌≡◌, ℕ, ◌+◌, ◌-◌, ◌<◌, ◌≤◌, Bool, true, false, List, [], ◌∷◌, ◌++◌, length, take, drop, Option, Some, None, refl, sym, ap, subst, ◌∙◌, append_assoc, append-nil, arith}
use Rattle.std.proofs.Math.Seq.{drop-append_seam, take-append_seam}
use Rattle.std.proofs.lemmas.List.{length-append, length-take-le}
use Rattle.std.specs.Prelude.{ltb}
use Rattle.std.proofs.lemmas.Bool.{ltb-true, ltb-false}
use Rattle.fit_grammar.specs.declared.definition.Definition.{Definition}
use Rattle.fit_grammar.specs.declared.item.Item.{Item as ReadItem}
use Rattle.fit_grammar.specs.declared.item.Item.TheVariants as items
use Rattle.fit_grammar.specs.declared.item.Step.{Step}
use Rattle.fit_grammar.specs.declared.item.Step.TheVariants as steps
use Rattle.fit_grammar.specs.Format.Item.{Item, Spells}
use Rattle.fit_grammar.specs.Format.Records.{IsDefinedBy, RecordsAfter, in_force}
use Rattle.fit_grammar.specs.Format.Message.{compressed_time}
use Rattle.fit_grammar.specs.Calls.LentMessage.{message_lent}
use Rattle.fit_grammar.specs.Calls.Step.{item_of, ItemAtFront, IsStep, IsStepItem, LendsFrom, StepReports}
use Rattle.fit_grammar.specs.Calls.Table.{in_force_after}
use Rattle.fit_grammar.proofs.OneItem.Steps.{items_one, only_item}
use Rattle.fit_grammar.proofs.OneItem.Spelling.{spelling_not_empty}
use Rattle.fit_grammar.proofs.KeptRow.ByLookup.{in_force_after-in_force}
use Rattle.fit_mending.specs.declared.rides.Followed.{Followed}
use Rattle.fit_mending.specs.Private.Passed.{HasLeft}
use Rattle.fit_mending.specs.Others.{BeginsRide, GoesOn, IsRide, IsRideWith, followed_message}
use Rattle.fit_mending.specs.Judged.{message_by, message_with}

pub message_same : (f : ℕ → Option Definition) (time : ℕ) (item : ReadItem) (used : ℕ) → LendsFrom f (steps.Item item used)
    → message_by f time (item_of item) ≡ message_lent item time
message_same f time (items.Definition d) used lent = refl
message_same f time (items.Data m) used lent = ap (λ (o : Option Definition). message_with o (compressed_time time m.offset) m.content.now) lent

-- with one more item at the front
pub more_goes : (f g : ℕ → Option Definition) (bytes : List ℕ) (item : ReadItem) (used most : ℕ) (so_far more : Followed) (time : ℕ)
    → IsStep f bytes (steps.Item item used) → followed_message so_far (message_lent item so_far.time) ≡ Some more
    → g ≡ in_force_after (item_of item) f → 1 ≤ most → GoesOn (most - 1) g more (drop used bytes) time → GoesOn most f so_far bytes time
more_goes f g bytes item used most so_far more time step e g_is some on = (
  item_of item ∷ on.0,
  omega (arith, on.1, some),
  (
    used,
    more,
    step.states,
    ap (followed_message so_far) (message_same f so_far.time item used step.lent) ∙ e,
    subst (λ (h : ℕ → Option Definition). IsRideWith h more (drop used bytes) on.0 time) g_is on.2,
  ),
)

some_same : (a b : Followed) → Some a ≡ Some b → a ≡ b
some_same a b e = cc

-- so without it
less_by : (f g : ℕ → Option Definition) (bytes : List ℕ) (item : ReadItem) (used most : ℕ) (so_far more : Followed) (time : ℕ)
    (all : List Item) → length all ≤ most → IsRideWith f so_far bytes all time → (IsRide so_far → ⊥)
    → IsStep f bytes (steps.Item item used) → followed_message so_far (message_lent item so_far.time) ≡ Some more
    → g ≡ in_force_after (item_of item) f → GoesOn (most - 1) g more (drop used bytes) time
less_by f g bytes item used most so_far more time [] few on none step e g_is = absurd (none on.0)
less_by f g bytes item used most so_far more time (first ∷ all) few on none step e g_is =
    let one = items_one f bytes first (item_of item) on.0 used on.2 step.states in
    let message : followed_message so_far (message_by f so_far.time first) ≡ followed_message so_far (message_lent item so_far.time) =
    ap (λ (i : Item). followed_message so_far (message_by f so_far.time i)) one.0
    ∙ ap (followed_message so_far) (message_same f so_far.time item used step.lent) in
    let next : on.1 ≡ more = some_same on.1 more (sym on.3 ∙ message ∙ e) in (
      all,
      omega (arith, few),
      subst (λ (h : ℕ → Option Definition). IsRideWith h more (drop used bytes) all time) (sym g_is)
          (subst (λ (i : Item). IsRideWith (in_force_after i f) more (drop used bytes) all time) one.0
          (subst (λ (n : ℕ). IsRideWith (in_force_after first f) more (drop n bytes) all time) one.1
          (subst (λ (m : Followed). IsRideWith (in_force_after first f) m (drop on.0 bytes) all time) next on.4))),
    )

pub less_goes : (f g : ℕ → Option Definition) (bytes : List ℕ) (item : ReadItem) (used most : ℕ) (so_far more : Followed) (time : ℕ)
    → GoesOn most f so_far bytes time → (IsRide so_far → ⊥) → IsStep f bytes (steps.Item item used)
    → followed_message so_far (message_lent item so_far.time) ≡ Some more → g ≡ in_force_after (item_of item) f
    → GoesOn (most - 1) g more (drop used bytes) time
less_goes f g bytes item used most so_far more time on none step e g_is =
    less_by f g bytes item used most so_far more time on.0 on.1 on.2 none step e g_is

-- an item with which it does not go on
differs : (a : Followed) (o : Option Followed) → o ≡ Some a → o ≡ None → ⊥
differs a o e none = cc

ends_by : (f : ℕ → Option Definition) (bytes : List ℕ) (item : ReadItem) (used : ℕ) (so_far : Followed) (time : ℕ) (all : List Item)
    → IsRideWith f so_far bytes all time → (IsRide so_far → ⊥) → IsStep f bytes (steps.Item item used)
    → followed_message so_far (message_lent item so_far.time) ≡ None → ⊥
ends_by f bytes item used so_far time [] on none step e = none on.0
ends_by f bytes item used so_far time (first ∷ all) on none step e =
    let one = items_one f bytes first (item_of item) on.0 used on.2 step.states in
    differs on.1 (followed_message so_far (message_by f so_far.time first)) on.3
    (ap (λ (i : Item). followed_message so_far (message_by f so_far.time i)) one.0
    ∙ ap (followed_message so_far) (message_same f so_far.time item used step.lent) ∙ e)

pub ends_goes : (f : ℕ → Option Definition) (bytes : List ℕ) (item : ReadItem) (used most : ℕ) (so_far : Followed) (time : ℕ)
    → GoesOn most f so_far bytes time → (IsRide so_far → ⊥) → IsStep f bytes (steps.Item item used)
    → followed_message so_far (message_lent item so_far.time) ≡ None → ⊥
ends_goes f bytes item used most so_far time on none step e = ends_by f bytes item used so_far time on.0 on.2 none step e

-- an item that bytes begin with
at_front : (f : ℕ → Option Definition) (window own rest : List ℕ) (item : Item) → window ≡ own ++ rest → Spells item own
    → IsDefinedBy f item → ItemAtFront f window item (length own)
at_front f window own rest item e spelled defined = record {
  within = omega (arith, ap length e, length-append own rest);
  spelled = subst (Spells item) (sym (ap (λ (l : List ℕ). take (length own) l) e ∙ take-append_seam own rest)) spelled;
  defined = defined;
}

-- no item
no_item : (step : Step) (item : Item) (used : ℕ) → ((found : ReadItem) (count : ℕ) → step ≡ steps.Item found count → ⊥)
    → IsStepItem step item used → ⊥
no_item (steps.Item found count) item used none is = none found count refl
no_item steps.NeedMore item used none is = is
no_item (steps.Refused fault) item used none is = is

pub no_front : (f : ℕ → Option Definition) (bytes : List ℕ) (step : Step) (item : Item) (used : ℕ) → StepReports f bytes step
    → ((found : ReadItem) (count : ℕ) → step ≡ steps.Item found count → ⊥) → ItemAtFront f bytes item used → ⊥
no_front f bytes step item used states none at = no_item step item used none (only_item f bytes step item used states at)

stops_by : (f : ℕ → Option Definition) (bytes : List ℕ) (step : Step) (so_far : Followed) (time : ℕ) (all : List Item)
    → IsRideWith f so_far bytes all time → (IsRide so_far → ⊥) → StepReports f bytes step
    → ((found : ReadItem) (count : ℕ) → step ≡ steps.Item found count → ⊥) → ⊥
stops_by f bytes step so_far time [] on none states other = none on.0
stops_by f bytes step so_far time (first ∷ all) on none states other = no_front f bytes step first on.0 states other on.2

pub stops_goes : (f : ℕ → Option Definition) (bytes : List ℕ) (step : Step) (most : ℕ) (so_far : Followed) (time : ℕ)
    → GoesOn most f so_far bytes time → (IsRide so_far → ⊥) → StepReports f bytes step
    → ((found : ReadItem) (count : ℕ) → step ≡ steps.Item found count → ⊥) → ⊥
stops_goes f bytes step most so_far time on none states other = stops_by f bytes step so_far time on.0 on.2 none states other

-- no ride begins at the next place
pub none_yet : (f : ℕ → Option Definition) (bytes : List ℕ) (to : ℕ)
    → ((earlier other : ℕ) → earlier < to → BeginsRide f (drop earlier bytes) other → ⊥)
    → ((time : ℕ) → BeginsRide f (drop to bytes) time → ⊥)
    → (earlier other : ℕ) → earlier < to + 1 → BeginsRide f (drop earlier bytes) other → ⊥
none_yet f bytes to none here earlier other less begins = go (ltb earlier to) refl
  where
    go : (b : Bool) → ltb earlier to ≡ b → ⊥
    go true is = none earlier other (ltb-true earlier to is) begins
    go false is =
        let same : earlier ≡ to = omega (arith, less, ltb-false earlier to is) in
        here other (subst (λ (n : ℕ). BeginsRide f (drop n bytes) other) same begins)

-- the first of the items that are left is passed
left_by : (before passed others : List Item) (f g : ℕ → Option Definition) (rest : List ℕ) (item : ReadItem) (used : ℕ)
    → f ≡ in_force (before ++ passed) → RecordsAfter (before ++ passed) rest others → IsStep f rest (steps.Item item used)
    → g ≡ in_force_after (item_of item) f → HasLeft before (passed ++ others) (drop used rest) g
left_by before passed [] f g rest item used f_is are step g_is =
    let none : length rest ≡ 0 = ap length are in
    absurd (omega (
      arith,
      none,
      step.states.within,
      length-take-le used rest step.states.within,
      spelling_not_empty (item_of item) (take used rest) step.states.spelled,
    ))
left_by before passed (first ∷ others) f g rest item used f_is are step g_is =
    let own = are.1 in
    let defined = subst (λ (h : ℕ → Option Definition). IsDefinedBy h first) (sym f_is) own.defined in
    let front = at_front f rest own.own are.0 first own.joined own.spelled defined in
    let one = items_one f rest first (item_of item) (length own.own) used front step.states in
    let joined : (before ++ passed) ++ first ∷ [] ≡ before ++ (passed ++ first ∷ []) = append_assoc before passed (first ∷ []) in
    let left : drop used rest ≡ are.0 = ap (λ (n : ℕ). drop n rest) (sym one.1)
    ∙ ap (λ (l : List ℕ). drop (length own.own) l) own.joined ∙ drop-append_seam own.own are.0 in
    record {
      passed = passed ++ first ∷ [];
      others = others;
      items_are = sym (append_assoc passed (first ∷ []) others);
      in_force_are = g_is ∙ ap (λ (i : Item). in_force_after i f) (sym one.0) ∙ ap (in_force_after first) f_is
          ∙ in_force_after-in_force (before ++ passed) first ∙ ap in_force joined;
      are_records = subst (λ (l : List ℕ). RecordsAfter (before ++ (passed ++ first ∷ [])) l others) (sym left)
          (subst (λ (is : List Item). RecordsAfter is are.0 others) joined are.2);
    }

pub left_more : (before items : List Item) (f g : ℕ → Option Definition) (rest : List ℕ) (item : ReadItem) (used : ℕ)
    → HasLeft before items rest f → IsStep f rest (steps.Item item used) → g ≡ in_force_after (item_of item) f
    → HasLeft before items (drop used rest) g
left_more before items f g rest item used left step g_is =
    subst (λ (is : List Item). HasLeft before is (drop used rest) g) (sym left.items_are)
    (left_by before left.passed left.others f g rest item used left.in_force_are left.are_records step g_is)

-- where no item is left, all were passed
passed_by : (before passed others : List Item) (f : ℕ → Option Definition) (rest : List ℕ) (step : Step)
    → f ≡ in_force (before ++ passed) → RecordsAfter (before ++ passed) rest others → StepReports f rest step
    → ((found : ReadItem) (count : ℕ) → step ≡ steps.Item found count → ⊥) → f ≡ in_force (before ++ (passed ++ others))
passed_by before passed [] f rest step f_is are states none = f_is ∙ ap in_force (ap (λ (is : List Item). before ++ is) (sym (append-nil passed)))
passed_by before passed (first ∷ others) f rest step f_is are states none =
    let own = are.1 in
    let defined = subst (λ (h : ℕ → Option Definition). IsDefinedBy h first) (sym f_is) own.defined in
    absurd (no_front f rest step first (length own.own) states none (at_front f rest own.own are.0 first own.joined own.spelled defined))

pub all_passed : (before items : List Item) (f : ℕ → Option Definition) (rest : List ℕ) (step : Step) → HasLeft before items rest f
    → StepReports f rest step → ((found : ReadItem) (count : ℕ) → step ≡ steps.Item found count → ⊥) → f ≡ in_force (before ++ items)
all_passed before items f rest step left states none =
    passed_by before left.passed left.others f rest step left.in_force_are left.are_records states none
    ∙ ap (λ (is : List Item). in_force (before ++ is)) (sym left.items_are)
