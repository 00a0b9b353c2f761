use Rattle.std.proofs.Common.{◌≡◌, ◌∷◌, ◌++◌, List, Option, refl, ap, sym, ◌∙◌}
use Rattle.std.proofs.lemmas.Grind.{flat_map-append}
use Rattle.fit_finishing.specs.declared.sport.SportStated.{SportStated}
use Rattle.fit_grammar.specs.Format.Encoding.{encoded_item, encoded_items}
use Rattle.fit_grammar.proofs.Encoder.Checked.{then_checked, stops_checked, checked_same}
use Rattle.fit_joining.specs.declared.part.Part.{Part}
use Rattle.fit_joining.specs.Joined.{sport_due}
use Rattle.fit_joining.specs.JoinedItems.{joined_items, own_messages, parts_items, sport_items}
use Rattle.fit_joining.proofs.join.put_joined.Goals as goal

-- the bytes of the parts, and of the sport
pieces : (parts : List Part) (sport : Option SportStated) → sport ≡ sport_due (own_messages parts)
    → encoded_items (parts_items parts) ++ encoded_items (sport_items sport) ≡ encoded_items (joined_items parts)
pieces parts sport is =
    ap (λ (o : Option SportStated). encoded_items (parts_items parts) ++ encoded_items (sport_items o)) is
    ∙ sym (flat_map-append encoded_item (parts_items parts) (sport_items (sport_due (own_messages parts))))

pub returns-in_err-put_parts-clause-text : goal.returns-in_err-put_parts-clause-text
returns-in_err-put_parts-clause-text g c =
    let parts = c.args.first.now ∷ c.args.others.now in
    let last = sport_due (own_messages parts) in
    checked_same (stops_checked c.from_residual.ensures.0 c.in_err-put_parts.ensures.text _ (encoded_items (sport_items last)))
    (pieces parts last refl)

pub returns-clause-text : goal.returns-clause-text
returns-clause-text g c =
    let parts = c.args.first.now ∷ c.args.others.now in
    checked_same (then_checked c.in_ok-put_parts.ensures.text c.put_sport.ensures) (pieces parts c.sport_due.result c.sport_due.ensures)
