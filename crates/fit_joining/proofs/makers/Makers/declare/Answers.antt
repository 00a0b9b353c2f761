use Rattle.std.proofs.Common.{rules, ◌≡◌, ℕ, Bool, false, List, map, Option, Some, None, option_map, is_some, sym, ap, ◌∙◌, if◌then◌else◌}
use Rattle.std.specs.Prelude.{slice_index_or, slice_set}
use Rattle.std.proofs.lemmas.List.{map-set}
use Rattle.fit_joining.specs.declared.maker.LentMaker.{LentMaker}
use Rattle.fit_joining.specs.Makers.{Indices, Maker, declared_by, given_at, index_for}
use Rattle.fit_joining.specs.Private.Lent.{maker_lent}
use Rattle.fit_joining.proofs.makers.Makers.declare.Goals as goal

declared : (makers : List (Option Maker)) (slots : List (Option LentMaker)) (given : List (Option ℕ)) (maker : LentMaker) (index new slot place : ℕ)
    → makers ≡ map (option_map maker_lent) slots → is_some (slice_index_or given index None) ≡ false
    → new ≡ index_for makers (maker_lent maker) index → slot ≡ new → place ≡ index
    → record { makers = map (option_map maker_lent) (slice_set slots slot (Some maker)); given = slice_set given place (Some new) }
    ≡ declared_by (record { makers = makers; given = given }) (maker_lent maker) index
declared makers slots given maker index new slot place makers_are free new_is slot_is place_is =
    let s : Indices = record { makers = makers; given = given } in
    let own = maker_lent maker in
    ap (λ (m : List (Option Maker)). record { makers = m; given = slice_set given place (Some new) })
    (map-set (option_map maker_lent) slots slot (Some maker)
    ∙ ap (λ (l : List (Option Maker)). slice_set l slot (Some own)) (sym makers_are)
    ∙ ap (λ (n : ℕ). slice_set makers n (Some own)) slot_is)
    ∙ ap (λ (n : ℕ). record { makers = slice_set makers new (Some own); given = slice_set given n (Some new) }) place_is
    ∙ ap (λ (n : ℕ). given_at s own index n) new_is
    ∙ ap (λ (b : Bool). if b then s else given_at s own index (index_for makers own index)) (sym free)

pub returns : goal.returns
returns c =
    declared c.args.self.now c.self.inside.slots c.args.given.now c.args.maker c.args.index c.index_for-new.result c.from-2.result c.from-3.result
    (search rules) (search rules) c.index_for-new.ensures (search rules) (search rules)
