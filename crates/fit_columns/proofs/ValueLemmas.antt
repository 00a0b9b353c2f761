-- The values of a row: for `values`.
use Rattle.std.proofs.Common.{◌≡◌, ℕ, ◌+◌, ◌*◌, ◌<◌, ◌≤◌, List, [], ◌∷◌, ◌++◌, length, get_or, take, drop, map, refl, sym, ap, ap₂, ◌∙◌, append-nil, arith}
use Rattle.std.proofs.lemmas.List.{length-take-le, length-drop, get_or-map, length-map, map-append}
use Rattle.std.proofs.lemmas.Nat.{mul-add-lt}
use Rattle.std.proofs.lemmas.Grind.{flat_map-append}
use Rattle.fit_grammar.specs.declared.definition.Definition.{Definition}
use Rattle.fit_grammar.specs.Format.Item.{content_size}
use Rattle.fit_columns.specs.declared.place.Place.{Place}
use Rattle.fit_columns.specs.declared.plans.Plan.{Plan}
use Rattle.fit_columns.specs.declared.values.ValueHead.{ValueHead}
use Rattle.fit_columns.specs.Fields.{Written, fields_here}
use Rattle.fit_columns.specs.Places.{place_bytes, put_cells, IsPlace, ArePlaces, ArePlacesIn, IsPlanOf}
use Rattle.fit_columns.specs.Rows.{Row}
use Rattle.fit_columns.specs.Values.{order_of, head_at, head_by, bytes_at, values_of, place_head, places_bytes}
use Rattle.fit_columns.proofs.PlaceLemmas.{sizes, all_sizes}
use Rattle.fit_columns.proofs.PlanLemmas.{places_length, places_in}
use Rattle.fit_columns.proofs.RowLemmas.{first_put}

head_is : (message : ℕ) (d : Definition) (content : List ℕ) (code : ℕ) (place : Place) → sizes (fields_here d) ≤ length content →
    IsPlace (fields_here d) code place → place_head d.arch message place ≡ head_at message d content code
head_is message d content code place fits h =
    let long : length (place_bytes place content) ≡ place.size =
    length-take-le place.size (drop place.at content) (omega (arith, length-drop place.at content, h.inside, fits)) in
    let by_size : ℕ → ValueHead = λ n. record { message = message; at = place.at; size = n; base = place.base; order = order_of d.arch } in
    let by_written : Written → ValueHead =
    λ w. record { message = message; at = w.at; size = length w.bytes; base = w.base; order = order_of d.arch } in
    ap by_size (sym long) ∙ ap by_written (sym (h.holds content fits))

heads_are : (message : ℕ) (d : Definition) (content codes : List ℕ) (places : List Place) → sizes (fields_here d) ≤ length content →
    ArePlaces (fields_here d) codes places → map (place_head d.arch message) places ≡ map (head_at message d content) codes
heads_are message d content [] [] fits h = refl
heads_are message d content [] (place ∷ places) fits h = absurd h
heads_are message d content (code ∷ codes) [] fits h = absurd h
heads_are message d content (code ∷ codes) (place ∷ places) fits h =
    ap₂ (λ (x : ValueHead) (xs : List ValueHead). x ∷ xs) (head_is message d content code place fits h.0)
    (heads_are message d content codes places fits h.1)

bytes_are : (d : Definition) (content codes : List ℕ) (places : List Place) → sizes (fields_here d) ≤ length content →
    ArePlaces (fields_here d) codes places → places_bytes places content ≡ bytes_at codes d content
bytes_are d content [] [] fits h = refl
bytes_are d content [] (place ∷ places) fits h = absurd h
bytes_are d content (code ∷ codes) [] fits h = absurd h
bytes_are d content (code ∷ codes) (place ∷ places) fits h =
    ap₂ (λ (xs ys : List ℕ). xs ++ ys) (ap (λ (w : Written). w.bytes) (sym (h.0.holds content fits))) (bytes_are d content codes places fits h.1)

-- what the places of a plan show in a content
pub record IsShown (codes content : List ℕ) (d : Definition) (plan : Plan) (places : List Place) : Type 0 where
  pub fits : sizes (fields_here d) ≤ length content
  pub are : ArePlaces (fields_here d) codes places
  pub many : length places ≡ length codes
  pub inside : ArePlacesIn (length content) places
  pub heads : (message : ℕ) → map (place_head plan.arch message) places ≡ map (head_at message d content) codes
  pub bytes : places_bytes places content ≡ bytes_at codes d content

pub shown : (codes content : List ℕ) (d : Definition) (plan : Plan) (places : List Place) → IsPlanOf codes d plan →
    places ≡ plan.places.items → content_size d ≡ length content → IsShown codes content d plan places
shown codes content d plan places own same whole =
    let are : ArePlaces (fields_here d) codes places = rw same own.places in
    let fits : sizes (fields_here d) ≤ length content = omega (arith, all_sizes d, whole) in record {
      fits = fits;
      are = are;
      many = places_length (fields_here d) codes places are;
      inside = places_in (fields_here d) codes places (length content) fits are;
      heads = λ message. ap (λ arch. map (place_head arch message) places) own.arch ∙ heads_are message d content codes places fits are;
      bytes = bytes_are d content codes places fits are;
    }

-- ---- one row more

pub heads_more : (codes : List ℕ) (room row : ℕ) (rows : List Row) (r : Row) (made heads after : List ValueHead) (k : ℕ) → row < room →
    length codes * room ≤ length heads → k < length codes → made ≡ map (head_at r.place r.lent.definition r.lent.content) codes →
    after ≡ put_cells room row 0 made heads →
    take row (drop (k * room) heads) ≡ map (λ r. head_by r (get_or codes k 0)) rows →
    take (row + 1) (drop (k * room) after) ≡ map (λ r. head_by r (get_or codes k 0)) (rows ++ r ∷ [])
heads_more codes room row rows r made heads after k in_room fits some are put before =
    let none : ValueHead = record { message = 0; at = 0; size = 0; base = 0; order = 0 } in
    let own : List ValueHead = map (head_at r.place r.lent.definition r.lent.content) codes in
    let many : length own ≡ length codes = length-map codes (head_at r.place r.lent.definition r.lent.content) in
    let within : k * room + row < length heads = omega (arith, fits, mul-add-lt k room row (length codes) some in_room) in
    ap (λ t. take (row + 1) (drop (k * room) t)) (put ∙ ap (λ values. put_cells room row 0 values heads) are)
    ∙ first_put room row k own heads none in_room (omega (arith, many, some)) within
    ∙ ap₂ (λ (column : List ValueHead) (head : ValueHead). column ++ head ∷ []) before
    (get_or-map (head_at r.place r.lent.definition r.lent.content) codes k 0 none some)
    ∙ sym (map-append (λ (r : Row). head_by r (get_or codes k 0)) rows (r ∷ []))

pub values_more : (codes : List ℕ) (rows : List Row) (r : Row) →
    values_of codes (rows ++ r ∷ []) ≡ values_of codes rows ++ bytes_at codes r.lent.definition r.lent.content
values_more codes rows r =
    flat_map-append (λ (row : Row). bytes_at codes row.lent.definition row.lent.content) rows (r ∷ [])
    ∙ ap (λ bytes. values_of codes rows ++ bytes) (append-nil (bytes_at codes r.lent.definition r.lent.content))
