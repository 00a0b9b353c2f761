-- A front of the bytes whose items the file has: after the header, and after one more item. For the decoder's loop.
use Rattle.std.proofs.Common.{◌≡◌, ℕ, ◌+◌, ◌-◌, ◌<◌, ◌≤◌, ◌^◌, Bool, true, false, List, [], ◌∷◌, ◌++◌, length, take, drop, refl, sym, ap, subst, ◌∙◌, append_assoc, arith}
use Rattle.std.proofs.Math.Seq.{drop-append_seam}
use Rattle.std.proofs.lemmas.List.Sums.{sum_by-cons}
use Rattle.std.proofs.lemmas.List.{length-append, length-take-le, take-append-drop, append-nil}
use Rattle.fit_grammar.specs.declared.definition.DeveloperFieldDefinition.{DeveloperFieldDefinition}
use Rattle.fit_grammar.specs.declared.file.header.Header.{Header}
use Rattle.fit_grammar.specs.Format.Item.{Item, Defines, Data, Spells, item_size, part_size, has_any}
use Rattle.fit_grammar.specs.Format.Records.{IsDefined, RecordsAfter, data_size}
use Rattle.fit_grammar.specs.Format.File.{FileValue}
use Rattle.fit_grammar.specs.Format.Refusal.{Front, front_bytes, front_end}
use Rattle.fit_grammar.specs.Private.Decoding.{BeginsWith, TakesItem, Reached}
use Rattle.fit_grammar.proofs.OneItem.Spelling.{definition_length, data_length}

part_written : (announced : Bool) (fields : List DeveloperFieldDefinition) → (announced ≡ false → fields ≡ [])
    → part_size (has_any fields) (length fields) ≤ part_size announced (length fields)
part_written false [] none = omega arith
part_written false (field ∷ fields) none = let bad = ap length (none refl) in absurd (omega (arith, bad))
part_written true [] none = omega arith
part_written true (field ∷ fields) none = omega arith

part_spelled : (announced : Bool) (fields : List DeveloperFieldDefinition) → (announced ≡ false → fields ≡ [])
    → part_size announced (length fields) ≤ part_size (has_any fields) (length fields) + 1
part_spelled false fields none = omega arith
part_spelled true [] none = omega arith
part_spelled true (field ∷ fields) none = omega arith

-- a spelling has as many bytes as its item is written in, or one more if a definition announces developer fields and has none
pub spelled_size : (item : Item) (own : List ℕ) → Spells item own → item_size item ≤ length own
spelled_size (Defines d) own p = omega (arith, definition_length d own p, part_written p.announced d.developer.items p.none)
spelled_size (Data local offset content) own p = omega (arith, data_length local offset content own p)

pub spelled_most : (item : Item) (own : List ℕ) → Spells item own → length own ≤ item_size item + 1
spelled_most (Defines d) own p = omega (arith, definition_length d own p, part_spelled p.announced d.developer.items p.none)
spelled_most (Data local offset content) own p = omega (arith, data_length local offset content own p)

-- every item has at least one byte
pub some_bytes : (item : Item) → 1 ≤ item_size item
some_bytes (Defines d) = omega arith
some_bytes (Data local offset content) = omega arith

-- so records have at least as many bytes as their items are written in
pub records_size : (before : List Item) (bytes : List ℕ) (items : List Item) → RecordsAfter before bytes items
    → data_size items ≤ length bytes
records_size before bytes [] r = omega arith
records_size before bytes (item ∷ items) r =
    omega (
      arith,
      ap length r.1.joined,
      length-append r.1.own r.0,
      spelled_size item r.1.own r.1.spelled,
      records_size (before ++ item ∷ []) r.0 items r.2,
      sum_by-cons item_size item items,
    )

-- one more item
pub records_more : (before : List Item) (bytes : List ℕ) (items : List Item) (item : Item) (own : List ℕ)
    → RecordsAfter before bytes items → Spells item own → IsDefined (before ++ items) item
    → RecordsAfter before (bytes ++ own) (items ++ item ∷ [])
records_more before bytes [] item own r p q = (
  [],
  record {
    own = own;
    joined = ap (λ (l : List ℕ). l ++ own) r ∙ sym (append-nil own);
    spelled = p;
    defined = subst (λ (is : List Item). IsDefined is item) (append-nil before) q;
  },
  refl,
)
records_more before bytes (i ∷ items) item own r p q = (
  r.0 ++ own,
  record {
    own = r.1.own;
    joined = ap (λ (l : List ℕ). l ++ own) r.1.joined ∙ append_assoc r.1.own r.0 own;
    spelled = r.1.spelled;
    defined = r.1.defined;
  },
  records_more (before ++ i ∷ []) r.0 items item own r.2 p
      (subst (λ (is : List Item). IsDefined is item) (sym (append_assoc before (i ∷ []) items)) q),
)

-- the rest is what comes after the place
pub rest_there : (b : List ℕ) (f : Front) (rest : List ℕ) → b ≡ front_bytes f ++ rest → drop (front_end f) b ≡ rest
rest_there b f rest e =
    ap (λ (k : ℕ). drop k b) (sym (length-append f.header f.records))
    ∙ ap (λ (l : List ℕ). drop (length (front_bytes f)) l) e ∙ drop-append_seam (front_bytes f) rest

-- after the header no item is read yet
pub reached_first : (b : List ℕ) (h : Header) → BeginsWith b h → h.data_size < 2 ^ 32
    → Reached b (record { frame = h.frame; items = [] }) h.frame.header_size (h.frame.header_size + h.data_size)
reached_first b h p fits =
    let n = h.frame.header_size in
    let long : length (take n b) ≡ n = length-take-le n b p.within in
    record {
      front = record { frame = h.frame; size = h.data_size; header = take n b; records = []; items = [] };
      rest = drop n b;
      is_front = record { is_header = p.is_header; are_records = refl; inside = omega arith };
      frame_is = refl;
      items_are = refl;
      joined = sym (take-append-drop n b) ∙ ap (λ (l : List ℕ). l ++ drop n b) (sym (append-nil (take n b)));
      at_is = omega (arith, long);
      end_is = omega (arith, long);
      fits = fits;
    }

-- and after an item one more is
pub reached_more : (b : List ℕ) (v w : FileValue) (at end used : ℕ) → Reached b v at end
    → TakesItem v w (drop at b) (end - at) used → at < end → Reached b w (at + used) end
reached_more b v w at end used r t lt =
    let f = r.front in
    let window : drop at b ≡ r.rest = ap (λ (k : ℕ). drop k b) r.at_is ∙ rest_there b f r.rest r.joined in
    let own = take used (drop at b) in
    let long : length own ≡ used = length-take-le used (drop at b) t.at_front.within in
    let parts : r.rest ≡ own ++ drop used (drop at b) = sym window ∙ sym (take-append-drop used (drop at b)) in
    let defined : IsDefined f.items t.item = subst (λ (is : List Item). IsDefined is t.item) (sym r.items_are) t.at_front.defined in
    record {
      front = record { frame = f.frame; size = f.size; header = f.header; records = f.records ++ own; items = f.items ++ t.item ∷ [] };
      rest = drop used (drop at b);
      is_front = record {
        is_header = r.is_front.is_header;
        are_records = records_more [] f.records f.items t.item own r.is_front.are_records t.at_front.spelled defined;
        inside = omega (arith, length-append f.records own, long, t.inside, r.at_is, r.end_is, r.is_front.inside);
      };
      frame_is = r.frame_is ∙ sym (ap (λ (x : FileValue). x.frame) t.added);
      items_are = ap (λ (is : List Item). is ++ t.item ∷ []) r.items_are ∙ sym (ap (λ (x : FileValue). x.items) t.added);
      joined = r.joined ∙ ap (λ (l : List ℕ). front_bytes f ++ l) parts
          ∙ sym (append_assoc (front_bytes f) own (drop used (drop at b)))
          ∙ ap (λ (l : List ℕ). l ++ drop used (drop at b)) (append_assoc f.header f.records own);
      at_is = omega (arith, r.at_is, length-append f.records own, long);
      end_is = r.end_is;
      fits = r.fits;
    }

-- what is left of the data fits after what was read
pub reached_fits : (b : List ℕ) (v : FileValue) (at end : ℕ) → Reached b v at end → data_size v.items + (end - at) < 2 ^ 32
reached_fits b v at end r =
    let size = records_size [] r.front.records r.front.items r.is_front.are_records in
    omega (arith, size, ap data_size r.items_are, r.at_is, r.end_is, r.fits, r.is_front.inside)
