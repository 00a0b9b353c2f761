-- Where an item of a file was in its bytes: for `plain_file`.
use Rattle.std.proofs.Common.{◌≡◌, ℕ, List, [], ◌∷◌, ◌++◌, length, refl, sym, ap, subst, ◌∙◌, arith, append_assoc}
use Rattle.std.proofs.lemmas.List.{length-append}
use Rattle.fit_grammar.specs.declared.plain.fault.PlainFault.{PlainFault}
use Rattle.fit_grammar.specs.Format.Item.{Item}
use Rattle.fit_grammar.specs.Format.Records.{RecordsAfter}
use Rattle.fit_grammar.specs.Format.File.{FileValue, FileOf}
use Rattle.fit_grammar.specs.Format.Refusal.{Front, IsFront}
use Rattle.fit_grammar.specs.Calls.Places.{ArePlaces, place_read}
use Rattle.fit_grammar.specs.Calls.PlainForm.{IsItemPlace, StoodAt, IsPlainFault, IsPlainFaultOf}

-- the bytes of the first of the items
record Begins (before : List Item) (bytes : List ℕ) (items : List Item) : Type 0 where
  first : List ℕ
  others : List ℕ
  joined : bytes ≡ first ++ others
  records : RecordsAfter before first items

begins : (before : List Item) (bytes : List ℕ) (items more : List Item) → RecordsAfter before bytes (items ++ more) → Begins before bytes items
begins before bytes [] more r = record { first = []; others = bytes; joined = refl; records = refl }
begins before bytes (item ∷ items) more r =
    let b = begins (before ++ item ∷ []) r.0 items more r.2 in
    record {
      first = r.1.own ++ b.first;
      others = b.others;
      joined = r.1.joined ∙ ap (λ (l : List ℕ). r.1.own ++ l) b.joined ∙ sym (append_assoc r.1.own b.first b.others);
      records = (
        b.first,
        record { own = r.1.own; joined = refl; spelled = r.1.spelled; defined = r.1.defined },
        b.records,
      );
    }

-- its place, by the noted places
pub stood_at : (bytes : List ℕ) (v : FileValue) (longer : List ℕ) (written : ℕ) → FileOf bytes v → ArePlaces bytes longer
    → IsItemPlace v written → StoodAt bytes v written (place_read longer written)
stood_at bytes v longer written file places at =
    let records = subst (λ (is : List Item). RecordsAfter [] file.records is) at.items_are file.are_records in
    let b = begins [] file.records at.before (at.item ∷ at.after) records in
    let front : Front = record {
      frame = v.frame;
      size = length file.records;
      header = file.header;
      records = b.first;
      items = at.before;
    } in
    let is_front : IsFront front = record {
      is_header = file.is_header;
      are_records = b.records;
      inside = omega (arith, ap length b.joined, length-append b.first b.others);
    } in
    let joined : bytes ≡ (file.header ++ b.first) ++ (b.others ++ file.closing) =
    file.joined ∙ ap (λ (l : List ℕ). file.header ++ l ++ file.closing) b.joined
    ∙ ap (λ (l : List ℕ). l ++ file.closing) (sym (append_assoc file.header b.first b.others))
    ∙ append_assoc (file.header ++ b.first) b.others file.closing in
    record {
      is_item = at;
      front = front;
      rest = b.others ++ file.closing;
      is_front = is_front;
      joined = joined;
      items_are = refl;
      place_is = ap (λ (n : ℕ). place_read longer n) at.place_is ∙ places front (b.others ++ file.closing) is_front joined;
    }

pub fault_in : (bytes : List ℕ) (v : FileValue) (longer : List ℕ) (fault : PlainFault) → FileOf bytes v → ArePlaces bytes longer
    → IsPlainFault v longer fault → IsPlainFaultOf bytes v fault
fault_in bytes v longer fault file places f = record {
  written = f.written;
  refused = f.refused;
  stood = subst (λ (n : ℕ). StoodAt bytes v f.written n) (sym f.place_is) (stood_at bytes v longer f.written file places f.is_item);
}
