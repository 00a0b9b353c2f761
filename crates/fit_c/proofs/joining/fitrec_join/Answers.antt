use Rattle.std.proofs.Common.{◌≡◌, ◌-◌, ◌<◌, ◌≤◌, ◌∷◌, List, length, get_or, take, drop, refl, sym, ap, subst, ◌∙◌, arith}
use Rattle.std.proofs.lemmas.Slice.{first_rest}
use Rattle.fit_joining.specs.declared.part.Part.{Part}
use Rattle.fit_joining.specs.Compared.{first_misfit}
use Rattle.fit_grammar.specs.Format.Records.{data_size}
use Rattle.fit_joining.specs.JoinedItems.{joined_items}
use Rattle.fit_c.specs.Joined.{AreParts, GoTogether}
use Rattle.fit_c.proofs.Chained.{ends_there}
use Rattle.fit_c.proofs.joining.fitrec_join.Goals as goal

pub returns-in-Some-clause-misfit : goal.returns-in-Some-clause-misfit
returns-in-Some-clause-misfit c = λ code.
    let parts = c.read_parts.new.parts.items in
    let same = c.as_slice.ensures.value in
    let are = c.in_default.ensures.parts in
    record {
      parts = parts;
      are = are;
      misfit = c.in-Some.misfit;
      first = ap first_misfit (sym same) ∙ c.in-Some.ensures.misfit;
      begins = ends_there c.args.bytes.now parts c.in-Some.misfit.number c.place_of.result are.0
          (subst (λ (l : List Part). c.in-Some.misfit.number < length l) same c.in-Some.ensures.number) c.place_of.ensures;
      code_is = c.code_of.ensures;
    }

-- the first part and the others
split : (parts slice : List Part) (first : Part) → slice ≡ parts → 1 ≤ length slice → first ≡ get_or slice 0 first
    → parts ≡ first ∷ take (length slice - 1) (drop 1 slice)
split parts slice first same some is =
    sym same ∙ first_rest slice first (omega (arith, some)) ∙ ap (λ (p : Part). p ∷ take (length slice - 1) (drop 1 slice)) (sym is)

pub returns-in-len1-up-clause-ok : goal.returns-in-len1-up-clause-ok
returns-in-len1-up-clause-ok c = λ zero.
    let slice = c.as_slice-2.result.now in
    let all = split c.read_parts.new.parts.items slice c.first-item.result c.as_slice-2.ensures.value c.in-len1-up.len_at_least c.first-item.is in
    record {
      first = c.first-item.result;
      others = take (length slice - 1) (drop 1 slice);
      parts = subst (AreParts c.args.bytes.now) all c.in_default.ensures.parts;
      together = subst (GoTogether c.args.as_given) (c.as_slice.ensures.value ∙ all) (c.in_default-find_misfit.ensures.together refl);
      joined_is = c.write_parts.ensures.ok zero;
    }

pub returns-in-len1-up-clause-no_room : goal.returns-in-len1-up-clause-no_room
returns-in-len1-up-clause-no_room c = λ short.
    let slice = c.as_slice-2.result.now in
    let all = split c.read_parts.new.parts.items slice c.first-item.result c.as_slice-2.ensures.value c.in-len1-up.len_at_least c.first-item.is in
    record {
      first = c.first-item.result;
      others = take (length slice - 1) (drop 1 slice);
      parts = subst (AreParts c.args.bytes.now) all c.in_default.ensures.parts;
      together = subst (GoTogether c.args.as_given) (c.as_slice.ensures.value ∙ all) (c.in_default-find_misfit.ensures.together refl);
      needed_is = c.write_parts.ensures.needed short;
      short = c.write_parts.ensures.no_room short;
    }

pub returns-in-len1-up-clause-too_long : goal.returns-in-len1-up-clause-too_long
returns-in-len1-up-clause-too_long c = λ long.
    let slice = c.as_slice-2.result.now in
    let all = split c.read_parts.new.parts.items slice c.first-item.result c.as_slice-2.ensures.value c.in-len1-up.len_at_least c.first-item.is in
    record {
      parts = c.read_parts.new.parts.items;
      are = c.in_default.ensures.parts;
      together = subst (GoTogether c.args.as_given) c.as_slice.ensures.value (c.in_default-find_misfit.ensures.together refl);
      too_long = subst (λ (l : List Part). 4294967295 < data_size (joined_items l)) (sym all) (c.write_parts.ensures.too_long long);
    }
