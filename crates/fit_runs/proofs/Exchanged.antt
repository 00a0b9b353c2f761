-- What several calls of a dialogue do, one after another: for `recording` and `streams`.
use Rattle.std.proofs.Common.{◌≡◌, ◌+◌, ℕ, List, [], ◌∷◌, ◌++◌, Result, Ok, Err, refl, sym, ap, ◌∙◌, append_assoc, append-nil, subst, arith}
use Rattle.std.proofs.KnownBytes.{Appends-nil, Appends-trans}
use Rattle.std.specs.Io.KnownBytes.{Appends}
use Rattle.fit_grammar.specs.Calls.Output.{WritesText}
use Rattle.fit_runs.specs.Exchanges.{Exchange, Hear, HearFailed, Tell, TellFailed, heard_in, told_in, reads_in, AreTold, Sides, told, TellsText, OnlyTells}

-- ---- one list of exchanges after another

pub heard_then : (first more : List Exchange) → heard_in (first ++ more) ≡ heard_in first ++ heard_in more
heard_then [] more = refl
heard_then (Hear bytes ∷ first) more = ap (λ t. bytes ++ t) (heard_then first more) ∙ sym (append_assoc bytes (heard_in first) (heard_in more))
heard_then (HearFailed why ∷ first) more = heard_then first more
heard_then (Tell bytes ∷ first) more = heard_then first more
heard_then (TellFailed bytes ∷ first) more = heard_then first more

pub told_then : (first more : List Exchange) → told_in (first ++ more) ≡ told_in first ++ told_in more
told_then [] more = refl
told_then (Hear bytes ∷ first) more = told_then first more
told_then (HearFailed why ∷ first) more = told_then first more
told_then (Tell bytes ∷ first) more = ap (λ t. bytes ++ t) (told_then first more) ∙ sym (append_assoc bytes (told_in first) (told_in more))
told_then (TellFailed bytes ∷ first) more = ap (λ t. bytes ++ t) (told_then first more) ∙ sym (append_assoc bytes (told_in first) (told_in more))

pub reads_then : (first more : List Exchange) → reads_in (first ++ more) ≡ reads_in first + reads_in more
reads_then [] more = omega arith
reads_then (Hear bytes ∷ first) more = omega (arith, reads_then first more)
reads_then (HearFailed why ∷ first) more = omega (arith, reads_then first more)
reads_then (Tell bytes ∷ first) more = reads_then first more
reads_then (TellFailed bytes ∷ first) more = reads_then first more

-- ---- nothing is heard

pub heard_none : (said : List Exchange) → AreTold said → heard_in said ≡ []
heard_none [] are = refl
heard_none (Hear bytes ∷ said) are = absurd are.0
heard_none (HearFailed why ∷ said) are = absurd are.0
heard_none (Tell bytes ∷ said) are = heard_none said are.1
heard_none (TellFailed bytes ∷ said) are = heard_none said are.1

pub reads_none : (said : List Exchange) → AreTold said → reads_in said ≡ 0
reads_none [] are = refl
reads_none (Hear bytes ∷ said) are = absurd are.0
reads_none (HearFailed why ∷ said) are = absurd are.0
reads_none (Tell bytes ∷ said) are = reads_none said are.1
reads_none (TellFailed bytes ∷ said) are = reads_none said are.1

are_told_then : (said more : List Exchange) → AreTold said → AreTold more → AreTold (said ++ more)
are_told_then [] more are all = all
are_told_then (exchange ∷ said) more are all = (are.0, are_told_then said more are.1 all)

pub only_none : (story : List Exchange) (sides : Sides) → OnlyTells story story sides sides
only_none story sides = record {
  said = [];
  are_told = tt;
  grown = sym (append-nil story);
  name = refl;
  left = refl;
  held = Appends-nil sides.held;
}

pub only_then : (old mid new : List Exchange) (from via to : Sides) → OnlyTells old mid from via → OnlyTells mid new via to → OnlyTells old new from to
only_then old mid new from via to first more = record {
  said = first.said ++ more.said;
  are_told = are_told_then first.said more.said first.are_told more.are_told;
  grown = more.grown ∙ ap (λ s. s ++ more.said) first.grown ∙ append_assoc old first.said more.said;
  name = more.name ∙ first.name;
  left = more.left ∙ first.left;
  held = subst (λ text. Appends from.held to.held text) (sym (told_then first.said more.said))
      (Appends-trans from.held via.held to.held (told_in first.said) (told_in more.said) first.held more.held);
}

-- ---- a text

module _ {T E : Type 0} (old new : List Exchange) (from to : Sides) (text : List ℕ) where
  -- one text was told
  pub only_text : (result : Result T E) → TellsText old new from to result text → OnlyTells old new from to
  only_text (Ok done) tells = record {
    said = Tell tells.done ∷ [];
    are_told = (tt, tt);
    grown = tells.grown;
    name = tells.name;
    left = tells.left;
    held = subst (λ t. Appends from.held to.held t) (sym (append-nil tells.done)) tells.held;
  }
  only_text (Err fault) tells = record {
    said = TellFailed tells.done ∷ [];
    are_told = (tt, tt);
    grown = tells.grown;
    name = tells.name;
    left = tells.left;
    held = subst (λ t. Appends from.held to.held t) (sym (append-nil tells.done)) tells.held;
  }

  -- all of it
  pub told_all : {S F : Type 0} (done : T) (other : S) → TellsText {T = T} {E = E} old new from to (Ok done) text → WritesText {T = S} {E = F} (told old) (told new) (Ok other) text
  told_all done other tells =
      let whole : text ≡ tells.done = tells.split ∙ ap (λ t. tells.done ++ t) tells.all ∙ append-nil tells.done in
      let grown : told_in new ≡ told_in old ++ tells.done =
      ap told_in tells.grown ∙ told_then old (Tell tells.done ∷ []) ∙ ap (λ t. told_in old ++ t) (append-nil tells.done) in
      record { all = subst (λ t. told_in new ≡ told_in old ++ t) (sym whole) grown; beginning = tt }

  -- a part of it
  pub told_part : {S F : Type 0} (fault : E) (other : F) → TellsText {T = T} {E = E} old new from to (Err fault) text → WritesText {T = S} {E = F} (told old) (told new) (Err other) text
  told_part fault other tells = record {
    all = tt;
    beginning = record {
      part = tells.done;
      rest = tells.rest;
      split = tells.split;
      appended = ap told_in tells.grown ∙ told_then old (TellFailed tells.done ∷ []) ∙ ap (λ t. told_in old ++ t) (append-nil tells.done);
    };
  }

-- nothing was told of a text
pub told_nothing : {T E : Type 0} (old : List Exchange) (fault : E) (text : List ℕ) → WritesText {T = T} {E = E} (told old) (told old) (Err fault) text
told_nothing old fault text = record {
  all = tt;
  beginning = record { part = []; rest = text; split = refl; appended = sym (append-nil (told_in old)) };
}
