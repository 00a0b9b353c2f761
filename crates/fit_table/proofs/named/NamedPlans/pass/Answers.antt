use Rattle.std.proofs.Common.{◌≡◌, ◌==◌, Bool, true, false, eq-eqb, sym, ap, ◌∙◌, arith}
use Rattle.std.proofs.lemmas.Bool.{eqb-true}
use Rattle.std.proofs.lemmas.List.{get_or_read}
use Rattle.fit_table.specs.Lookup.{at, none_such}
use Rattle.fit_table.proofs.NamedLemmas.{named_on, one_passed}
use Rattle.fit_table.proofs.named.NamedPlans.pass.Goals as goal
use Rattle.fit_table.proofs.named.NamedPlans.pass.Goals.{else-self-known-via-then-self-known+else-stands_in, else-self-known-via-else-self-known}

apart : (b : Bool) → b ≡ true → b ≡ false → ⊥
apart b one other = cc

pub returns-then-stands_in : goal.returns-then-stands_in
returns-then-stands_in c = λ names definition_for h.
    let known = c.args.known.now in
    let passed = c.args.self.now.passed in
    let is : c.index-known-self.result ≡ at known passed = get_or_read known passed _ c.if-self-known.true c.index-known-self.is none_such in
    let here : (at known passed).place ≡ c.args.place = ap (λ d. d.place) (sym is) ∙ eqb-true _ _ (sym c.if-stands_in.ensures) in record {
      passed = one_passed known c.args.place passed c.requires h.passed c.if-self-known.true here;
      are = λ local d plan there has. let none = c.no_plans-self.ensures local in absurd cc;
    }

pub returns-else-self-known : goal.returns-else-self-known
returns-else-self-known c = λ names definition_for h.
    let known = c.args.known.now in
    let passed = c.args.self.now.passed in
    elim c.else-self-known.branch [
      | else-self-known-via-then-self-known+else-stands_in w ↦
          let is : w.index-known-self.result ≡ at known passed = get_or_read known passed _ w.if-self-known.true w.index-known-self.is none_such in
          named_on known names c.args.place definition_for c.args.self.now c.requires
          (λ some here. apart (w.index-known-self.result.place == c.args.place) (eq-eqb _ _ (ap (λ d. d.place) is ∙ here)) (sym w.stands_in.ensures ∙ w.if-stands_in.false)) h
      | else-self-known-via-else-self-known w ↦
          named_on known names c.args.place definition_for c.args.self.now c.requires (λ some. absurd (omega (arith, some, w.if-self-known.false))) h
    ]
