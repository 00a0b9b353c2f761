-- `same` makes a value with the two stories that it is lent.
use mathlib.Core.Path.{refl}
use mathlib.Core.List.{[], ◌∷◌}
use Prim.Native.Nat.{ℕ}
use seplogic.Ra.Ura.{Ura}
use mir.Syntax.{named}
use mir.Val.{Val, vint, vstruct, vcons, vnil, vptr}
use Rattle.std.proofs.Common.{lit<, w8}
use base.Logic.{SProp, ent, emp, via, fst∗}
use base.Fml.{Lft, Share, ftrue, flft}
use prog.Memory.{Memory}
use prog.Routine.{Routine}
use prog.Wp.{Calls, Loops, WpFn, Tables}
use types.Logic.{Logic}
use contract.Monad.{Fun}
use contract.Running.{tables, tables_of}
use sound.WpLaws.{WpFn-mono}
use types.Kit.{‵, ◌⊛◌, ◌$◌, ◌∵◌, !, qed, keep, move, split, fjoin, join, suffices, done}
use types.Run.{lit, no_more, and_then, returns, enter}
use types.Part.{agg}
use types.ByLocal.{alloc_all, pass_all, free_all, look_at, sets}
use denote.RattleType.{owns}
use denote.Builtin.{RefOf}
use denote.Exit.{yes}
use denote.Ref.{Bor, ShrRef, shr_vals, shr_Tells}
use denote.Shadow.{pure_i}
use denote.Signature.{plain}
use denote.Steps.{nothing}
use denote.Triple.Entry.{on_entry}
use denote.Triple.Spec.{Meets, triple_of}
use denote.Triple.Table.{entered}
use denote.Triple.Walked.{says, Stays, stay_dropped, walk_of, Goes-dropped, ends_at, walked, walk_Meets}
use Rattle.fit_disk.specs.declared.notes.Notes.{Notes}
use Rattle.fit_disk.specs.contracts.notes.Notes as T
use Rattle.fit_disk.specs.contracts.notes.Notes.same.Key.{name as #it}
use Rattle.fit_disk.specs.contracts.notes.Notes.same as it
use Rattle.fit_disk.proofs.notes.Notes.same.Statement as stated
use Rattle.fit_disk.proofs.notes.Notes.same.Code as code

abbrev v : Val
v = vstruct (vcons (vint w8 0) vnil)

abbrev stayed : Stays (it.ended).signature.params (it.ended).kept
stayed = (stay_dropped (RefOf (0 ∷ []) tt (plain (λ _. T.the_row)) (λ _. tt)) yes, tt)

module _ {M : Type 1} {𝓤 : Ura M} (𝓛 : Logic 𝓤) (at_mem : Memory → SProp 𝓤) (run : Routine → Fun 𝓤) (κ : Lft) (q : Share) (b o : ℕ) (h : Notes) where
  open 𝓛 use {H}

  abbrev self : Bor Notes
  self = record { ref_ptr = (b, o); now = h }

  abbrev r : Notes
  r = record { marker = 0; story = h.story; since = h.since }

  abbrev Post : Val → SProp 𝓤
  Post = (walk_of 𝓛 it.ended stayed (it.clauses 𝓛 at_mem run)).post (((κ, tt), (q, tt), tt, (self, tt), (vptr b o ∷ [], tt)), tt)

  walk : (C : Calls 𝓤 H) (Λ : Loops 𝓤 H) → ent 𝓤 (on_entry 𝓛 it.signature (κ, tt) (q, tt) (self, tt) (vptr b o ∷ [], tt)) (WpFn 𝓤 H C Λ code.function (vptr b o ∷ []) Post)
  walk C Λ =
      qed 𝓛 ((‵ (flft κ q) ⊛ ‵ ftrue) ∷ ‵ (owns (ShrRef (named 0) κ T.the_row ∷ []) (self, tt) (vptr b o ∷ [], tt)) ∷ []) ∵ split ! $ keep ! (0 ∷ []) $
      enter ! C Λ code.function (vptr b o ∷ []) _ $ alloc_all ! (λ l. pass_all ! refl ((tt, tt), tt) $
      sets ! (agg ! (and_then ! (lit ! tt) (no_more !))) refl (tt, (record { fits = lit< tt }, tt)) $
      returns ! (look_at ! 0 refl) $ free_all ! refl $ keep ! (0 ∷ []) $
      pure_i ! ((T.the_row).own_val r (v ∷ [])) ((λ vss. (tt, ((tt, tt), tt))), tt) (((vint w8 0 ∷ [], tt), (refl, ((refl, lit< tt), tt))), tt) $
      suffices ! _ (ends_at 𝓛 it.ended stayed (it.clauses 𝓛 at_mem run) (((κ, tt), (q, tt), tt, (self, tt), (vptr b o ∷ [], tt)), tt) v r (tt, tt) (tt, tt)) $ says ! (refl, refl) $
      nothing ! $ nothing ! $ fjoin ! $ join ! $ nothing ! $ move ! (2 ∷ 0 ∷ []) $ join ! $ join ! $ done !)

meets : {M : Type 1} {𝓤 : Ura M} (𝓛 : Logic 𝓤) → (at_mem : Memory → SProp 𝓤) (run : Routine → Fun 𝓤) (𝓣 : Tables 𝓤 𝓛.H)
    → Meets 𝓛 it.signature (WpFn 𝓤 𝓛.H 𝓣.C 𝓣.Λ code.function) (it.spec 𝓛 at_mem run)
meets {𝓤 = 𝓤} 𝓛 at_mem run 𝓣 =
    walk_Meets 𝓛 it.ended stayed (Goes-dropped 𝓛 1 (RefOf (0 ∷ []) tt (plain (λ _. T.the_row)) (λ _. tt)) yes (λ κs x f. refl), tt) (it.clauses 𝓛 at_mem run) (WpFn 𝓤 𝓛.H 𝓣.C 𝓣.Λ code.function) (WpFn-mono 𝓤 𝓛.H 𝓛.laws 𝓣 code.function)
    (walked 𝓛 it.ended stayed (it.clauses 𝓛 at_mem run) (WpFn 𝓤 𝓛.H 𝓣.C 𝓣.Λ code.function) (λ κs. (shr_vals, tt)) (λ κs. (shr_Tells (named 0) κs.0 T.the_row, tt))
    (λ κs qs bounds a g are. via 𝓤 _ (fst∗ 𝓤 _ (emp 𝓤)) (walk 𝓛 at_mem run κs.0 qs.0 a.0.ref_ptr.0 a.0.ref_ptr.1 a.0.now 𝓣.C 𝓣.Λ)))

pub same_spec : {M : Type 1} → stated.statement M
unfolding tables_of
same_spec 𝓤 𝓛 𝓜 𝓡 wired =
    entered 𝓤 𝓛.H (triple_of 𝓛 it.signature (it.spec 𝓛 𝓜.mem 𝓡.returns))
    (tables 𝓤 𝓛.H 𝓜 𝓡 𝓡.env).C (tables 𝓤 𝓛.H 𝓜 𝓡 𝓡.env).Λ #it code.function (code.unfolded 𝓤 𝓛.H 𝓜 𝓡 wired)
    (meets 𝓛 𝓜.mem 𝓡.returns (tables_of 𝓤 𝓛.H 𝓜 (tables 𝓤 𝓛.H 𝓜 𝓡 𝓡.env)))
