use Rattle.std.proofs.Common.{◌≡◌, ◌<◌, ◌∷◌, List, length, map, Result, Ok, Err, sym, ap, subst, ◌∙◌, inl, inr}
use Rattle.std.specs.Prelude.{IfOk, IfErr}
use Rattle.std.specs.List.{AllByRecursion}
use Rattle.std.specs.Result.{IsErrAnd}
use Rattle.fit_grammar.specs.Format.Message.{messages_of}
use Rattle.fit_joining.specs.declared.part.Part.{Part}
use Rattle.fit_joining.specs.Joined.{joined_messages}
use Rattle.fit_commands.specs.JoinedFile.{part_lent}
use Rattle.fit_commands.proofs.PutParts.{IsPlainPart, first_plain, none_put, others_plain, parts_lent, split_first, plain_put}
use Rattle.fit_commands.proofs.join.joined_of.Goals as goal

ok_more : {T E : Type 0} {P Q : T → Type 0} (r : Result T E) → ((x : T) → P x → Q x) → IfOk r P → IfOk r Q
ok_more (Ok x) more is = more x is
ok_more (Err e) more is = tt

err_more : {T E : Type 0} {P Q : E → Type 0} (r : Result T E) → ((e : E) → P e → Q e) → IfErr r P → IfErr r Q
err_more (Ok x) more is = tt
err_more (Err e) more is = more e is

err_from : {T E : Type 0} (P : E → Type 0) (r : Result T E) (fault : E) → IsErrAnd r (λ e. e ≡ fault) → P fault → IfErr r P
err_from P (Ok x) fault is why = tt
err_from P (Err e) fault is why = subst P (sym is) why

pub returns-in_err-put_parts-clause-reported : goal.returns-in_err-put_parts-clause-reported
returns-in_err-put_parts-clause-reported g c =
    let given = c.in_ok-parts.parts.items in
    let are = parts_lent (g.F.NamedFiles.held c.args.files.now) (c.args.first ∷ c.args.others.now) c.in_ok-named.named.items given c.in_ok-named.ensures.files
    (c.in_ok-parts.ensures.parts ∙ ap (map part_lent) c.as_slice.ensures.value) in
    err_from _ c.from_residual-in_err-put_parts.result c.in_err-put_parts.field-0.0 c.from_residual-in_err-put_parts.ensures.1
    (inr (inl (given, are, c.in_err-put_parts.ensures.reported)))

pub returns-in_default-clause-reported : goal.returns-in_default-clause-reported
returns-in_default-clause-reported g c =
    let given = c.in_ok-parts.parts.items in
    let are = parts_lent (g.F.NamedFiles.held c.args.files.now) (c.args.first ∷ c.args.others.now) c.in_ok-named.named.items given c.in_ok-named.ensures.files
    (c.in_ok-parts.ensures.parts ∙ ap (map part_lent) c.as_slice.ensures.value) in
    none_put _ _ c.args.as_given c.args.first c.args.others.now given c.put_parts.new.parts.items are c.in_ok-put_parts.ensures.put
    (subst (λ (l : List Part). length l < 1) c.as_slice-2.ensures.value c.in_default.len_below)

pub join_put-requires-clause-first : goal.join_put-requires-clause-first
join_put-requires-clause-first g c =
    let given = c.in_ok-parts.parts.items in
    let are = parts_lent (g.F.NamedFiles.held c.args.files.now) (c.args.first ∷ c.args.others.now) c.in_ok-named.named.items given c.in_ok-named.ensures.files
    (c.in_ok-parts.ensures.parts ∙ ap (map part_lent) c.as_slice.ensures.value) in
    first_plain c.as_slice-2.result.now c.beginning-item.result c.in-len1-up.len_at_least c.beginning-item.is
    (subst (AllByRecursion IsPlainPart) (sym c.as_slice-2.ensures.value)
    (plain_put _ c.args.as_given _ given c.put_parts.new.parts.items are c.in_ok-put_parts.ensures.put))

pub join_put-requires-clause-others : goal.join_put-requires-clause-others
join_put-requires-clause-others g c =
    let given = c.in_ok-parts.parts.items in
    let are = parts_lent (g.F.NamedFiles.held c.args.files.now) (c.args.first ∷ c.args.others.now) c.in_ok-named.named.items given c.in_ok-named.ensures.files
    (c.in_ok-parts.ensures.parts ∙ ap (map part_lent) c.as_slice.ensures.value) in
    others_plain c.as_slice-2.result.now
    (subst (AllByRecursion IsPlainPart) (sym c.as_slice-2.ensures.value)
    (plain_put _ c.args.as_given _ given c.put_parts.new.parts.items are c.in_ok-put_parts.ensures.put))

pub returns-clause-joined : goal.returns-clause-joined
returns-clause-joined g c =
    let given = c.in_ok-parts.parts.items in
    let are = parts_lent (g.F.NamedFiles.held c.args.files.now) (c.args.first ∷ c.args.others.now) c.in_ok-named.named.items given c.in_ok-named.ensures.files
    (c.in_ok-parts.ensures.parts ∙ ap (map part_lent) c.as_slice.ensures.value) in
    let put = c.put_parts.new.parts.items in
    let slice = c.as_slice-2.result.now in
    let is = sym c.as_slice-2.ensures.value ∙ split_first slice c.beginning-item.result c.in-len1-up.len_at_least c.beginning-item.is in
    ok_more c.join_put.result
    (λ joined messages. (
      given,
      are,
      put,
      c.in_ok-put_parts.ensures.put,
      messages ∙ ap (λ (parts : List Part). joined_messages (map (λ p. messages_of p.file.items) parts)) (sym is),
    ))
    c.join_put.ensures.messages

pub returns-clause-reported : goal.returns-clause-reported
returns-clause-reported g c = err_more c.join_put.result (λ fault not. inr (inr not)) c.join_put.ensures.reported
