use Rattle.std.proofs.Common.{◌≡◌, ◌-◌, ◌∷◌, ◌++◌, List, [], length, take, drop, map, sym, ap, ◌∙◌, append_assoc}
use Rattle.fit_grammar.specs.Format.File.{FileValue}
use Rattle.fit_joining.specs.declared.part.Part.{Part}
use Rattle.fit_commands.specs.JoinedFile.{part_lent}
use Rattle.fit_commands.specs.declared.join.NamedFile.{NamedFile}
use Rattle.fit_commands.proofs.PutParts.{split_first}
use Rattle.fit_commands.proofs.join.parts_of.Goals as goal

-- one more file is lent
lent_next : (done new all : List Part) (left others : List NamedFile) (named : NamedFile) (part : Part) → new ≡ done ++ part ∷ []
    → part ≡ part_lent named → left ≡ named ∷ others → done ++ map part_lent left ≡ all → new ++ map part_lent others ≡ all
lent_next done new all left others named part pushed part_is left_is so_far =
    ap (λ (parts : List Part). parts ++ map part_lent others) pushed
    ∙ append_assoc done (part ∷ []) (map part_lent others)
    ∙ ap (λ (p : Part). done ++ p ∷ map part_lent others) part_is
    ∙ ap (λ (files : List NamedFile). done ++ map part_lent files) (sym left_is)
    ∙ so_far

pub loop-rest-preserved : goal.loop-rest-preserved
loop-rest-preserved c =
    let left = c.loop-rest.rest.now in
    let named = c.named-item.result in
    lent_next c.loop-rest.parts.items c.push.new.self.items (map part_lent c.args.files.now) left (take (length left - 1) (drop 1 left)) named _
    c.in-Ok.ensures.items (ap (λ (v : FileValue). record { name = named.name; file = v }) c.lend.ensures)
    (split_first left named c.in-len1-up.len_at_least c.named-item.is) c.loop-rest.invariant
