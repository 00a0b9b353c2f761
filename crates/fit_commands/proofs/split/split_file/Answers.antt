use Rattle.std.proofs.Common.{List, ℕ, arith, refl, subst, inl, inr}
use Rattle.std.specs.Prelude.{OnOk}
use Rattle.std.proofs.lemmas.List.{nil_from_length}
use Rattle.fit_mending.specs.declared.chained.Part.{Part}
use Rattle.fit_commands.specs.Reported.{AreParts, PrintsLines, WritesParts}
use Rattle.fit_commands.proofs.Written.{stops}
use Rattle.fit_commands.proofs.split.split_file.Goals as goal

pub returns-then-is_empty : goal.returns-then-is_empty
returns-then-is_empty g c = inl (
  _,
  refl,
  inr (
    c.in_ok-bytes.bytes.items,
    c.in_ok-bytes.ensures.read,
    inl (nil_from_length c.args.to.now (search (arith, c.is_empty.ensures, c.if-is_empty.true)), refl),
  ),
  refl,
  refl,
)

pub returns-in_err-parts : goal.returns-in_err-parts
returns-in_err-parts g c = inl (
  c.in_err-parts.field-0.0,
  stops _ _ c.from_residual-in_err-parts.ensures,
  inr (c.in_ok-bytes.bytes.items, c.in_ok-bytes.ensures.read, inr (inl c.in_err-parts.ensures.reported)),
  refl,
  refl,
)

pub returns-then-is_empty-2 : goal.returns-then-is_empty-2
returns-then-is_empty-2 g c = inl (
  _,
  refl,
  inr (
    c.in_ok-bytes.bytes.items,
    c.in_ok-bytes.ensures.read,
    inr (inr (
      subst (λ (parts : List Part). AreParts c.args.all c.in_ok-bytes.bytes.items parts)
          (nil_from_length c.in_ok-parts.parts.items (search (arith, c.is_empty-2.ensures, c.if-is_empty-2.true)))
          (subst (λ (bytes : List ℕ). AreParts c.args.all bytes c.in_ok-parts.parts.items) c.as_slice.ensures.value c.in_ok-parts.ensures.parts),
      refl,
    )),
  ),
  refl,
  refl,
)

pub returns : goal.returns
returns g c = inr (
  c.in_ok-bytes.bytes.items,
  c.in_ok-bytes.ensures.read,
  c.in_ok-parts.parts.items,
  subst (λ (bytes : List ℕ). AreParts c.args.all bytes c.in_ok-parts.parts.items) c.as_slice.ensures.value c.in_ok-parts.ensures.parts,
  search (arith, c.is_empty-2.ensures, c.if-is_empty-2.false),
  c.in_ok-parts.ensures.most,
  search (arith, c.is_empty.ensures, c.if-is_empty.false),
  subst (λ (parts : List Part). PrintsLines parts (g.O.Write.contents c.args.out.now) (g.O.Write.contents c.write_parts.new.out) c.write_parts.result)
      c.as_slice-2.ensures.value c.write_parts.ensures.lines,
  subst (λ (parts : List Part). OnOk c.write_parts.result (WritesParts c.args.to.now parts (g.F.NamedFiles.held c.args.files.now) (g.F.NamedFiles.held c.write_parts.new.files)))
      c.as_slice-2.ensures.value c.write_parts.ensures.written,
  c.write_parts.ensures.reported,
)
