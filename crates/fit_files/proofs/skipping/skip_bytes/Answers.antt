use Rattle.std.proofs.Common.{◌+◌, arith}
use Rattle.std.proofs.lemmas.List.{length-take}
use Rattle.fit_files.proofs.skipping.skip_bytes.Goals as goal

pub invariant_of-result : goal.invariant_of-result
invariant_of-result c = record {
  short = omega (
    arith,
    c.requires.short,
    c.in_ok-skipped.ensures.short,
    length-take (c.look_at-looked.result.front + c.look_at-looked.result.looked_at) c.args.bytes.now,
  );
}
