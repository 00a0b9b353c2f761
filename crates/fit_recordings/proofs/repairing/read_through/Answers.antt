use Rattle.std.proofs.Common.{◌≡◌, ℕ, ◌+◌, ◌*◌, ◌^◌, ◌<◌, ◌≤◌, min, List, length, take, refl, sym, ap, ◌∙◌, arith, rules, IsTrue}
use Rattle.std.proofs.lemmas.List.{take_all}
use Rattle.fit_base.specs.Checksum.{crc, crc_from}
use Rattle.fit_base.proofs.Register.{crc_from-nil, crc_from-take}
use Rattle.fit_disk.specs.Calls.{ReadsAt}
use Rattle.fit_disk.specs.Story.{seen_of}
use Rattle.fit_recordings.proofs.repairing.read_through.Goals as goal

-- the sum of what was read, once one more read is added
added : (seen buffer : List ℕ) (at room count sum : ℕ) → ReadsAt seen at room buffer count → sum ≡ crc (take at seen)
    → crc_from sum (take count buffer) ≡ crc (take (at + count) seen)
added seen buffer at room count sum reads is =
    ap (λ s. crc_from s (take count buffer)) is ∙ ap (λ bytes. crc_from (crc (take at seen)) bytes) reads.bytes
    ∙ crc_from-take 0 seen at count

-- a short read ends at the end of the file
whole : (seen buffer : List ℕ) (at count : ℕ) → ReadsAt seen at 4096 buffer count → at ≤ length seen → count < 4096
    → take (at + count) seen ≡ seen
whole seen buffer at count reads within short = take_all (at + count) seen (omega (arith, reads.all))

-- a full one ends within it
further : (seen buffer : List ℕ) (at count : ℕ) → ReadsAt seen at 4096 buffer count → 4096 ≤ count → (count ≡ 4096) × (at + 4096 ≤ length seen)
further seen buffer at count reads full = (omega (arith, reads.all), omega (arith, reads.all))

pub loop-init : goal.loop-init
loop-init g c = record {
  long = search rules;
  same = λ honest. refl;
  failed = refl;
  place = λ honest few. refl;
  within = λ honest few. omega arith;
  sum = λ honest few. c.new-checksum.ensures ∙ sym (crc_from-nil 0);
}

module _ (seen : List ℕ) (at counter count sum : ℕ) (buffer : List ℕ) (few : length seen < 2 ^ 64) where
  full : ReadsAt seen at 4096 buffer count → 4096 ≤ count → (moved : ℕ) → moved ≡ min (at + 4096) 18446744073709551615
      → at ≡ 4096 * counter → sum ≡ crc (take at seen)
      → (moved ≡ 4096 * (counter + 1)) × (moved ≤ length seen) × (crc_from sum (take count buffer) ≡ crc (take moved seen))
  full reads long moved is place summed =
      let all = further seen buffer at count reads long in
      let same : moved ≡ at + count = omega (arith, all.0, all.1) in
      (omega (arith, all.0, all.1), omega (arith, all.0, all.1), added seen buffer at 4096 count sum reads summed ∙ ap (λ n. crc (take n seen)) (sym same))

  last : ReadsAt seen at 4096 buffer count → count < 4096 → at ≤ length seen → sum ≡ crc (take at seen)
      → crc_from sum (take count buffer) ≡ crc seen
  last reads short within summed =
      added seen buffer at 4096 count sum reads summed ∙ ap crc (whole seen buffer at count reads within short)

pub returns-then-count-lt-WINDOW-clause-sum : goal.returns-then-count-lt-WINDOW-clause-sum
returns-then-count-lt-WINDOW-clause-sum g c = λ honest few.
    let seen = seen_of c.args.which (g.D.Disk.story c.args.disk.now) in
    let held = c.loop.invariant in
    let reads : ReadsAt seen c.loop.at 4096 c.read.new.buffer c.in_ok-count.count = rw (held.same honest, held.long) at (c.in_ok-count.ensures.bytes honest) in
    c.value.ensures ∙ c.add.ensures
    ∙ last seen c.loop.at c.loop.counter c.in_ok-count.count c.loop.checksum c.read.new.buffer few reads c.if-count-lt-WINDOW.true
    (held.within honest few) (held.sum honest few)

pub loop-preserved : goal.loop-preserved
loop-preserved g c =
    let seen = seen_of c.args.which (g.D.Disk.story c.args.disk.now) in
    let held = c.loop.invariant in
    let reads : IsTrue g.D.Disk.honest → ReadsAt seen c.loop.at 4096 c.read.new.buffer c.in_ok-count.count = λ honest. rw (held.same honest, held.long) at (c.in_ok-count.ensures.bytes honest) in
    let step = λ (honest : IsTrue g.D.Disk.honest) (few : length seen < 2 ^ 64).
    full seen c.loop.at c.loop.counter c.in_ok-count.count c.loop.checksum c.read.new.buffer few (reads honest) c.if-count-lt-WINDOW.false
    c.saturating_add-at.result c.saturating_add-at.ensures (held.place honest few) (held.sum honest few) in
    record {
      long = c.read.auto.buffer ∙ held.long;
      same = λ honest. c.in_ok-count.ensures.same honest ∙ held.same honest;
      failed = c.in_ok-count.ensures.counted.ok.1 ∙ held.failed;
      place = λ honest few. (step honest few).0;
      within = λ honest few. (step honest few).1;
      sum = λ honest few. c.add.ensures ∙ (step honest few).2;
    }
