use Rattle.std.proofs.Common.{◌≡◌, ℕ, ◌+◌, ◌/◌, ◌≤◌, List, length, take, refl, sym, ◌∙◌, arith, ◌⊎◌, inl, inr, length-take-le}
use Rattle.std.specs.Prelude.{slice_index}
use Rattle.std.proofs.lemmas.Bool.{false≢true}
use Rattle.fit_grammar.specs.declared.file.fault.FaultKind.TheVariants.{Magic, Protocol}
use Rattle.fit_grammar.proofs.Decoding.HeaderRefused.{Passes}
use Rattle.fit_grammar.proofs.Decoding.HeaderRead.{empty_refused, first_refused, cut_refused, check_refused, header_byte, header_range, two_read, four_read, begins_first, begins_major, begins_long}
use Rattle.fit_grammar.proofs.file.header.read_header_front.Goals as goal

-- the checks that have passed with up to this many bytes
passes_first : (b : List ℕ) (count : ℕ) → (slice_index b 0 ≡ 12) ⊎ (slice_index b 0 ≡ 14) → count ≤ 2 → Passes b count
passes_first b count first le = record {
  first = first;
  major = λ more. absurd (omega arith);
  marked = λ more. absurd (omega arith);
  within = elim first [ inl e ↦ omega arith | inr e ↦ omega arith ];
}

passes_major : (b : List ℕ) (count : ℕ) → (slice_index b 0 ≡ 12) ⊎ (slice_index b 0 ≡ 14)
    → (slice_index b 1 / 16 ≡ 1) ⊎ (slice_index b 1 / 16 ≡ 2) → count ≤ 12 → Passes b count
passes_major b count first major le = record {
  first = first;
  major = λ more. major;
  marked = λ more. absurd (omega arith);
  within = elim first [ inl e ↦ omega arith | inr e ↦ omega arith ];
}

pub returns-then-len-eq0-clause-refused : goal.returns-then-len-eq0-clause-refused
returns-then-len-eq0-clause-refused c = empty_refused c.args.bytes.now _ c.fault.ensures c.if-len-eq0.true

pub returns-then-not-is_header_size-clause-refused : goal.returns-then-not-is_header_size-clause-refused
returns-then-not-is_header_size-clause-refused c =
    first_refused c.args.bytes.now _ c.fault-then-not-is_header_size.ensures (omega arith)
    (λ h. false≢true (c.if-not-is_header_size.ensures.1 h))

pub returns-then-len-lt2-clause-refused : goal.returns-then-len-lt2-clause-refused
returns-then-len-lt2-clause-refused c =
    cut_refused c.args.bytes.now _ c.fault-then-len-lt2.ensures
    (passes_first c.args.bytes.now (length c.args.bytes.now + 1) (c.if-not-is_header_size.ensures.0 refl) (omega arith))

pub returns-then-not-is_major-clause-refused : goal.returns-then-not-is_major-clause-refused
returns-then-not-is_major-clause-refused c =
    let b = c.args.bytes.now in
    let long : length (take 2 b) ≡ 2 = length-take-le 2 b (omega arith) in
    let same = header_byte 2 b 1 (omega arith) in
    check_refused b _ Protocol 1 2 c.fault-then-not-is_major.ensures (λ e. cc)
    (passes_first b 2 (c.if-not-is_header_size.ensures.0 refl) (omega arith)) (omega arith) (
      refl,
      long,
      λ e. false≢true (c.if-not-is_major.ensures.1 (inl (rw same at e))),
      λ e. false≢true
          (c.if-not-is_major.ensures.1 (inr (rw same at e))),
    )

pub returns-then-len-lt12-clause-refused : goal.returns-then-len-lt12-clause-refused
returns-then-len-lt12-clause-refused c =
    let b = c.args.bytes.now in
    cut_refused b _ c.fault-then-len-lt12.ensures (passes_major b (length b + 1)
    (c.if-not-is_header_size.ensures.0 refl) (c.if-not-is_major.ensures.0 refl) (omega arith))

pub returns-then-not-is_marked-clause-refused : goal.returns-then-not-is_marked-clause-refused
returns-then-not-is_marked-clause-refused c =
    let b = c.args.bytes.now in
    let long : length (take 12 b) ≡ 12 = length-take-le 12 b (omega arith) in
    check_refused b _ Magic 8 12 c.fault-then-not-is_marked.ensures (λ e. cc)
    (passes_major b 12 (c.if-not-is_header_size.ensures.0 refl) (c.if-not-is_major.ensures.0 refl) (omega arith)) (omega arith)
    (refl, long, λ e. false≢true (c.if-not-is_marked.ensures.1 (sym (header_range 12 b 8 4 (omega arith)) ∙ e)))

pub returns-then-len-header_size-clause-refused : goal.returns-then-len-header_size-clause-refused
returns-then-len-header_size-clause-refused c =
    let b = c.args.bytes.now in
    cut_refused b _ c.fault-then-len-header_size.ensures (record {
      first = c.if-not-is_header_size.ensures.0 refl;
      major = λ more. c.if-not-is_major.ensures.0 refl;
      marked = λ more. c.if-not-is_marked.ensures.0 refl;
      within = omega arith;
    })

-- ---- so the bytes begin with no header

pub returns-then-len-eq0-clause-none : goal.returns-then-len-eq0-clause-none
returns-then-len-eq0-clause-none c = λ frame size h.
    omega (arith, c.if-len-eq0.true, begins_long c.args.bytes.now frame size h)

pub returns-then-not-is_header_size-clause-none : goal.returns-then-not-is_header_size-clause-none
returns-then-not-is_header_size-clause-none c = λ frame size h.
    false≢true (c.if-not-is_header_size.ensures.1 (begins_first c.args.bytes.now frame size h))

pub returns-then-len-lt2-clause-none : goal.returns-then-len-lt2-clause-none
returns-then-len-lt2-clause-none c = λ frame size h.
    omega (arith, c.if-len-lt2.true, begins_long c.args.bytes.now frame size h)

pub returns-then-not-is_major-clause-none : goal.returns-then-not-is_major-clause-none
returns-then-not-is_major-clause-none c = λ frame size h.
    false≢true (c.if-not-is_major.ensures.1 (begins_major c.args.bytes.now frame size h))

pub returns-then-len-lt12-clause-none : goal.returns-then-len-lt12-clause-none
returns-then-len-lt12-clause-none c = λ frame size h.
    omega (arith, c.if-len-lt12.true, begins_long c.args.bytes.now frame size h)

pub returns-then-not-is_marked-clause-none : goal.returns-then-not-is_marked-clause-none
returns-then-not-is_marked-clause-none c = λ frame size h. false≢true (c.if-not-is_marked.ensures.1 h.marked)

pub returns-then-len-header_size-clause-none : goal.returns-then-len-header_size-clause-none
returns-then-len-header_size-clause-none c = λ frame size h. omega (arith, c.if-len-header_size.true, h.within, h.header_size)

-- ---- and if each check passes, with one

pub returns-clause-header : goal.returns-clause-header
returns-clause-header c =
    let b = c.args.bytes.now in
    record {
      is_frame = record { size = c.if-not-is_header_size.ensures.0 refl; major = c.if-not-is_major.ensures.0 refl };
      within = c.if-len-header_size.false;
      header_size = refl;
      protocol = refl;
      profile = two_read b 2 _ (omega arith) c.read_u16.ensures;
      data_size = four_read b 4 _ (omega arith) c.read_u32.ensures;
      marked = c.if-not-is_marked.ensures.0 refl;
    }
