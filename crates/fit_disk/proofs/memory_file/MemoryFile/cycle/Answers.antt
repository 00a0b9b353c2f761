use Rattle.std.proofs.Common.{◌≡◌, ℕ, ◌<◌, length, sym, ap, ◌∙◌, arith}
use Rattle.std.specs.Prelude.{vec_len, Vec}
use Rattle.std.specs.declared.alloc.Global.{Global}
use Rattle.fit_disk.specs.Cycle.{length_chosen, taken_by}
use Rattle.fit_disk.proofs.MemoryFiles.{half_cycled, half_taken}
use Rattle.fit_disk.proofs.memory_file.MemoryFile.cycle.Goals as goal

pub returns-clause-left : goal.returns-clause-left
returns-clause-left c = λ file is.
    let old = c.args.self.now in
    let new = c.rest.new.self in
    let items : new.seen.items ≡ c.vary-taken.new.seen.items = ap (λ (v : Vec ℕ Global). v.items) c.rest.ensures.seen in
    let long : vec_len c.vary-taken.new.seen ≡ length_chosen old.least old.greatest c.args.choices.now =
    c.vary-taken.ensures.long ∙ c.set_length.ensures.long ∙ c.chosen_length-len.ensures.length in
    half_cycled old new file c.set_length.new.seen.items c.args.choices.now is (λ i. omega (arith, c.type_inv.choices i))
    (λ place low.
    let within : place < vec_len old.seen = omega (arith, low, is.least, is.sound.no_shorter, ap length is.seen, old.seen.ok.0) in
    c.set_length.ensures.same place (omega (arith, low, c.chosen_length-len.ensures.least)) within)
    (ap length items ∙ sym c.vary-taken.new.seen.ok.0 ∙ long)
    (λ place low. rw (items, ← c.deref.ensures.value) (c.vary-taken.ensures.each place (rw (c.set_length.ensures.long ∙ c.chosen_length-len.ensures.length) low)))
    (c.rest.ensures.least ∙ long) (c.rest.ensures.greatest ∙ long) c.rest.ensures.written

pub returns-clause-taken : goal.returns-clause-taken
returns-clause-taken c = λ file is.
    let taken : c.vary-taken.result ≡ taken_by file c.args.choices.now =
    c.vary-taken.ensures.taken ∙ rw (c.deref.ensures.value, c.set_length.ensures.long ∙ c.chosen_length-len.ensures.length) (half_taken c.args.self.now file c.args.choices.now is) in
    rw (← taken) (omega (arith, c.min.ensures))
