use Rattle.std.proofs.Common.{◌≡◌, ℕ, List, [], ap, ◌∙◌, arith}
use Rattle.std.proofs.lemmas.Grind.{common_steps}
use Rattle.fit_disk.specs.Content.{over}
use Rattle.fit_disk.specs.Stored.{at_rest}
use Rattle.fit_disk.specs.State.{State}
use Rattle.fit_disk.proofs.shadow.hold.Goals as goal

over_nothing : (bytes : List ℕ) → over 0 bytes [] ≡ bytes
over_nothing bytes = grind (arith, common_steps)

abbrev state_of : List ℕ → List ℕ → State
state_of b a = record { data_file = at_rest a; journal_file = at_rest b }

pub returns : goal.returns
returns c =
    let data_in = c.args.in_data.now in
    rw (c.in_ok-sync-2.ensures.synced.ok, c.in_ok-sync.ensures.synced.ok, c.in_ok-write-2.ensures.wrote.ok, c.in_ok-write.ensures.wrote.ok, c.requires)
    (ap (state_of (over 0 c.args.in_journal.now [])) (over_nothing data_in)
    ∙ ap (λ b. state_of b data_in) (over_nothing c.args.in_journal.now))
