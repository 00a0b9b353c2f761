use Rattle.std.proofs.Common.{◌≡◌, ◌++◌, ℕ, List, [], length, Some, ap, ◌∙◌}
use Rattle.std.specs.Io.KnownBytes.{Appends}
use Rattle.fit_grammar.specs.Format.Item.{Item}
use Rattle.fit_grammar.specs.Format.Encoding.{encoded_items}
use Rattle.fit_grammar.specs.Format.Records.{data_size}
use Rattle.fit_grammar.proofs.Encoder.Encoded.{encoded_items-length}
use Rattle.fit_joining.specs.JoinedItems.{joined_file}
use Rattle.fit_commands.proofs.join.size_of_records.Goals as goal

-- records that were written where nothing was
size_is : (items : List Item) (old new : List ℕ) → old ≡ [] → Appends (Some old) (Some new) (encoded_items items) → length new ≡ data_size items
size_is items old new none appended =
    ap length (appended ∙ ap (λ (l : List ℕ). l ++ encoded_items items) none) ∙ encoded_items-length items

pub returns-in-Ok-clause-size : goal.returns-in-Ok-clause-size
returns-in-Ok-clause-size c =
    c.len-in-Ok.ensures
    ∙ c.write_joined_records-done.new.out.ok.0
    ∙ size_is (joined_file c.args.first.now c.args.others.now).items _ _ c.new-records.ensures.items c.in-Ok.ensures.all
