-- A file has no more messages than bytes of records: for crates above.
use Rattle.std.proofs.Common.{◌≡◌, ℕ, ◌+◌, ◌≤◌, List, [], ◌∷◌, ◌++◌, length, length-append, arith}
use Rattle.std.proofs.lemmas.List.Sums.{sum_by-cons}
use Rattle.std.specs.Prelude.{Option, Some, None, unwrap_or, option_to_list}
use Rattle.fit_grammar.specs.Format.Item.{Item, Defines, Data, item_size}
use Rattle.fit_grammar.specs.Format.Records.{data_size}
use Rattle.fit_grammar.specs.Format.Message.{Message, message_at, time_given, messages_after, messages_of}

item_some : (item : Item) → 1 ≤ item_size item
item_some (Defines d) = omega arith
item_some (Data local offset content) = omega arith

one_at_most : (o : Option Message) → length (option_to_list o) ≤ 1
one_at_most None = omega arith
one_at_most (Some m) = omega arith

few_after : (before : List Item) (time : ℕ) (items : List Item) → length (messages_after before time items) ≤ data_size items
few_after before time [] = omega arith
few_after before time (item ∷ items) =
    let later : List Message = messages_after (before ++ item ∷ []) (unwrap_or (time_given before time item) time) items in
    let rest : length later ≤ data_size items = few_after (before ++ item ∷ []) (unwrap_or (time_given before time item) time) items in
    let here : length (option_to_list (message_at before time item)) ≤ 1 = one_at_most (message_at before time item) in
    let some : 1 ≤ item_size item = item_some item in
    let whole : data_size (item ∷ items) ≡ item_size item + data_size items = sum_by-cons item_size item items in
    let joined : length (messages_after before time (item ∷ items)) ≡ length (option_to_list (message_at before time item)) + length later =
    length-append (option_to_list (message_at before time item)) later in
    omega arith

pub few_messages : (items : List Item) → length (messages_of items) ≤ data_size items
few_messages items = few_after [] 0 items
