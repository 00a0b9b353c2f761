use Rattle.std.proofs.Common.{◌≡◌, [], Some, sym, ◌∙◌}
use Rattle.fit_grammar.specs.Format.Records.{in_force}
use Rattle.fit_grammar.specs.Private.KeptFile.{file_view}
use Rattle.fit_grammar.proofs.KeptRow.Following.{in_force_small, data_has_encoding}
use Rattle.fit_grammar.proofs.file.File.data.Goals as goal

pub push_data-requires-clause-encodable : goal.push_data-requires-clause-encodable
push_data-requires-clause-encodable c =
    let old = c.self.inside in
    let there : in_force (file_view old).items c.args.local ≡ Some c.in-Some.definition =
    sym (c.self.invariant.table c.args.local) ∙ sym c.get.ensures ∙ c.in-Some.is in
    data_has_encoding c.args.local c.args.offset c.args.content.now
    (in_force_small [] (file_view old).items c.args.local c.in-Some.definition c.self.invariant.can_be.items_follow there)
    (c.can_offset.ensures.0 c.if-not-can_offset.false)
