use Rattle.fit_c.proofs.Chained.{part_added, refused_at}
use Rattle.fit_c.proofs.joining.add_part.Goals as goal

pub returns-in-Ok-clause-after : goal.returns-in-Ok-clause-after
returns-in-Ok-clause-after c =
    part_added _ c.args.bytes.now c.args.rest.now c.first_file.result c.split_at.result.0.now c.split_at.result.1.now c.args.parts.now.items
    c.push.new.self.items c.split_at.ensures.front c.split_at.ensures.back c.requires.before c.in-Ok.ensures.file c.in-Ok.ensures.plain c.push.ensures.items

pub returns-in-Err-clause-refused : goal.returns-in-Err-clause-refused
returns-in-Err-clause-refused c =
    refused_at c.args.bytes.now c.args.rest.now c.first_file.result c.split_at.result.0.now c.split_at.result.1.now c.args.parts.now.items
    c.in-Err.code c.read_plain.new.fault_place c.args.fault_place.now c.place_in.result c.split_at.ensures.front c.split_at.ensures.back
    c.first_file.ensures.ends c.requires.before c.in-Err.ensures.refused c.place_in.ensures
