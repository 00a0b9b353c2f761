use Rattle.std.proofs.lemmas.List.{take_rest}
use Rattle.fit_grammar.proofs.file.reading.take_rest.Goals as goal

pub keep_rest-requires : goal.keep_rest-requires
keep_rest-requires c =
    let taken = c.in-Ok.ensures.ok c.requires.stands.0 c.requires.stands.1 in
    record {
      stands = (c.requires.stands.0, rw take_rest taken.1);
      none = rw c.in-Ok.ensures.same.1 c.requires.none;
      short = rw take_rest c.in-Ok.ensures.short;
    }
