use Rattle.fit_grammar.proofs.OneItem.Spelling.{spelling_one}
use Rattle.fit_grammar.proofs.laws.no_spelling_begins_another.Goals as goal

pub returns : goal.returns
returns c f i j a x b y p q defined other e = let one = spelling_one f i j a x b y p q defined other e in (one.0, one.1)
