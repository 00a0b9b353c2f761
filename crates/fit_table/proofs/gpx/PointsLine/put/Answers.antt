use Rattle.fit_table.proofs.TokenLemmas.{tokens_text}
use Rattle.fit_table.proofs.gpx.PointsLine.put.Goals as goal

pub returns : goal.returns
returns g c = λ known names place own. tokens_text c.put_point.ensures
