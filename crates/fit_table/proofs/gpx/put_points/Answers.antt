use Rattle.fit_grammar.specs.Format.Message.{messages_of}
use Rattle.fit_text.proofs.PenLemmas.{puts_same}
use Rattle.fit_table.specs.Gpx.{point}
use Rattle.fit_table.proofs.GpxLemmas.{puts_texts, are_texts, points_are}
use Rattle.fit_table.proofs.gpx.put_points.Goals as goal

pub returns : goal.returns
returns g c =
    let messages = messages_of c.args.file.now.items in
    puts_same (puts_texts _ (are_texts point 20 0 messages) c.put_lines.ensures) (points_are point 20 0 messages)
