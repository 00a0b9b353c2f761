use Rattle.std.proofs.Common.{[]}
use Rattle.fit_text.proofs.PenLemmas.{puts_then, puts_stop}
use Rattle.fit_table.specs.Gpx.{gpx_of}
use Rattle.fit_table.proofs.gpx.put_track.Goals as goal

pub returns-in_err-put-clause-text : goal.returns-in_err-put-clause-text
unfolding gpx_of
returns-in_err-put-clause-text g c = puts_stop c.from_residual.ensures.0 c.in_err-put.ensures _

pub returns-in_err-put_points-clause-text : goal.returns-in_err-put_points-clause-text
unfolding gpx_of
returns-in_err-put_points-clause-text g c =
    puts_then c.in_ok-put.ensures (puts_stop c.from_residual-in_err-put_points.ensures.0 c.in_err-put_points.ensures _)

pub returns-in_err-put-2-clause-text : goal.returns-in_err-put-2-clause-text
unfolding gpx_of
returns-in_err-put-2-clause-text g c =
    puts_then c.in_ok-put.ensures (puts_then c.in_ok-put_points.ensures (puts_stop c.from_residual-in_err-put-2.ensures.0 c.in_err-put-2.ensures []))

pub returns-clause-text : goal.returns-clause-text
unfolding gpx_of
returns-clause-text g c =
    puts_then c.in_ok-put.ensures (puts_then c.in_ok-put_points.ensures (puts_then c.in_ok-put-2.ensures c.hand_over.ensures.puts))
