use Rattle.fit_text.proofs.PenLemmas.{puts_then, puts_stop}
use Rattle.fit_files.proofs.export.checked.put_summary.Goals as goal

pub returns-in_err-put_member : goal.returns-in_err-put_member
returns-in_err-put_member g c =
    puts_stop c.from_residual.ensures.0 c.in_err-put_member.ensures _

pub returns-in_err-put_member-2 : goal.returns-in_err-put_member-2
returns-in_err-put_member-2 g c =
    puts_then c.in_ok-put_member.ensures (puts_stop c.from_residual-in_err-put_member-2.ensures.0 c.in_err-put_member-2.ensures _)

pub returns-in_err-put_member-3 : goal.returns-in_err-put_member-3
returns-in_err-put_member-3 g c =
    puts_then c.in_ok-put_member.ensures (puts_then c.in_ok-put_member-2.ensures (puts_stop c.from_residual-in_err-put_member-3.ensures.0 c.in_err-put_member-3.ensures _))

pub returns-in_err-put_member-4 : goal.returns-in_err-put_member-4
returns-in_err-put_member-4 g c =
    puts_then c.in_ok-put_member.ensures (puts_then c.in_ok-put_member-2.ensures (puts_then c.in_ok-put_member-3.ensures (puts_stop c.from_residual-in_err-put_member-4.ensures.0 c.in_err-put_member-4.ensures _)))

pub returns-in_err-put_member-5 : goal.returns-in_err-put_member-5
returns-in_err-put_member-5 g c =
    puts_then c.in_ok-put_member.ensures (puts_then c.in_ok-put_member-2.ensures (puts_then c.in_ok-put_member-3.ensures (puts_then c.in_ok-put_member-4.ensures (puts_stop c.from_residual-in_err-put_member-5.ensures.0 c.in_err-put_member-5.ensures _))))

pub returns-in_err-put_member-6 : goal.returns-in_err-put_member-6
returns-in_err-put_member-6 g c =
    puts_then c.in_ok-put_member.ensures (puts_then c.in_ok-put_member-2.ensures (puts_then c.in_ok-put_member-3.ensures (puts_then c.in_ok-put_member-4.ensures (puts_then c.in_ok-put_member-5.ensures (puts_stop c.from_residual-in_err-put_member-6.ensures.0 c.in_err-put_member-6.ensures _)))))

pub returns : goal.returns
returns g c =
    puts_then c.in_ok-put_member.ensures (puts_then c.in_ok-put_member-2.ensures (puts_then c.in_ok-put_member-3.ensures (puts_then c.in_ok-put_member-4.ensures (puts_then c.in_ok-put_member-5.ensures (puts_then c.in_ok-put_member-6.ensures (c.put_member-7.ensures))))))
