use Rattle.fit_commands.proofs.Found.{bytes_more, own_more}
use Rattle.fit_commands.proofs.each.push_listed.Goals as goal

pub loop-line-preserved-in_ok-push : goal.loop-line-preserved-in_ok-push
loop-line-preserved-in_ok-push c =
    own_more _ _ _ _ c.loop-line.invariant (bytes_more c.loop-line.all.items c.push.new.self.items _ c.in_ok-push.ensures.items)
