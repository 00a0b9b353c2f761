use Rattle.std.proofs.Common.{rules, ℕ, List, Option, subst, ◌∙◌}
use Rattle.fit_files.specs.Exports.Tabled.{ShowsHeld}
use Rattle.fit_commands.specs.Faults.{IsReportFault}
use Rattle.fit_commands.specs.Reported.{ReportsRun}
use Rattle.fit_commands.proofs.table.table_held.Goals as goal

pub returns-then-eq : goal.returns-then-eq
returns-then-eq g c =
    let old = g.O.Write.contents c.args.out.now in
    let new = g.O.Write.contents c.table_held_from.new.out in
    subst (λ (known : Option (List ℕ)). ReportsRun {T = Unit {0}} known c.args.name old new (IsReportFault c.args.name)
    (ShowsHeld c.args.layout.now c.table_held_from.new.held old new) c.table_held_from.result)
    (c.standard_input-from.ensures ∙ search (rules, c.if-eq.true, c.eq.ensures)) c.table_held_from.ensures

pub returns : goal.returns
returns g c =
    let old = g.O.Write.contents c.args.out.now in
    let new = g.O.Write.contents c.table_held_from-2.new.out in
    subst (λ (known : Option (List ℕ)). ReportsRun {T = Unit {0}} known c.args.name old new (IsReportFault c.args.name)
    (ShowsHeld c.args.layout.now c.table_held_from-2.new.held old new) c.table_held_from-2.result)
    (c.in_ok-file.ensures.held ∙ search (rules, c.if-eq.false, c.eq.ensures)) c.table_held_from-2.ensures
