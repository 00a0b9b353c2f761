use Rattle.std.proofs.Common.{sym, ap}
use Rattle.fit_disk.specs.Story.{seen_of}
use Rattle.fit_disk.specs.declared.disk.Which.{Which}
use Rattle.fit_plan.proofs.Lending.{reads_file}
use Rattle.fit_plan.specs.Lent.{lent_story}
use Rattle.fit_plan.proofs.journal.LentJournalDisk.read.Goals as goal

pub returns-clause-bytes : goal.returns-clause-bytes
returns-clause-bytes c =
    let old = c.args.self.now in
    let has = c.has_all.ensures.journal c.if-not-has_all.false in
    reads_file _ old.notes.story.now.journal_file.seen old.bytes.now _ c.args.at _ _ old.is_whole (ap (λ (which : Which). seen_of which (lent_story old)) (sym has.0))
    (old.front has.1) (c.has_all.ensures.within c.if-not-has_all.false) c.copy_from.ensures.bytes
