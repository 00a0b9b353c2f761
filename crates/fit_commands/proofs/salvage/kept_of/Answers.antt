use Rattle.fit_commands.proofs.salvage.kept_of.Goals as goal

pub returns-in-Err-clause-reported : goal.returns-in-Err-clause-reported
returns-in-Err-clause-reported c = c.fault_of.ensures.reported c.args.form.now.skip

pub returns-in-Err-read_header_front-clause-reported : goal.returns-in-Err-read_header_front-clause-reported
returns-in-Err-read_header_front-clause-reported c = c.fault_of-in-Err-read_header_front.ensures.reported c.args.form.now.skip
