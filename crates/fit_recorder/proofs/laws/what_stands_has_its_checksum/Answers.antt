use Rattle.fit_recorder.proofs.laws.what_stands_has_its_checksum.Goals as goal

pub returns : goal.returns
returns c list contents stood = (stood.body, stood.commits.in_data, stood.commits.counts)
