use Rattle.fit_table.proofs.json.developer.put_developer.Goals as goal

pub returns-in-None : goal.returns-in-None
returns-in-None g c = rw (← c.last.ensures, c.in-None.is) (c.put_developer_bytes.ensures c.args.arch)
