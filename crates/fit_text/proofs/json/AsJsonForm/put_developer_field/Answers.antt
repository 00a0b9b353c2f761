use Rattle.fit_text.proofs.json.AsJsonForm.put_developer_field.Goals as goal

pub returns : goal.returns
returns g c = c.put_developer_bytes.ensures c.args.arch
