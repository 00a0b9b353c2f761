use Rattle.fit_profile.specs.Table.{message_named}
use Rattle.fit_table.proofs.json.file.AsProfileForm.put_head.Goals as goal

pub returns : goal.returns
returns g c = c.put_json_head.ensures message_named c.message_name.ensures
