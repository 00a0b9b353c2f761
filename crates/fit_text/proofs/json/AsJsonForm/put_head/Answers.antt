use Rattle.fit_profile.specs.Known.{known_named}
use Rattle.fit_text.proofs.json.AsJsonForm.put_head.Goals as goal

pub returns : goal.returns
returns g c = c.put_json_head.ensures known_named c.known_name.ensures.named
