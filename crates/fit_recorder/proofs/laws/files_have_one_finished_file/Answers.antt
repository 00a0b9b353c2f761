use Rattle.std.proofs.Common.{ap, ◌∙◌}
use Rattle.fit_recorder.specs.Files.Finished.{finished}
use Rattle.fit_recorder.proofs.RecoveredList.OneList.{one_finished}
use Rattle.fit_recorder.proofs.laws.files_have_one_finished_file.Goals as goal

pub returns-clause-one : goal.returns-clause-one
returns-clause-one c contents bytes others one other = one_finished contents bytes others one other

pub returns-clause-recovered : goal.returns-clause-recovered
returns-clause-recovered c contents story summary recovered = record {
  list = recovered.list;
  stood = recovered.stood;
  is = ap (λ file. file.seen) recovered.finished.rests ∙ ap (λ body. finished body recovered.list) recovered.same_body;
}
