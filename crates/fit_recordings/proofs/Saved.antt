-- The ride that is saved from a recording that was recovered in memory.
use Rattle.std.proofs.Common.{◌≡◌, ◌∙◌, ℕ, List, refl, ap, subst}
use Rattle.fit_activity.specs.Rides.Recording.{Recorded}
use Rattle.fit_activity.specs.declared.activity.Summary.{Summary}
use Rattle.fit_disk.specs.State.{Contents}
use Rattle.fit_disk.specs.Stored.{Stored}
use Rattle.fit_disk.specs.Story.{Story, seen_of}
use Rattle.fit_disk.specs.declared.disk.Which.TheVariants.{Data}
use Rattle.fit_grammar.specs.Format.File.{FileValue, FileOf}
use Rattle.fit_grammar.proofs.Decoding.OneValue.{one_value}
use Rattle.fit_recorder.specs.Calls.Recovery.{IsRecovered}
use Rattle.fit_recorder.specs.Files.Finished.{HaveFinished, finished}
use Rattle.fit_recorder.proofs.RecoveredList.OneList.{one_finished}
use Rattle.fit_recordings.specs.Saved.{IsFinishedOf}

pub finished_of : (contents : Contents) (story : Story) (summary : Summary) (recovered : IsRecovered contents story summary) (bytes : List ℕ) (v : FileValue)
    → bytes ≡ seen_of Data story → FileOf bytes v → IsFinishedOf contents recovered.list v
finished_of contents story summary recovered bytes v is file =
    let same = is ∙ ap (λ (file : Stored). file.seen) recovered.finished.rests ∙ ap (λ body. finished body recovered.list) recovered.same_body in
    record { stood = recovered.stood; file = subst (λ bytes. FileOf bytes v) same file }

-- two files have one finished file, and so the value that is saved is that of its bytes
pub one_value_of : (contents : Contents) (list : List Recorded) (w v : FileValue) (bytes : List ℕ)
    → IsFinishedOf contents list w → HaveFinished contents bytes → FileOf bytes v → w ≡ v
one_value_of contents list w v bytes is have file =
    let same = one_finished contents (finished is.stood.body list) bytes (record { list = list; stood = is.stood; is = refl }) have in
    one_value bytes w v (subst (λ bytes. FileOf bytes w) same is.file) file
