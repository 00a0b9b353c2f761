-- The result of a recovery over two buffers.
use Rattle.std.proofs.Common.{◌≡◌, ◌≤◌, ℕ, List, length, take, inl, inr, subst, sym, ap, ◌∙◌, ◌++◌, length-take, arith}
use Rattle.fit_activity.specs.declared.activity.Summary.{Summary}
use Rattle.fit_activity.specs.Messages.RideMessages.{spoken, closing}
use Rattle.fit_disk.specs.declared.buffers.Buffers.{Buffers}
use Rattle.fit_disk.specs.Buffers.{story_in}
use Rattle.fit_disk.specs.State.{Contents, seen_in}
use Rattle.fit_disk.specs.Stored.{Stored, at_rest}
use Rattle.fit_disk.specs.Story.{Story}
use Rattle.fit_grammar.specs.Format.File.{File}
use Rattle.fit_recorder.specs.Calls.Recovery.{IsRecovered, KeepsJournal}
use Rattle.fit_recorder.specs.Files.Body.{StandsFor}
use Rattle.fit_recorder.specs.Files.Finished.{finished}
use Rattle.fit_c.specs.Repaired.{IsRepaired, ride_summary_of}

abbrev both : List ℕ → List ℕ → Contents
both in_data in_journal = record { in_data = in_data; in_journal = in_journal }

-- reads of the journal give what they gave
journal_seen : (old new : Story) → KeepsJournal old new → new.now.journal_file.seen ≡ old.now.journal_file.seen
journal_seen old new (inl same) = ap (λ (file : Stored). file.seen) same
journal_seen old new (inr rests) = ap (λ (file : Stored). file.seen) rests

-- files of the same content, each within its buffer, have the same lengths
pub same_len : (n m : ℕ) (xs ys : List ℕ) → n ≤ length xs → m ≤ length ys → take n xs ≡ take m ys → n ≡ m
same_len n m xs ys within other same = omega (arith, length-take n xs, length-take m ys, ap length same)

pub repaired_of : (old new : Buffers) (summary : Summary) (data_before journal_before data_after journal_after : List ℕ)
    → IsRecovered (seen_in (story_in old).now) (story_in new) summary → KeepsJournal (story_in old) (story_in new)
    → (story_in old).now.data_file ≡ at_rest data_before → (story_in old).now.journal_file ≡ at_rest journal_before
    → data_after ≡ take new.data_len new.data_bytes.now → journal_after ≡ take new.journal_len new.journal_bytes.now
    → IsRepaired (both data_before journal_before) (both data_after journal_after) (ride_summary_of summary)
repaired_of old new summary data_before journal_before data_after journal_after is keeps data_rests journal_rests data_is journal_is =
    let seen : (story_in new).now.data_file.seen ≡ finished is.finished.body is.list = ap (λ (file : Stored). file.seen) is.finished.rests in
    let body : finished is.finished.body is.list ≡ finished is.stood.body is.list = ap (λ body. finished body is.list) is.same_body in
    let before : seen_in (story_in old).now ≡ both data_before journal_before = ap (λ in_data. both in_data (story_in old).now.journal_file.seen) (ap (λ (file : Stored). file.seen) data_rests) ∙ ap (both data_before) (ap (λ (file : Stored). file.seen) journal_rests) in
    let after : both data_after journal_after ≡ seen_in (story_in new).now = ap (λ in_data. both in_data journal_after) (data_is ∙ sym new.in_data) ∙ ap (both (story_in new).now.data_file.seen) (journal_is ∙ sym new.in_journal) in
    let kept = journal_is ∙ sym new.in_journal ∙ journal_seen (story_in old) (story_in new) keeps ∙ ap (λ (file : Stored). file.seen) journal_rests in
    go before after is (data_is ∙ sym new.in_data ∙ seen ∙ body) (data_is ∙ sym new.in_data ∙ seen) kept
  where
    go : seen_in (story_in old).now ≡ both data_before journal_before → both data_after journal_after ≡ seen_in (story_in new).now
        → (r : IsRecovered (seen_in (story_in old).now) (story_in new) summary)
        → data_after ≡ finished r.stood.body r.list → data_after ≡ finished r.finished.body r.list → journal_after ≡ journal_before
        → IsRepaired (both data_before journal_before) (both data_after journal_after) (ride_summary_of summary)
    go before after r here there kept = subst (λ contents. IsRepaired contents (both data_after journal_after) (ride_summary_of summary)) before (record {
      list = r.list;
      stood = r.stood;
      is = here;
      valid = subst (λ file. File file (spoken r.list ++ closing r.list)) (sym there) r.finished.valid;
      activity = r.finished.activity;
      stands = subst (StandsFor r.list) (sym after) (r.finished.stands (seen_in (story_in new).now) new.sound);
      journal_kept = kept ∙ sym (ap (λ (contents : Contents). contents.in_journal) before);
      sums_up = ap ride_summary_of r.sums_up;
    })
