use Rattle.std.proofs.Common.{◌≡◌, ℕ, List, sym, ap, ◌∙◌, subst, refl, Ok}
use Rattle.fit_journal.specs.Adopting.{Adopted}
use Rattle.fit_journal.specs.declared.slots.Slots.{Slots}
use Rattle.fit_recorder.specs.Private.State.{RecorderState}
use Rattle.fit_disk.specs.Story.{Story}
use Rattle.fit_plan.specs.Plan.{plan_story}
use Rattle.fit_recorder.specs.Calls.Frozen.{state_in, has_failed_in}
use Rattle.fit_recorder.specs.Calls.Ride.{TakesUp}
use Rattle.fit_device.proofs.Stepping.{goes_on_at, is_at}
use Rattle.fit_device.proofs.handle.Handle.put_ride.Goals as goal

pub continue_with-requires-clause-taken : goal.continue_with-requires-clause-taken
continue_with-requires-clause-taken c honest =
    let took = c.requires.taken in
    let here = ap plan_story c.idle-recorder.ensures.disk ∙ c.over-disk.ensures.story ∙ c.same.ensures.0 in
    (took.0, subst (λ (story : Story). TakesUp took.0 story (Ok c.args.ride)) (sym here) took.1)

pub seal_with-requires : goal.seal_with-requires
seal_with-requires c =
    let frozen = c.freeze.ensures in
    let did = c.continue_with.ensures in
    let here = ap plan_story (did.disk ∙ c.idle-recorder.ensures.disk) ∙ c.over-disk.ensures.story ∙ c.same.ensures.0 in
    record {
      possible = frozen.possible;
      going = frozen.failed ∙ did.under_way.going;
      goes_on = goes_on_at _ _ _ _ _ _ (sym frozen.state) (sym frozen.failed) here did.goes_on;
    }

adopted_as : (slots other : Slots) (len more : ℕ) (journal : List ℕ) → slots ≡ other → len ≡ more → Adopted slots len journal → Adopted other more journal
adopted_as slots other len more journal same_slots same_len is = subst (λ (n : ℕ). Adopted other n journal) same_len (subst (λ (s : Slots). Adopted s len journal) same_slots is)

pub returns-clause-goes_on : goal.returns-clause-goes_on
returns-clause-goes_on c contents took =
    let frozen = c.freeze.ensures in
    let did = c.continue_with.ensures in
    let put = c.seal_with.ensures in
    let before = ap plan_story c.idle-recorder.ensures.disk ∙ c.over-disk.ensures.story ∙ c.same.ensures.0 in
    let resumed = did.resumed refl contents (subst (λ (story : Story). TakesUp contents story (Ok c.args.ride)) (sym before) took) in
    let same = ap state_in put.same ∙ frozen.state in
    record {
      list = resumed.list;
      stood = resumed.stood;
      adopted = adopted_as _ _ _ _ _ (sym (ap (λ (state : RecorderState). state.journal_slots) same)) (sym (ap (λ (state : RecorderState). state.len) same)) resumed.adopted;
      stands = record {
        recorder = put.recorder;
        going = ap has_failed_in put.same ∙ frozen.failed ∙ resumed.going;
        at = is_at resumed.list resumed.list _ _ _ _ (sym same) (ap plan_story did.disk ∙ before ∙ sym put.story) resumed.stands;
      };
    }
