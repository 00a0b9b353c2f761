-- The numbers of the files, and where a call begins.
use Rattle.std.proofs.Common.{◌≡◌, ◌≤◌, ℕ, length, subst, refl}
use Rattle.fit_disk.specs.Story.{Story, seen_of}
use Rattle.fit_disk.specs.declared.disk.Which.{Which}
use Rattle.fit_disk.specs.declared.disk.Which.TheVariants.{Data, Journal}
use Rattle.fit_plan.specs.declared.plan.Plan.{Plan}
use Rattle.fit_plan.specs.Carried.{number_of, which_of}
use Rattle.fit_plan.specs.Planned.{planned}

-- a file is the one of its number
pub file_is : (which : Which) (number : ℕ) → number ≡ number_of which → which_of number ≡ which
file_is Data number is = rw (is) refl
file_is Journal number is = rw (is) refl

-- a call that begins inside its file now begins inside the file that the planned calls leave
pub begins_inside : (p : Plan) (which : Which) (at : ℕ) → at ≤ length (seen_of which p.notes.story)
    → at ≤ length (seen_of which (planned p.calls p.notes.since))
begins_inside p which at within = subst (λ (story : Story). at ≤ length (seen_of which story)) p.written within
