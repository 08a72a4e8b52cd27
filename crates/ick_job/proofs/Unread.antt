-- Why a text's choices weren't read.
use Rattle.std.proofs.Common.{◌≡◌, ◌∙◌, ◌<◌, ◌≤◌, ◌⊎◌, ℕ, List, Bool, Option, Some, ap, arith, length, refl, subst}
use Rattle.std.proofs.Common.{sym}
use Rattle.std.specs.Prelude.{option_map}
use Rattle.ick_explorer.specs.ChoiceTexts.{IsTextOf}
use Rattle.ick_explorer.specs.declared.errors.RunsError.{RunsError}
use Rattle.ick_explorer.specs.declared.errors.RunsError.TheVariants.{NoMemory, NoSuchRun, WorkFull, Failed}
use Rattle.ick_explorer.specs.declared.errors.RunsError.TheVariants.{BadCursor, Read, Write}
use Rattle.ick_job.specs.JobEnd.{Comes, refused_job_end, EndsByLine}
use Rattle.ick_job.specs.Choices.{AreChoices, HasChoices, IsUnread, bad, long}
use Rattle.ick_job.specs.declared.job_end.JobEnd.{JobEnd}
use Rattle.ick_job.specs.declared.job_end.JobEnd.TheVariants.{NoMemory as WithoutMemory}
use Rattle.ick_job.specs.declared.notice.Notice.TheVariants as notice
use Rattle.ick_job.proofs.Errors.{one_of_three}
use Rattle.ick_job.proofs.Texts.{given_some}

-- the text that was read is the one that is given
pub named : {T : Type 0} (f : T → List ℕ) (text : Option T) (t : T) (read : List ℕ) → text ≡ Some t
    → read ≡ f t
    → option_map f text ≡ Some read
named f text t read is same = given_some f text t is ∙ ap (λ (x : List ℕ). Some x) (sym same)

-- the errors of a text
abbrev pub IsTextError : RunsError → Type 0
IsTextError e = (e ≡ NoMemory) ⊎ ((e ≡ NoSuchRun) ⊎ (e ≡ BadCursor))

pub text_error_comes : (e : RunsError) → IsTextError e → Comes e
text_error_comes e one = one_of_three Comes NoMemory NoSuchRun BadCursor e tt tt tt one

ends_by : (most : ℕ) (text : Option (List ℕ)) (read : List ℕ) (e : RunsError) → text ≡ Some read
    → (e ≡ BadCursor → (c : List Bool) → ¬ IsTextOf read c)
    → (e ≡ NoSuchRun → (c : List Bool) × IsTextOf read c × (most < length c))
    → IsTextError e → EndsByLine (IsUnread most text) (refused_job_end e)
ends_by most text read NoMemory is none more one = tt
ends_by most text read NoSuchRun is none more one =
    let found = more refl in (
      refl,
      subst (λ (t : Option (List ℕ)). IsUnread most t notice.NoSuchRun) (sym is)
          (long read found.0 found.1 found.2),
    )
ends_by most text read WorkFull is none more one = tt
ends_by most text read Failed is none more one = tt
ends_by most text read BadCursor is none more one =
    (refl, subst (λ (t : Option (List ℕ)). IsUnread most t notice.BadCursor) (sym is) (bad read (none refl)))
ends_by most text read Read is none more one = absurd (grind arith)
ends_by most text read Write is none more one = absurd (grind arith)

pub ends_unread : (most : ℕ) (text : Option (List ℕ)) (read : List ℕ) (e : RunsError) (job_end : JobEnd)
    → job_end ≡ refused_job_end e → text ≡ Some read
    → (e ≡ BadCursor → (c : List Bool) → ¬ IsTextOf read c)
    → (e ≡ NoSuchRun → (c : List Bool) × IsTextOf read c × (most < length c))
    → IsTextError e → EndsByLine (IsUnread most text) job_end
ends_unread most text read e job_end so is none more one =
    subst (λ (x : JobEnd). EndsByLine (IsUnread most text) x) (sym so) (ends_by most text read e is none more one)

-- memory is said to be out only of a text that has choices
pub unread_memory : (most : ℕ) (text : Option (List ℕ)) (read : List ℕ) (e : RunsError) (job_end : JobEnd)
    → job_end ≡ refused_job_end e → text ≡ Some read
    → (e ≡ NoMemory → (c : List Bool) × IsTextOf read c × (length c ≤ most))
    → IsTextError e → job_end ≡ WithoutMemory → HasChoices text most
unread_memory most text read NoMemory job_end so is has one memory =
    let found = has refl in
    (Some found.0, subst (λ (t : Option (List ℕ)). AreChoices t most (Some found.0)) (sym is) (found.1, found.2))
unread_memory most text read NoSuchRun job_end so is has one memory = cc
unread_memory most text read WorkFull job_end so is has one memory = absurd (grind arith)
unread_memory most text read Failed job_end so is has one memory = absurd (grind arith)
unread_memory most text read BadCursor job_end so is has one memory = cc
unread_memory most text read Read job_end so is has one memory = cc
unread_memory most text read Write job_end so is has one memory = cc
