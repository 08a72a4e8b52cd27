-- What work leaves in the reader.
use Rattle.std.proofs.Common.{◌≡◌, ◌<◌, ◌+◌, ℕ, List, Option, Some, None, arith, drop, subst, sym, take}
use Rattle.std.proofs.lemmas.List.{length-take, take_all}
use Rattle.ick_source.specs.RefusalAnswers.{Refuses}
use Rattle.ick_source.specs.Refusals.{Compiles, longest}
use Rattle.ick_source.specs.declared.refusals.Refusal.{Refusal}
use Rattle.ick_source.specs.declared.refusals.Refusal.TheVariants as refusal
use Rattle.ick_syntax.specs.StatementTree.{StatementTree}
use Rattle.ick_job.specs.Input.{longest_input}
use Rattle.ick_job.specs.JobEnd.{WhereAnswered}
use Rattle.ick_job.specs.Refusing.{EndsRefused}
use Rattle.ick_job.specs.declared.job_end.JobEnd.{JobEnd}
use Rattle.ick_job.proofs.Ends.{where_answered, where_other}
use Rattle.ick_outcomes_cli.specs.Job.{Wanted}
use Rattle.ick_outcomes_cli.specs.Left.{IsLeftBySource, IsLeftRead, left_compiled, left_refused, left_with_file}
use Rattle.ick_outcomes_cli.specs.Left.{left_without_file}
use Rattle.ick_outcomes_cli.specs.OutcomesEnd.{WhereGiven}
use Rattle.ick_outcomes_cli.specs.declared.outcomes_end.OutcomesEnd.{OutcomesEnd}
use Rattle.ick_outcomes_cli.specs.declared.outcomes_end.OutcomesEnd.TheVariants.{By, Refused, Unfinished}

-- a fact holds where work ended with an answer, if it holds anyway, or another does
pub where_given : (outcomes_end : OutcomesEnd) (Fact : Type 0) → Fact → WhereGiven outcomes_end Fact
where_given (By job_end) Fact h = where_answered job_end Fact h
where_given (Refused line) Fact h = tt
where_given (Unfinished line) Fact h = tt

pub where_given_other : (outcomes_end : OutcomesEnd) (Fact Other : Type 0) → (Fact → Other)
    → WhereGiven outcomes_end Fact → WhereGiven outcomes_end Other
where_given_other (By job_end) Fact Other so h = where_other job_end Fact Other so h
where_given_other (Refused line) Fact Other so h = tt
where_given_other (Unfinished line) Fact Other so h = tt

-- a name that is given, and isn't
pub not_both : {T : Type 0} (name : Option T) (t : T) → name ≡ Some t → name ≡ None → ⊥
not_both name t some none = cc

-- what a source leaves that is refused, and one that compiles
pub refused_left : (source input : List ℕ) (why : Refusal) (job_end : JobEnd) → Refuses source why
    → EndsRefused why job_end → WhereAnswered job_end (IsLeftBySource source input input)
refused_left source input (refusal.Fault kind n) job_end is ends =
    where_answered job_end _ (left_refused is.no_program)
refused_left source input refusal.TooLong job_end long ends =
    where_answered job_end _ (left_refused (λ trees h. let fits = h.fits in absurd (omega arith)))
refused_left source input refusal.NoMemory job_end is ends =
    subst (λ (e : JobEnd). WhereAnswered e (IsLeftBySource source input input)) (sym ends) tt

pub compiled_left : (source input left : List ℕ) (trees : List StatementTree) → Compiles source trees
    → left ≡ drop (longest_input + 1) input → IsLeftBySource source input left
compiled_left source input left trees compiles is =
    subst (λ (l : List ℕ). IsLeftBySource source input l) (sym is) (left_compiled trees compiles)

-- .. a front of it that shows what is too long, and the whole
left_of_front : (most : ℕ) (source input left : List ℕ) → longest < most
    → IsLeftBySource (take most source) input left → IsLeftBySource source input left
left_of_front most source input left long (left_refused none) = left_refused (λ trees h. none trees (
    let fits = h.fits in subst (λ (t : List ℕ). Compiles t trees) (sym (take_all most source (omega arith))) h))
left_of_front most source input left long (left_compiled trees h) = left_compiled trees (
    let fits = h.fits in let size = length-take most source in
    subst (λ (t : List ℕ). Compiles t trees) (take_all most source (omega arith)) h)

-- what a job leaves that names a file, and one that names none
pub with_file : (w : Wanted) (name : List ℕ) (named : List ℕ → List ℕ) (front before left : List ℕ)
    → w.file ≡ Some name → front ≡ take (longest + 1) (named name) → IsLeftBySource front before left
    → IsLeftRead w named before left
with_file w name named front before left is fronts h = left_with_file name left is
    (left_of_front (longest + 1) (named name) before left (omega arith)
    (subst (λ (s : List ℕ). IsLeftBySource s before left) fronts h))

pub without_file : (w : Wanted) (named : List ℕ → List ℕ) (before left : List ℕ) → w.file ≡ None
    → left ≡ drop (longest + 1) before → IsLeftRead w named before left
without_file w named before left none is =
    subst (λ (l : List ℕ). IsLeftRead w named before l) (sym is) (left_without_file none)
