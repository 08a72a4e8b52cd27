-- The line by which a job ends whose task has no plan.
use Rattle.std.proofs.Common.{◌≡◌, ℕ, List, Option, ap, ap₂, refl, subst}
use Rattle.ick_job.specs.JobEnd.{Answers, EndsByLine}
use Rattle.ick_cli.specs.Job.{Task}
use Rattle.ick_job.specs.Notice.{notice_text}
use Rattle.ick_cli.specs.Plan.{HasPlan, IsPlanned, IsUnplanned}
use Rattle.ick_job.specs.Answer.{Answer, refusal}
use Rattle.ick_cli.specs.Tool.{IsReadAnswer, IsToolAnswer, planned, unplanned}
use Rattle.ick_job.specs.declared.job_end.JobEnd.{JobEnd}
use Rattle.ick_job.specs.declared.job_end.JobEnd.TheVariants.{Answered, NoMemory, InputTooLong, FileNotRead, ReadFailed}
use Rattle.ick_job.specs.declared.job_end.JobEnd.TheVariants.{WriteFailed}
use Rattle.ick_job.specs.declared.notice.Message.TheVariants as message
use Rattle.ick_job.specs.declared.notice.Notice.{Notice}
use Rattle.ick_cli.specs.declared.plan.Plan.{Plan}
use Rattle.ick_cli.proofs.Planned.{line_unique, plan_unique, planned_not_unplanned}
use Rattle.ick_job.proofs.Lines.{answers_by_line}

-- a task that has no plan ends by its line
pub refused_by_line : (task : Task) (job_end : JobEnd) (line : Notice) → EndsByLine (IsUnplanned task) job_end
    → (job_end ≡ NoMemory → HasPlan task) → IsUnplanned task line → job_end ≡ Answered 64 (message.Notice line)
refused_by_line task (Answered status (message.Notice other)) line h memory is =
    ap₂ (λ s l. Answered s (message.Notice l)) h.0 (line_unique task line other is h.1)
refused_by_line task (Answered status message.Nothing) line h memory is = absurd h
refused_by_line task (Answered status (message.Text text)) line h memory is = absurd h
refused_by_line task NoMemory line h memory is =
    let found = memory refl in absurd (planned_not_unplanned task found.0 line found.1 is)
refused_by_line task InputTooLong line h memory is = absurd h
refused_by_line task FileNotRead line h memory is = absurd h
refused_by_line task ReadFailed line h memory is = absurd h
refused_by_line task WriteFailed line h memory is = absurd h

-- the answer to a task that has no plan, and to one that has one
pub unplanned_answer : (task : Task) (source : Option (List ℕ)) (input : List ℕ) (answer : Answer)
    → IsToolAnswer task source input answer
    → (line : Notice) → IsUnplanned task line → answer ≡ refusal 64 (notice_text line)
unplanned_answer task source input answer (unplanned other h) line is =
    ap (λ (l : Notice). refusal 64 (notice_text l)) (line_unique task line other is h)
unplanned_answer task source input answer (planned plan given h found) line is =
    absurd (planned_not_unplanned task plan line h is)

pub answered_unplanned : (task : Task) (source : Option (List ℕ)) (input : List ℕ) (job_end : JobEnd)
    (before : List ℕ)
    → EndsByLine (IsUnplanned task) job_end
    → (answer : Answer) → IsToolAnswer task source input answer → Answers answer job_end before before
answered_unplanned task source input job_end before ends answer is =
    answers_by_line (IsUnplanned task) job_end before answer ends (unplanned_answer task source input answer is)

pub answer_planned : (task : Task) (plan : Plan) (source : Option (List ℕ)) (input : List ℕ) (answer : Answer)
    → IsPlanned task plan
    → IsToolAnswer task source input answer → IsReadAnswer plan input source answer
answer_planned task plan source input answer is (unplanned line h) = absurd (planned_not_unplanned task plan line is h)
answer_planned task plan source input answer is (planned other given h found) =
    subst (λ (p : Plan). IsReadAnswer p input source answer) (plan_unique task plan other is h) found
