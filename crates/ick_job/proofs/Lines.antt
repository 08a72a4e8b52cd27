-- A job's end by a line.
use Rattle.std.proofs.Common.{◌≡◌, ℕ, List, inr, refl, sym, subst, arith}
use Rattle.std.proofs.lemmas.List.{append-nil}
use Rattle.ick_job.specs.Answer.{Answer, refusal}
use Rattle.ick_job.specs.JobEnd.{Answers, EndsByLine, Leaves}
use Rattle.ick_job.specs.Notice.{notice_text}
use Rattle.ick_job.specs.declared.job_end.JobEnd.{JobEnd}
use Rattle.ick_job.specs.declared.job_end.JobEnd.TheVariants.{Answered, NoMemory, InputTooLong, FileNotRead, ReadFailed}
use Rattle.ick_job.specs.declared.job_end.JobEnd.TheVariants.{WriteFailed}
use Rattle.ick_job.specs.declared.notice.Message.TheVariants as message
use Rattle.ick_job.specs.declared.notice.Notice.{Notice}

pub leaves_by_line : (IsLine : Notice → Type 0) (job_end : JobEnd) (files reads writes : ℕ)
    → EndsByLine IsLine job_end
    → Leaves job_end files files reads reads writes writes
leaves_by_line IsLine (Answered status (message.Notice line)) files reads writes h =
    record { proper = inr h.0; opened = omega arith; read = omega arith; wrote = omega arith }
leaves_by_line IsLine (Answered status message.Nothing) files reads writes h = absurd h
leaves_by_line IsLine (Answered status (message.Text text)) files reads writes h = absurd h
leaves_by_line IsLine NoMemory files reads writes h =
    record { proper = tt; opened = omega arith; read = omega arith; wrote = omega arith }
leaves_by_line IsLine InputTooLong files reads writes h = absurd h
leaves_by_line IsLine FileNotRead files reads writes h = absurd h
leaves_by_line IsLine ReadFailed files reads writes h = absurd h
leaves_by_line IsLine WriteFailed files reads writes h = absurd h

pub by_other_line : (IsLine IsOther : Notice → Type 0) (job_end : JobEnd)
    → ((line : Notice) → IsLine line → IsOther line)
    → EndsByLine IsLine job_end → EndsByLine IsOther job_end
by_other_line IsLine IsOther (Answered status (message.Notice line)) other h = (h.0, other line h.1)
by_other_line IsLine IsOther (Answered status message.Nothing) other h = absurd h
by_other_line IsLine IsOther (Answered status (message.Text text)) other h = absurd h
by_other_line IsLine IsOther NoMemory other h = tt
by_other_line IsLine IsOther InputTooLong other h = absurd h
by_other_line IsLine IsOther FileNotRead other h = absurd h
by_other_line IsLine IsOther ReadFailed other h = absurd h
by_other_line IsLine IsOther WriteFailed other h = absurd h

pub by_usage : (IsLine : Notice → Type 0) (job_end : JobEnd) (line : Notice)
    → job_end ≡ Answered 64 (message.Notice line) → IsLine line
    → EndsByLine IsLine job_end
by_usage IsLine job_end line is h = subst (λ (e : JobEnd). EndsByLine IsLine e) (sym is) (refl, h)

pub answers_by_line : (IsLine : Notice → Type 0) (job_end : JobEnd) (before : List ℕ) (answer : Answer)
    → EndsByLine IsLine job_end
    → ((line : Notice) → IsLine line → answer ≡ refusal 64 (notice_text line)) →
    Answers answer job_end before before
answers_by_line IsLine (Answered status (message.Notice line)) before answer h is =
    subst (λ (a : Answer). Answers a (Answered status (message.Notice line)) before before) (sym (is line h.1))
    ((h.0, refl), sym (append-nil before))
answers_by_line IsLine (Answered status message.Nothing) before answer h is = absurd h
answers_by_line IsLine (Answered status (message.Text text)) before answer h is = absurd h
answers_by_line IsLine NoMemory before answer h is = (tt, (0, sym (append-nil before)))
answers_by_line IsLine InputTooLong before answer h is = absurd h
answers_by_line IsLine FileNotRead before answer h is = absurd h
answers_by_line IsLine ReadFailed before answer h is = absurd h
answers_by_line IsLine WriteFailed before answer h is = absurd h
