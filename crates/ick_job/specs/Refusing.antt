-- How work ends whose source is refused.
use Rattle.std.specs.Prelude.{◌≡◌, []}
use Rattle.ick_bits.specs.Faults.{message_of}
use Rattle.ick_source.specs.declared.refusals.Refusal.{Refusal}
use Rattle.ick_source.specs.declared.refusals.Refusal.TheVariants as refusal
use Rattle.ick_job.specs.JobEnd.{EndsBy}
use Rattle.ick_job.specs.declared.job_end.JobEnd.{JobEnd}
use Rattle.ick_job.specs.declared.job_end.JobEnd.TheVariants.{Answered, NoMemory}
use Rattle.ick_job.specs.declared.notice.Message.TheVariants.{Notice as Line}
use Rattle.ick_job.specs.declared.notice.Notice.TheVariants.{SourceTooLong}

-- the message of its fault or the line of a source that is too long, with status 2; or memory ran out
abbrev pub EndsRefused : Refusal → JobEnd → Type 0
EndsRefused (refusal.Fault kind statement) job_end = EndsBy 2 (message_of kind statement []) job_end
EndsRefused refusal.TooLong job_end = job_end ≡ Answered 2 (Line SourceTooLong)
EndsRefused refusal.NoMemory job_end = job_end ≡ NoMemory
