-- From how the job ends to what the whole call leaves.
use Rattle.std.proofs.Common.{◌≡◌, ◌++◌, ℕ, List, arith, subst, sym}
use Rattle.ick_job.specs.Serve.{Failures, counts}
use Rattle.ick_job.specs.Answer.{Answer}
use Rattle.ick_job.specs.JobEnd.{Leaves, job_end_status, job_end_text}
use Rattle.ick_job.specs.declared.job_end.JobEnd.{JobEnd}
use Rattle.ick_job.specs.declared.job_end.JobEnd.TheVariants.{Answered, NoMemory, InputTooLong, FileNotRead, ReadFailed}
use Rattle.ick_job.specs.declared.job_end.JobEnd.TheVariants.{WriteFailed}
use Rattle.ick_job.proofs.Served.{same_counts}
use Rattle.ick_stages_cli.specs.Gives.{Gives, IsStagesServed, answered, cut_by_write, unread, without_memory}

-- an answer, by its error text and its status
by_answer : {A : Answer → Type 0} {L : List ℕ → Type 0} (old new : Failures) (out out' : List ℕ) (answer : Answer)
    (text : List ℕ) (status : ℕ) → A answer → status ≡ answer.status → text ≡ answer.errors
    → new.reads ≡ old.reads → new.writes ≡ old.writes → out' ≡ out ++ answer.output
    → IsStagesServed A L old new out out' text status
by_answer {A} {L} old new out out' answer text status is has_status has_text reads writes sends =
    subst (λ (t : List ℕ). IsStagesServed A L old new out out' t status) (sym has_text)
    (subst (λ (s : ℕ). IsStagesServed A L old new out out' answer.errors s) (sym has_status)
    (answered answer is reads writes sends))

-- how a job is served by a job's end
pub stages_served : {A : Answer → Type 0} {L : List ℕ → Type 0} (job_end : JobEnd) (f f' r r' w w' : ℕ) (out out' : List ℕ)
    → Leaves job_end f f' r r' w w' → Gives A L job_end out out'
    → IsStagesServed A L (counts f r w) (counts f' r' w') out out' (job_end_text job_end) (job_end_status job_end)
stages_served (Answered status said) f f' r r' w w' out out' x h =
    let has = h.2 in
    by_answer _ _ out out' h.0 _ _ h.1 has.0.0 has.0.1 (omega (arith, x.read)) (omega (arith, x.wrote)) has.1
stages_served InputTooLong f f' r r' w w' out out' x h = absurd h
stages_served FileNotRead f f' r r' w w' out out' x h =
    let has = h.2 in
    by_answer _ _ out out' h.0 _ _ h.1 has.0.0 has.0.1 (omega (arith, x.read)) (omega (arith, x.wrote)) has.1
stages_served WriteFailed f f' r r' w w' out out' x h =
    cut_by_write h.0 h.1 h.2
    (same_counts _ _ _ _ _ _ (omega (arith, x.opened)) (omega (arith, x.read)) (omega (arith, x.wrote))) h.3
stages_served ReadFailed f f' r r' w w' out out' x h =
    unread (same_counts _ _ _ _ _ _ (omega (arith, x.opened)) (omega (arith, x.read)) (omega (arith, x.wrote))) h
stages_served NoMemory f f' r r' w w' out out' x h =
    without_memory h.0 h.1
    (same_counts _ _ _ _ _ _ (omega (arith, x.opened)) (omega (arith, x.read)) (omega (arith, x.wrote))) h.2
