-- From how the job ends to what the whole call leaves.
use Rattle.std.proofs.Common.{◌≡◌, ◌∙◌, ◌++◌, inl, ℕ, Bool, List, ap, refl, sym, subst, arith}
use Rattle.std.proofs.lemmas.List.{append-nil}
use Rattle.ick_job.specs.Serve.{Failures, Finishes, IsStatus, counts}
use Rattle.ick_job.specs.Answer.{Answer}
use Rattle.ick_job.specs.declared.job_end.JobEnd.TheVariants.{Answered, NoMemory, InputTooLong, FileNotRead, ReadFailed}
use Rattle.ick_job.specs.declared.job_end.JobEnd.TheVariants.{WriteFailed}
use Rattle.ick_job.specs.declared.notice.Notice.TheVariants as notice
use Rattle.ick_job.proofs.Served.{four_by, due, finished_status, same_counts}
use Rattle.ick_outcomes_cli.specs.OutcomesEnd.{Gives, LeavesAll, outcomes_end_status, outcomes_end_text}
use Rattle.ick_outcomes_cli.specs.Serve.{IsOutcomesDue, IsOutcomesServed, answered, as_ick, cut_by_write, long_listing}
use Rattle.ick_outcomes_cli.specs.Serve.{many_states, stopped, unfinished, unread, without_memory}
use Rattle.ick_outcomes_cli.specs.declared.outcomes_end.OutcomesEnd.{OutcomesEnd}
use Rattle.ick_outcomes_cli.specs.declared.outcomes_end.OutcomesEnd.TheVariants.{By, Refused, Unfinished}

-- what is due to a job's end over any devices
pub outcomes_due : (outcomes_end : OutcomesEnd) (f f' r r' w w' : ℕ) → LeavesAll outcomes_end f f' r r' w w'
    → IsOutcomesDue (counts f r w) (counts f' r' w') (outcomes_end_text outcomes_end) (outcomes_end_status outcomes_end)
outcomes_due (By job_end) f f' r r' w w' x = as_ick _ _ (due job_end f f' r r' w w' x)
outcomes_due (Refused notice.TooManyStates) f f' r r' w w' x = many_states (same_counts _ _ _ _ _ _ x.1 x.2 x.3)
outcomes_due (Refused notice.ListingTooLong) f f' r r' w w' x = long_listing (same_counts _ _ _ _ _ _ x.1 x.2 x.3)
outcomes_due (Unfinished line) f f' r r' w w' x =
    unfinished line.items x.0 (same_counts _ _ _ _ _ _ x.1 x.2 x.3)
outcomes_due (Refused notice.ChoicesAndSeed) f f' r r' w w' x = absurd x.0
outcomes_due (Refused notice.BadCursor) f f' r r' w w' x = absurd x.0
outcomes_due (Refused notice.NoSuchRun) f f' r r' w w' x = absurd x.0
outcomes_due (Refused notice.SourceTooLong) f f' r r' w w' x = absurd x.0
outcomes_due (Refused notice.InputTooLong) f f' r r' w w' x = absurd x.0
outcomes_due (Refused notice.FileNotRead) f f' r r' w w' x = absurd x.0
outcomes_due (Refused notice.ReadFailed) f f' r r' w w' x = absurd x.0
outcomes_due (Refused notice.WriteFailed) f f' r r' w w' x = absurd x.0
outcomes_due (Refused notice.OutOfMemory) f f' r r' w w' x = absurd x.0
outcomes_due (Refused notice.WordsNotRead) f f' r r' w w' x = absurd x.0

-- the status is one of the program's
pub outcomes_status : (old new : Failures) (told : Bool) (e e' : ℕ) (errs errs' : List ℕ) (code : ℕ) (text : List ℕ)
    (status : ℕ) → IsOutcomesDue old new text status → Finishes told status text e e' errs errs' code → IsStatus code
outcomes_status old new told e e' errs errs' code text status (as_ick t s owed) done =
    finished_status old new told e e' errs errs' code (t, s, owed, done)
outcomes_status old new told e e' errs errs' code text status (many_states same) done =
    let four = four_by told 4 _ e e' errs errs' code done refl in inl (omega (arith, four))
outcomes_status old new told e e' errs errs' code text status (long_listing same) done =
    let four = four_by told 4 _ e e' errs errs' code done refl in inl (omega (arith, four))
outcomes_status old new told e e' errs errs' code text status (unfinished line is same) done =
    let four = four_by told 4 _ e e' errs errs' code done refl in inl (omega (arith, four))

-- an answer, by its error text and its status
by_answer : {A : Answer → Type 0} {M : List ℕ → Type 0} (old new : Failures) (out out' : List ℕ) (answer : Answer)
    (text : List ℕ) (status : ℕ) → A answer → status ≡ answer.status → text ≡ answer.errors
    → new.reads ≡ old.reads → new.writes ≡ old.writes → out' ≡ out ++ answer.output
    → IsOutcomesServed A M old new out out' text status
by_answer {A} {M} old new out out' answer text status is has_status has_text reads writes sends =
    subst (λ (t : List ℕ). IsOutcomesServed A M old new out out' t status) (sym has_text)
    (subst (λ (s : ℕ). IsOutcomesServed A M old new out out' answer.errors s) (sym has_status)
    (answered answer is reads writes sends))

-- how a job is served by a job's end
pub outcomes_served : {A : Answer → Type 0} {M : List ℕ → Type 0} (outcomes_end : OutcomesEnd) (f f' r r' w w' : ℕ) (out out' : List ℕ)
    → LeavesAll outcomes_end f f' r r' w w' → Gives A M outcomes_end out out'
    → IsOutcomesServed A M (counts f r w) (counts f' r' w') out out' (outcomes_end_text outcomes_end) (outcomes_end_status outcomes_end)
outcomes_served (By (Answered status said)) f f' r r' w w' out out' x h =
    let has = h.2 in
    by_answer _ _ out out' h.0 _ _ h.1 has.0.0 has.0.1 (omega (arith, x.read)) (omega (arith, x.wrote)) has.1
outcomes_served (By InputTooLong) f f' r r' w w' out out' x h =
    let has = h.2 in
    by_answer _ _ out out' h.0 _ _ h.1 has.0.0 has.0.1 (omega (arith, x.read)) (omega (arith, x.wrote)) has.1
outcomes_served (By FileNotRead) f f' r r' w w' out out' x h =
    let has = h.2 in
    by_answer _ _ out out' h.0 _ _ h.1 has.0.0 has.0.1 (omega (arith, x.read)) (omega (arith, x.wrote)) has.1
outcomes_served (By WriteFailed) f f' r r' w w' out out' x h =
    let has = h.2 in
    cut_by_write h.0 h.1 has.1.0
    (same_counts _ _ _ _ _ _ (omega (arith, x.opened)) (omega (arith, x.read)) (omega (arith, x.wrote))) has.1.1
outcomes_served (By ReadFailed) f f' r r' w w' out out' x h =
    unread (same_counts _ _ _ _ _ _ (omega (arith, x.opened)) (omega (arith, x.read)) (omega (arith, x.wrote))) h
outcomes_served (By NoMemory) f f' r r' w w' out out' x h =
    without_memory (same_counts _ _ _ _ _ _ (omega (arith, x.opened)) (omega (arith, x.read)) (omega (arith, x.wrote))) h
outcomes_served (Refused notice.TooManyStates) f f' r r' w w' out out' x h =
    stopped _ h.0 (same_counts _ _ _ _ _ _ x.1 x.2 x.3) h.1
outcomes_served (Unfinished line) f f' r r' w w' out out' x h =
    stopped line.items h.0 (same_counts _ _ _ _ _ _ x.1 x.2 x.3) h.1
outcomes_served (Refused notice.ListingTooLong) f f' r r' w w' out out' x h =
    let is = h.2.0 in
    by_answer _ _ out out' h.0 _ _ h.1 (sym (ap (λ (a : Answer). a.status) is)) (sym (ap (λ (a : Answer). a.errors) is))
    x.2 x.3 (h.2.1 ∙ (sym (append-nil out) ∙ ap (λ l. out ++ l) (sym (ap (λ (a : Answer). a.output) is))))
outcomes_served (Refused notice.ChoicesAndSeed) f f' r r' w w' out out' x h = absurd h
outcomes_served (Refused notice.BadCursor) f f' r r' w w' out out' x h = absurd h
outcomes_served (Refused notice.NoSuchRun) f f' r r' w w' out out' x h = absurd h
outcomes_served (Refused notice.SourceTooLong) f f' r r' w w' out out' x h = absurd h
outcomes_served (Refused notice.InputTooLong) f f' r r' w w' out out' x h = absurd h
outcomes_served (Refused notice.FileNotRead) f f' r r' w w' out out' x h = absurd h
outcomes_served (Refused notice.ReadFailed) f f' r r' w w' out out' x h = absurd h
outcomes_served (Refused notice.WriteFailed) f f' r r' w w' out out' x h = absurd h
outcomes_served (Refused notice.OutOfMemory) f f' r r' w w' out out' x h = absurd h
outcomes_served (Refused notice.WordsNotRead) f f' r r' w w' out out' x h = absurd h
