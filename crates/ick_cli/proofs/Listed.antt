-- What a listing that was written comes to.
use Rattle.std.proofs.Common.{◌⊎◌, inl, inr, ◌≡◌, ◌∙◌, ◌+◌, ◌*◌, ◌^◌, ◌<◌, ◌≤◌}
use Rattle.std.proofs.Common.{◌++◌, ℕ, Bool, true, List, Option, Some, None, Ok, Err, ap, arith, refl, subst, sym}
use Rattle.std.proofs.Common.{take}
use Rattle.std.proofs.lemmas.List.{append-nil}
use Rattle.std.proofs.lemmas.Nat.{mul-le}
use Rattle.ick_code.specs.meaning.State.{State}
use Rattle.ick_backtrack.specs.Machine.{Machine, Program}
use Rattle.ick_explorer.specs.Listings.{IsListing}
use Rattle.ick_explorer.specs.Lines.{shown as shown_runs}
use Rattle.ick_explorer.specs.Runs.{IsWhole}
use Rattle.ick_explorer.specs.Standing.{Explored, IsListingAt, IsMachineFull, Stands, StandsFrom}
use Rattle.ick_explorer.specs.Writes.{Writes, write_failures}
use Rattle.ick_explorer.specs.declared.errors.RunsError.{RunsError}
use Rattle.ick_explorer.specs.declared.errors.RunsError.TheVariants.{NoMemory, NoSuchRun, WorkFull, Failed, BadCursor, Read}
use Rattle.ick_explorer.specs.declared.errors.RunsError.TheVariants.{Write}
use Rattle.ick_explorer.specs.declared.listing.Listed2.{Listed2}
use Rattle.ick_job.specs.JobEnd.{Answers, Comes, LeavesWriter, refused_job_end}
use Rattle.ick_cli.specs.Placed.{IsPlaced, IsRunsAnswerAt, IsUnplaced}
use Rattle.ick_job.specs.Answer.{Answer, refusal, shown}
use Rattle.ick_cli.specs.Tool.{IsRunsAnswer, listed, no_such_run}
use Rattle.ick_job.specs.Notice.{notice_text}
use Rattle.ick_job.specs.declared.job_end.JobEnd.{JobEnd}
use Rattle.ick_job.specs.declared.job_end.JobEnd.TheVariants.{Answered, NoMemory as WithoutMemory, WriteFailed}
use Rattle.ick_job.specs.declared.notice.Notice.TheVariants.{NoSuchRun as NoSuchRun_line}
use Rattle.ick_job.specs.declared.notice.Message.TheVariants.{Nothing}
use Rattle.ick_cli.proofs.Beginnings.{IsBeginning, lines_begin, part_begins}

-- the answer at the position of an explorer is a listing's
stands_whole : (p : Program) (s : State) (l : ℕ) (c : List Bool) (present : State) (marks : List State)
    (points : List ℕ)
    → StandsFrom p s l (Some c) present marks points → IsWhole p s l c
stands_whole p s l c present marks points h = h.whole

-- the listing of an answer at a position
pub record IsListed (s : State) (count : ℕ) (e : Explored) (answer : Answer) : Type 0 where
  pub runs : List (List Bool)
  pub listing : IsListingAt s e runs
  pub shown_is : answer ≡ shown (shown_runs e.program s e.limit runs count)

listed_at : (p : Program) (s : State) (l count : ℕ) (from : Option (List Bool)) (answer : Answer)
    → ((c : List Bool) → from ≡ Some c → IsWhole p s l c) → IsRunsAnswer p s l count from answer
    → (cs : List (List Bool)) × IsListing p s l from cs × (answer ≡ shown (shown_runs p s l cs count))
listed_at p s l count from answer whole (listed f cs position is) = (cs, is, refl)
listed_at p s l count from answer whole (no_such_run c not_whole) = absurd (not_whole (whole c refl))

pub is_listed : (s : State) (count : ℕ) (e : Explored) (answer : Answer) → Stands s e
    → IsRunsAnswerAt s count e answer
    → IsListed s count e answer
is_listed s count e answer stands is =
    let found = listed_at e.program s e.limit count e.from answer
    (λ c same. stands_whole e.program s e.limit c e.present e.marks e.points
    (subst (λ (from : Option
    (List Bool)). StandsFrom e.program s e.limit from e.present e.marks e.points) same stands.at_position)) is in
    record { runs = found.0; listing = found.1; shown_is = found.2 }

-- the answer is right if all of its text was written
pub wrote_all : (told : Bool) (s : State) (count : ℕ) (old new : Explored) (w w' : List ℕ) (says : Listed2)
    (answer : Answer) → told ≡ true
    → ((cs : List (List Bool)) → IsListingAt s old cs → Writes told s cs count old new w w' (Ok says))
    → IsListed s count old answer → Answers answer (Answered 0 Nothing) w w'
wrote_all told s count old new w w' says answer is_told writes is =
    let wrote = writes is.runs is.listing in
    subst (λ (a : Answer). Answers a (Answered 0 Nothing) w w') (sym is.shown_is) ((refl, refl), wrote.text is_told)

-- what was written behind w is a prefix of a text
behind : (w w' x text : List ℕ) → w' ≡ w ++ x → IsBeginning x text → (n : ℕ) × (w' ≡ w ++ take n text)
behind w w' x text e (n, h) = (n, e ∙ ap (λ t. w ++ t) h)

-- the count can't be full: as many runs as a number has, each of at most as many steps
never_full : (work limit count : ℕ) → limit < 2 ^ 32 → count < 2 ^ 32 → work ≤ limit →
    2 ^ 64 ≤ work + count * limit → ⊥
never_full work limit count small few fresh full =
    let most = mul-le count limit 4294967295 4294967295 (omega arith) (omega arith) in omega arith

pub wrote_cut : (told : Bool) (s : State) (count : ℕ) (old new : Explored) (w w' : List ℕ) (e : RunsError)
    (answer : Answer) → told ≡ true
    → (e ≡ WorkFull → 2 ^ 64 ≤ old.work + count * old.limit) → old.limit < 2 ^ 32 → count < 2 ^ 32
    → old.work ≤ old.limit
    → ((cs : List (List Bool)) → IsListingAt s old cs → Writes told s cs count old new w w' (Err e))
    → IsListed s count old answer → Answers answer (refused_job_end e) w w'
wrote_cut told s count old new w w' NoMemory answer is_told full small few fresh writes is =
    let wrote = writes is.runs is.listing in
    subst (λ (a : Answer). Answers a WithoutMemory w w') (sym is.shown_is) (
      tt,
      behind w w' _ _ (wrote.1.text is_told)
          (lines_begin old.program s old.limit is.runs count wrote.0 (let fewer = wrote.1.fewer in omega arith)),
    )
wrote_cut told s count old new w w' Write answer is_told full small few fresh writes is =
    let wrote = writes is.runs is.listing in
    subst (λ (a : Answer). Answers a WriteFailed w w') (sym is.shown_is) (
      tt,
      behind w w' _ _ (wrote.2.text is_told)
          (part_begins old.program s old.limit is.runs count wrote.0 wrote.1 wrote.2.within),
    )
wrote_cut told s count old new w w' WorkFull answer is_told full small few fresh writes is =
    absurd (never_full old.work old.limit count small few fresh (full refl))
wrote_cut told s count old new w w' Failed answer is_told full small few fresh writes is =
    absurd (writes is.runs is.listing)
wrote_cut told s count old new w w' NoSuchRun answer is_told full small few fresh writes is =
    absurd (writes is.runs is.listing)
wrote_cut told s count old new w w' BadCursor answer is_told full small few fresh writes is =
    absurd (writes is.runs is.listing)
wrote_cut told s count old new w w' Read answer is_told full small few fresh writes is =
    absurd (writes is.runs is.listing)

-- the one write that failed, or none; nothing was read
pub leaves_listing : (e : RunsError) (writes writes' : ℕ)
    → (e ≡ NoMemory) ⊎ ((e ≡ WorkFull) ⊎ ((e ≡ Write) ⊎ (e ≡ Failed)))
    → writes' ≡ writes + write_failures {T = Listed2} (Err e) → LeavesWriter (refused_job_end e) writes writes'
leaves_listing NoMemory writes writes' one h = record { proper = tt; opened = refl; read = refl; wrote = h }
leaves_listing NoSuchRun writes writes' one h = record { proper = inr refl; opened = refl; read = refl; wrote = h }
leaves_listing WorkFull writes writes' one h = record { proper = tt; opened = refl; read = refl; wrote = h }
leaves_listing Failed writes writes' one h = record { proper = tt; opened = refl; read = refl; wrote = h }
leaves_listing BadCursor writes writes' one h = record { proper = inr refl; opened = refl; read = refl; wrote = h }
leaves_listing Write writes writes' one h = record { proper = tt; opened = refl; read = refl; wrote = h }
leaves_listing Read writes writes' one h = absurd (grind arith)

-- the answer from a machine's state is the one at the position of its explorer
pub answer_placed : (m : Machine) (limit count : ℕ) (from : Option (List Bool)) (e : Explored) (answer : Answer)
    → IsPlaced m limit from e
    → IsRunsAnswer m.program m.state limit count from answer → IsRunsAnswerAt m.state count e answer
answer_placed m limit count from e answer placed is =
    subst (λ (f : Option (List Bool)). IsRunsAnswer e.program m.state e.limit count f answer) (sym placed.position)
    (subst (λ (l : ℕ). IsRunsAnswer e.program m.state l count from answer) (sym placed.limit_is)
    (subst (λ (p : Program). IsRunsAnswer p m.state limit count from answer) (sym placed.program) is))

-- a list that isn't whole has one answer
unplaced_by : (p : Program) (s : State) (l count : ℕ) (from : Option (List Bool)) (c : List Bool) (answer : Answer)
    → from ≡ Some c
    → ¬ IsWhole p s l c → IsRunsAnswer p s l count from answer
    → answer ≡ refusal 64 (notice_text NoSuchRun_line)
unplaced_by p s l count None c answer same not_whole (listed f cs position is) = cc
unplaced_by p s l count (Some d) c answer same not_whole (listed f cs position is) =
    let one : d ≡ c = cc in absurd (not_whole (subst (λ (x : List Bool). IsWhole p s l x) one position))
unplaced_by p s l count from c answer same not_whole (no_such_run d other) = refl

-- the answer where there is no explorer, by the job's end of its refusal
pub answers_unplaced : (m : Machine) (limit count : ℕ) (from : Option (List Bool)) (e : RunsError) (job_end : JobEnd)
    (before : List ℕ) (answer : Answer) → job_end ≡ refused_job_end e → IsUnplaced m limit from e
    → IsRunsAnswer m.program m.state limit count from answer → Answers answer job_end before before
answers_unplaced m limit count from NoMemory job_end before answer so h is =
    subst (λ (x : JobEnd). Answers answer x before before) (sym so) (tt, (0, sym (append-nil before)))
answers_unplaced m limit count from NoSuchRun job_end before answer so h is =
    subst (λ (x : JobEnd). Answers answer x before before) (sym so)
    (subst (λ (a : Answer). Answers a (refused_job_end NoSuchRun) before before)
    (sym (unplaced_by m.program m.state limit count from h.0 answer h.1 h.2 is))
    ((refl, refl), sym (append-nil before)))
answers_unplaced m limit count from WorkFull job_end before answer so h is = absurd h
answers_unplaced m limit count from Failed job_end before answer so h is = absurd h
answers_unplaced m limit count from BadCursor job_end before answer so h is = absurd h
answers_unplaced m limit count from Read job_end before answer so h is = absurd h
answers_unplaced m limit count from Write job_end before answer so h is = absurd h

pub leaves_unplaced : (m : Machine) (limit : ℕ) (from : Option (List Bool)) (e : RunsError) (job_end : JobEnd)
    (writes : ℕ) → job_end ≡ refused_job_end e → IsUnplaced m limit from e → LeavesWriter job_end writes writes
leaves_unplaced m limit from NoMemory job_end writes so h =
    subst (λ (x : JobEnd). LeavesWriter x writes writes) (sym so)
    (record { proper = tt; opened = refl; read = refl; wrote = omega arith })
leaves_unplaced m limit from NoSuchRun job_end writes so h =
    subst (λ (x : JobEnd). LeavesWriter x writes writes) (sym so)
    (record { proper = inr refl; opened = refl; read = refl; wrote = omega arith })
leaves_unplaced m limit from WorkFull job_end writes so h = absurd h
leaves_unplaced m limit from Failed job_end writes so h = absurd h
leaves_unplaced m limit from BadCursor job_end writes so h = absurd h
leaves_unplaced m limit from Read job_end writes so h = absurd h
leaves_unplaced m limit from Write job_end writes so h = absurd h

-- why a cursor has no explorer: the count of a machine that made no step is not full
not_full : (m : Machine) (limit : ℕ) → m.work ≡ 0 → limit < 2 ^ 32 → IsMachineFull m limit → ⊥
not_full m limit unworn small full = omega arith

pub is_unplaced : (m : Machine) (limit : ℕ) (from : Option (List Bool)) (c : List Bool) (e : RunsError) → from ≡ Some c
    → m.work ≡ 0 → limit < 2 ^ 32 → (e ≡ WorkFull → IsMachineFull m limit)
    → (e ≡ NoSuchRun → ¬ IsWhole m.program m.state limit c)
    → (e ≡ NoMemory) ⊎ ((e ≡ NoSuchRun) ⊎ (e ≡ WorkFull)) → IsUnplaced m limit from e
is_unplaced m limit from c e is unworn small full none (inl e_is) = subst (IsUnplaced m limit from) (sym e_is) tt
is_unplaced m limit from c e is unworn small full none (inr (inl e_is)) =
    subst (IsUnplaced m limit from) (sym e_is) (c, is, none e_is)
is_unplaced m limit from c e is unworn small full none (inr (inr e_is)) =
    absurd (not_full m limit unworn small (full e_is))

-- the errors that come of an explorer that was not made, and of one that was made here
pub unplaced_comes : (m : Machine) (limit : ℕ) (from : Option (List Bool)) (e : RunsError) → IsUnplaced m limit from e
    → Comes e
unplaced_comes m limit from NoMemory h = tt
unplaced_comes m limit from NoSuchRun h = tt
unplaced_comes m limit from WorkFull h = h
unplaced_comes m limit from Failed h = h
unplaced_comes m limit from BadCursor h = tt
unplaced_comes m limit from Read h = tt
unplaced_comes m limit from Write h = tt

pub listing_comes : (work limit count : ℕ) (e : RunsError) → limit < 2 ^ 32 → count < 2 ^ 32 → work ≤ limit
    → (e ≡ WorkFull → 2 ^ 64 ≤ work + count * limit) → (e ≡ Failed → ⊥) → Comes e
listing_comes work limit count NoMemory small few fresh full failed = tt
listing_comes work limit count NoSuchRun small few fresh full failed = tt
listing_comes work limit count WorkFull small few fresh full failed =
    never_full work limit count small few fresh (full refl)
listing_comes work limit count Failed small few fresh full failed = failed refl
listing_comes work limit count BadCursor small few fresh full failed = tt
listing_comes work limit count Read small few fresh full failed = tt
listing_comes work limit count Write small few fresh full failed = tt

-- the answer of a machine that was made is the one from the state that it stands in
pub answer_from : (m made : Machine) (limit count : ℕ) (from : Option (List Bool)) (answer : Answer) → m ≡ made
    → IsRunsAnswer made.program made.state limit count from answer
    → IsRunsAnswer m.program m.state limit count from answer
answer_from m made limit count from answer same is =
    subst (λ (x : Machine). IsRunsAnswer x.program x.state limit count from answer) (sym same) is
