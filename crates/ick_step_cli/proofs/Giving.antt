-- What a job's end gives: an answer, or a prefix of an output that was begun.
use Rattle.std.proofs.Common.{◌≡◌, ◌∙◌, ◌+◌, ◌<◌, ◌≤◌, ◌==◌, if◌then◌else◌, ℕ, Bool, true, false, List, []}
use Rattle.std.proofs.Common.{Option, Some, None, ap, arith, refl, subst, sym, length, take, ne_eqb, eq-eqb}
use Rattle.std.proofs.lemmas.List.{append-nil, length-take, take_all}
use Rattle.clap.specs.Words.{Text}
use Rattle.ick_bits.specs.Faults.{message_of}
use Rattle.ick_source.specs.RefusalAnswers.{Refuses}
use Rattle.ick_source.specs.Refusals.{Compiles, longest}
use Rattle.ick_source.specs.declared.refusals.Refusal.{Refusal}
use Rattle.ick_source.specs.declared.refusals.Refusal.TheVariants as refusal
use Rattle.ick_backtrack.specs.Machine.{Program}
use Rattle.ick_job.specs.Answer.{Answer, refusal as refused_by}
use Rattle.ick_job.specs.Input.{EndsUnopened, longest_input}
use Rattle.ick_job.specs.JobEnd.{EndsBy, EndsByLine, failed_files, source_of}
use Rattle.ick_job.specs.Notice.{notice_text}
use Rattle.ick_job.specs.Refusing.{EndsRefused}
use Rattle.ick_job.specs.declared.job_end.JobEnd.{JobEnd}
use Rattle.ick_job.specs.declared.job_end.JobEnd.TheVariants.{Answered, NoMemory, InputTooLong, FileNotRead, ReadFailed}
use Rattle.ick_job.specs.declared.job_end.JobEnd.TheVariants.{WriteFailed}
use Rattle.ick_job.specs.declared.notice.Message.TheVariants as message
use Rattle.ick_job.specs.declared.notice.Notice.{Notice}
use Rattle.ick_job.specs.declared.notice.Notice.TheVariants as notice
use Rattle.ick_runs.specs.Chosen.{Chosen}
use Rattle.ick_step_cli.specs.Job.{Wanted}
use Rattle.ick_step_cli.specs.Plan.{AreGivenBy, Planned, with_choices}
use Rattle.ick_step_cli.specs.Serve.{EndsUnread, Gives, IsCutShort, unwritten, written}
use Rattle.ick_step_cli.specs.Talk.{Lines, typed}
use Rattle.ick_step_cli.specs.Tool.{IsReadAnswer, IsReadBegun, IsSourceAnswer, IsSourceBegun, IsStepAnswer, IsStepBegun}
use Rattle.ick_step_cli.specs.Tool.{input_not_read, input_of, planned}
use Rattle.ick_step_cli.specs.Tool.{input_too_long, lines_by, not_read, read, read_begun, refused, too_long, compiled}

-- other answers, and other outputs
cut_so : {X Y : List ℕ → Type 0} (before after : List ℕ) → ((text : List ℕ) → X text → Y text) →
    IsCutShort X before after → IsCutShort Y before after
cut_so before after so (unwritten e) = unwritten e
cut_so before after so (written text n is e) = written text n (so text is) e

pub gives_so : {A B : Answer → Type 0} {X Y : List ℕ → Type 0} (job_end : JobEnd) (before after : List ℕ) →
    ((answer : Answer) → A answer → B answer) → ((text : List ℕ) → X text → Y text) →
    Gives A X job_end before after → Gives B Y job_end before after
gives_so (Answered status text) before after so begun h = (h.0, so h.0 h.1, h.2)
gives_so InputTooLong before after so begun h = (h.0, so h.0 h.1, h.2)
gives_so FileNotRead before after so begun h = (h.0, so h.0 h.1, h.2)
gives_so NoMemory before after so begun h = cut_so before after begun h
gives_so ReadFailed before after so begun h = cut_so before after begun h
gives_so WriteFailed before after so begun h = cut_so before after begun h

-- an answer without output
pub gives_refusal : (A : Answer → Type 0) (X : List ℕ → Type 0) (status : ℕ) (text : List ℕ) (job_end : JobEnd)
    (before : List ℕ) → EndsBy status text job_end → A (refused_by status text) → Gives A X job_end before before
gives_refusal A X status text (Answered given said) before h is = (refused_by status text, is, (h, sym (append-nil before)))
gives_refusal A X status text NoMemory before h is = unwritten refl
gives_refusal A X status text InputTooLong before h is = absurd h
gives_refusal A X status text FileNotRead before h is = absurd h
gives_refusal A X status text ReadFailed before h is = absurd h
gives_refusal A X status text WriteFailed before h is = absurd h

-- .. that is a line of usage
pub gives_line : (A : Answer → Type 0) (X : List ℕ → Type 0) (IsLine : Notice → Type 0) (job_end : JobEnd)
    (before : List ℕ) → EndsByLine IsLine job_end →
    ((line : Notice) → IsLine line → A (refused_by 64 (notice_text line))) → Gives A X job_end before before
gives_line A X IsLine (Answered status (message.Notice line)) before h is =
    (refused_by 64 (notice_text line), is line h.1, ((h.0, refl), sym (append-nil before)))
gives_line A X IsLine (Answered status message.Nothing) before h is = absurd h
gives_line A X IsLine (Answered status (message.Text text)) before h is = absurd h
gives_line A X IsLine NoMemory before h is = unwritten refl
gives_line A X IsLine InputTooLong before h is = absurd h
gives_line A X IsLine FileNotRead before h is = absurd h
gives_line A X IsLine ReadFailed before h is = absurd h
gives_line A X IsLine WriteFailed before h is = absurd h

-- a source that is refused
pub gives_refused : (X : List ℕ → Type 0) (p : Planned) (input : Option (List ℕ)) (lines : Lines)
    (source : List ℕ) (why : Refusal) (job_end : JobEnd) (before : List ℕ) → Refuses source why →
    EndsRefused why job_end → Gives (IsSourceAnswer p input lines source) X job_end before before
gives_refused X p input lines source (refusal.Fault kind n) job_end before is ends =
    gives_refusal (IsSourceAnswer p input lines source) X 2 (message_of kind n []) job_end before ends (refused kind n is.refused)
gives_refused X p input lines source refusal.TooLong job_end before long ends =
    subst (λ (e : JobEnd). Gives (IsSourceAnswer p input lines source) X e before before) (sym ends)
    (_, too_long long, ((refl, refl), sym (append-nil before)))
gives_refused X p input lines source refusal.NoMemory job_end before is ends =
    subst (λ (e : JobEnd). Gives (IsSourceAnswer p input lines source) X e before before) (sym ends) (unwritten refl)

-- an input that was read
all_of_front : (most : ℕ) (front whole : List ℕ) → front ≡ take (most + 1) whole → length front ≤ most → front ≡ whole
all_of_front most front whole is short =
    let size = ap (λ (t : List ℕ). length t) is ∙ length-take (most + 1) whole in
    is ∙ take_all (most + 1) whole (omega arith)

abbrev pub read_if : ℕ → ℕ → List ℕ → Option (List ℕ)
read_if failed failed' bytes = if failed == failed' then Some bytes else None

was_read : (failed failed' : ℕ) (bytes : List ℕ) → failed' ≡ failed → Some bytes ≡ read_if failed failed' bytes
was_read failed failed' bytes same =
    let unfailed : (failed == failed') ≡ true = eq-eqb failed failed' (sym same) in
    ap (λ (b : Bool). if b then Some bytes else None) (sym unfailed)

not_read_if : (failed failed' : ℕ) (bytes : List ℕ) → failed' ≡ failed + 1 → read_if failed failed' bytes ≡ None
not_read_if failed failed' bytes more =
    let other : (failed == failed') ≡ false = ne_eqb failed failed' (λ e. omega arith) in
    ap (λ (b : Bool). if b then Some bytes else None) other

pub input_read : (name : Option Text) (n : Text) (named : List ℕ → List ℕ) (failed failed' : ℕ) (bytes : List ℕ) →
    name ≡ Some n → failed' ≡ failed → bytes ≡ take (longest + 1) (named n) → length bytes ≤ 1048576 →
    Some bytes ≡ input_of name named failed failed'
input_read name n named failed failed' bytes is same front fits =
    let all : bytes ≡ named n = all_of_front 1048576 bytes (named n) front fits in
    ap (λ (b : List ℕ). Some b) all
    ∙ (was_read failed failed' (named n) same
    ∙ sym (ap (λ (m : Option Text). input_of m named failed failed') is))

pub input_long : (name : Option Text) (n : Text) (named : List ℕ → List ℕ) (bytes : List ℕ) → name ≡ Some n →
    bytes ≡ take (longest + 1) (named n) → 1048576 < length bytes → EndsUnread name named InputTooLong
unfolding longest_input
input_long name n named bytes is front long =
    let size = ap (λ (t : List ℕ). length t) front ∙ length-take (longest + 1) (named n) in
    let more : 1048576 < length (named n) = omega arith in
    subst (λ (m : Option Text). EndsUnread m named InputTooLong) (sym is) more

-- .. and one that wasn't
pub gives_unread : (X : List ℕ → Type 0) (p : Planned) (name : Option Text) (named : List ℕ → List ℕ)
    (failed failed' : ℕ) (lines : Lines) (source : List ℕ) (program : Program) (job_end : JobEnd)
    (before : List ℕ) → Compiles source program → EndsUnread name named job_end →
    failed' ≡ failed + failed_files job_end →
    Gives (IsSourceAnswer p (input_of name named failed failed') lines source) X job_end before before
gives_unread X p None named failed failed' lines source program FileNotRead before compiles h count = absurd (cc)
gives_unread X p (Some n) named failed failed' lines source program FileNotRead before compiles h count = (
  _,
  input_not_read program compiles (not_read_if failed failed' (named n) count),
  ((refl, refl), sym (append-nil before)),
)
gives_unread X p None named failed failed' lines source program InputTooLong before compiles h count = absurd h
gives_unread X p (Some n) named failed failed' lines source program InputTooLong before compiles h count =
    let same : failed' ≡ failed = omega arith in (
      _,
      input_too_long program (named n) compiles (sym (was_read failed failed' (named n) same)) h,
      ((refl, refl), sym (append-nil before)),
    )
gives_unread X p name named failed failed' lines source program NoMemory before compiles h count = unwritten refl
gives_unread X p name named failed failed' lines source program ReadFailed before compiles h count = absurd h
gives_unread X p name named failed failed' lines source program WriteFailed before compiles h count = absurd h
gives_unread X p name named failed failed' lines source program (Answered status text) before compiles h count = absurd h

-- the front of a source has the answer of the whole, since it is long enough to show what is too long
whole_front : (most : ℕ) (source : List ℕ) → longest < most → length (take most source) ≤ longest →
    take most source ≡ source
whole_front most source long fits = let size = length-take most source in take_all most source (omega arith)

pub answer_of_front : (p : Planned) (input : Option (List ℕ)) (lines : Lines) (source front : List ℕ)
    (answer : Answer) → front ≡ take (longest + 1) source → IsSourceAnswer p input lines front answer →
    IsSourceAnswer p input lines source answer
answer_of_front p input lines source front answer is (too_long h) =
    too_long (let size = ap (λ (t : List ℕ). length t) is ∙ length-take (longest + 1) source in omega arith)
answer_of_front p input lines source front answer is (refused kind n h) =
    subst (λ (t : List ℕ). IsSourceAnswer p input lines t answer)
    (all_of_front longest front source is (let fits = h.fits in fits)) (refused kind n h)
answer_of_front p input lines source front answer is (input_not_read program h none) =
    subst (λ (t : List ℕ). IsSourceAnswer p input lines t answer)
    (all_of_front longest front source is (let fits = h.fits in fits)) (input_not_read program h none)
answer_of_front p input lines source front answer is (input_too_long program bytes h some long) =
    subst (λ (t : List ℕ). IsSourceAnswer p input lines t answer)
    (all_of_front longest front source is (let fits = h.fits in fits)) (input_too_long program bytes h some long)
answer_of_front p input lines source front answer is (compiled program bytes positions given h some fits placed run) =
    subst (λ (t : List ℕ). IsSourceAnswer p input lines t answer)
    (all_of_front longest front source is (let within = h.fits in within))
    (compiled program bytes positions given h some fits placed run)

pub begun_of_front : (p : Planned) (input : Option (List ℕ)) (lines : Lines) (source front text : List ℕ) →
    front ≡ take (longest + 1) source → IsSourceBegun p input lines front text →
    IsSourceBegun p input lines source text
begun_of_front p input lines source front text is h =
    subst (λ (t : List ℕ). IsSourceBegun p input lines t text)
    (all_of_front longest front source is (let compiles = h.compiles in compiles.fits)) h

-- the answer to a job that names a file, and to one that names none
gives_of_front : (p : Planned) (input : Option (List ℕ)) (lines : Lines) (source front : List ℕ)
    (job_end : JobEnd) (before after : List ℕ) → front ≡ take (longest + 1) source →
    Gives (IsSourceAnswer p input lines front) (IsSourceBegun p input lines front) job_end before after →
    Gives (IsReadAnswer p input lines (Some source)) (IsReadBegun p input lines (Some source)) job_end before after
gives_of_front p input lines source front job_end before after is h =
    gives_so job_end before after
    (λ answer answers. read source answer (answer_of_front p input lines source front answer is answers))
    (λ text begun. read_begun source text (begun_of_front p input lines source front text is begun)) h

pub with_file : (terminal : Bool) (p : Planned) (input : Option (List ℕ)) (file : Option Text) (name : Text)
    (named : List ℕ → List ℕ) (failed failed' : ℕ) (left front : List ℕ) (job_end : JobEnd) (before after : List ℕ) → file ≡ Some name →
    failed' ≡ failed → front ≡ take (longest + 1) (named name) →
    Gives (IsSourceAnswer p input (typed terminal left) front) (IsSourceBegun p input (typed terminal left) front)
    job_end before after →
    Gives (IsReadAnswer p input (lines_by terminal file left) (source_of file named failed failed' left))
    (IsReadBegun p input (lines_by terminal file left) (source_of file named failed failed' left)) job_end before after
with_file terminal p input file name named failed failed' left front job_end before after is same fronts h =
    subst (λ (f : Option Text).
    Gives (IsReadAnswer p input (lines_by terminal f left) (source_of f named failed failed' left))
    (IsReadBegun p input (lines_by terminal f left) (source_of f named failed failed' left)) job_end before after)
    (sym is)
    (subst (λ (s : Option (List ℕ)). Gives (IsReadAnswer p input (typed terminal left) s)
    (IsReadBegun p input (typed terminal left) s) job_end before after) (was_read failed failed' (named name) same)
    (gives_of_front p input (typed terminal left) (named name) front job_end before after fronts h))

pub without_file : (terminal : Bool) (p : Planned) (input : Option (List ℕ)) (file : Option Text)
    (named : List ℕ → List ℕ) (failed failed' : ℕ) (left front nothing : List ℕ) (job_end : JobEnd) (before after : List ℕ) → file ≡ None →
    nothing ≡ [] → front ≡ take (longest + 1) left →
    Gives (IsSourceAnswer p input (typed false nothing) front) (IsSourceBegun p input (typed false nothing) front)
    job_end before after →
    Gives (IsReadAnswer p input (lines_by terminal file left) (source_of file named failed failed' left))
    (IsReadBegun p input (lines_by terminal file left) (source_of file named failed failed' left)) job_end before after
without_file terminal p input file named failed failed' left front nothing job_end before after is none fronts h =
    subst (λ (f : Option Text).
    Gives (IsReadAnswer p input (lines_by terminal f left) (source_of f named failed failed' left))
    (IsReadBegun p input (lines_by terminal f left) (source_of f named failed failed' left)) job_end before after)
    (sym is)
    (gives_of_front p input (typed false []) left front job_end before after fronts
    (subst (λ (l : List ℕ). Gives (IsSourceAnswer p input (typed false l) front)
    (IsSourceBegun p input (typed false l) front) job_end before after) none h))

pub unopened_file : (terminal : Bool) (p : Planned) (input : Option (List ℕ)) (file : Option Text) (name : Text)
    (named : List ℕ → List ℕ) (failed failed' : ℕ) (left : List ℕ) (job_end : JobEnd) (before : List ℕ) →
    file ≡ Some name → EndsUnopened job_end → failed' ≡ failed + failed_files job_end →
    Gives (IsReadAnswer p input (lines_by terminal file left) (source_of file named failed failed' left))
    (IsReadBegun p input (lines_by terminal file left) (source_of file named failed failed' left)) job_end before before
unopened_file terminal p input file name named failed failed' left FileNotRead before is h count =
    let none : source_of file named failed failed' left ≡ None =
    ap (λ (f : Option Text). source_of f named failed failed' left) is
    ∙ not_read_if failed failed' (named name) count in (
      _,
      subst (λ (s : Option (List ℕ)).
          IsReadAnswer p input (lines_by terminal file left) s (refused_by 4 (notice_text notice.FileNotRead)))
          (sym none) not_read,
      ((refl, refl), sym (append-nil before)),
    )
unopened_file terminal p input file name named failed failed' left NoMemory before is h count = unwritten refl
unopened_file terminal p input file name named failed failed' left InputTooLong before is h count = absurd h
unopened_file terminal p input file name named failed failed' left (Answered status text) before is h count = absurd h
unopened_file terminal p input file name named failed failed' left ReadFailed before is h count = absurd h
unopened_file terminal p input file name named failed failed' left WriteFailed before is h count = absurd h

-- the answer to a job by its plan
pub planned_gives : (w : Wanted) (p : Planned) (chosen : Chosen) (named : List ℕ → List ℕ) (failed failed' : ℕ)
    (lines : Lines) (source : Option (List ℕ)) (job_end : JobEnd) (before after : List ℕ) →
    AreGivenBy w.choices w.seed chosen → p ≡ with_choices w chosen →
    Gives (IsReadAnswer p (input_of p.input named failed failed') lines source)
    (IsReadBegun p (input_of p.input named failed failed') lines source) job_end before after →
    Gives (IsStepAnswer w (input_of w.input named failed failed') lines source)
    (IsStepBegun w (input_of w.input named failed failed') lines source) job_end before after
planned_gives w p chosen named failed failed' lines source job_end before after given is h =
    gives_so job_end before after (λ answer answers. planned chosen answer given answers)
    (λ text begun. record { chosen = chosen; given = given; is = begun })
    (subst (λ (q : Planned). Gives (IsReadAnswer q (input_of q.input named failed failed') lines source)
    (IsReadBegun q (input_of q.input named failed failed') lines source) job_end before after) is h)
