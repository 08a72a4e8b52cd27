-- What a job's end gives, and the counts that it leaves.
use Rattle.std.proofs.Common.{◌≡◌, ◌∙◌, ◌+◌, ◌<◌, ◌≤◌, ◌==◌, if◌then◌else◌, ℕ, Bool, true, false, List, [], ◌∷◌, ◌++◌}
use Rattle.std.proofs.Common.{Option, Some, None, ap, arith, refl, subst, sym, inl, inr, length, drop, take, ne_eqb, eq-eqb}
use Rattle.std.specs.Prelude.{Result, Ok, Err}
use Rattle.std.proofs.lemmas.List.{append-nil, length-take, take_all}
use Rattle.ick_bits.specs.Faults.{message_of}
use Rattle.ick_bits.specs.declared.faults.FaultKind.{FaultKind}
use Rattle.ick_source.specs.declared.all_faults.FaultAt.{FaultAt}
use Rattle.ick_source.specs.declared.statements.Listed.{Listed}
use Rattle.ick_source.specs.Listed.{IsAnsweredBy, IsListed, RefusesToList}
use Rattle.ick_source.specs.RefusalAnswers.{Refuses}
use Rattle.ick_source.specs.Refusals.{longest}
use Rattle.ick_source.specs.declared.refusals.Refusal.{Refusal}
use Rattle.ick_source.specs.declared.refusals.Refusal.TheVariants as refusal
use Rattle.ick_job.specs.JobEnd.{EndsBy, Leaves, LeavesWriter, failed_files, source_of}
use Rattle.ick_job.specs.Input.{EndsCut, EndsUnopened}
use Rattle.ick_job.specs.Notice.{notice_text}
use Rattle.ick_job.specs.Refusing.{EndsRefused}
use Rattle.ick_job.specs.Answer.{Answer, shown, refusal as refused_by}
use Rattle.ick_job.specs.declared.job_end.JobEnd.{JobEnd}
use Rattle.ick_job.specs.declared.job_end.JobEnd.TheVariants.{Answered, NoMemory, InputTooLong, FileNotRead, ReadFailed}
use Rattle.ick_job.specs.declared.job_end.JobEnd.TheVariants.{WriteFailed}
use Rattle.ick_job.specs.declared.notice.Notice.TheVariants as notice
use Rattle.ick_job.proofs.Ends.{leaves_as, leaves_by}
use Rattle.ick_syntax.specs.StatementTree.{StatementTree}
use Rattle.ick_explorer.specs.Writes.{write_failures}
use Rattle.ick_explorer.specs.declared.errors.RunsError.{RunsError}
use Rattle.ick_explorer.specs.declared.errors.RunsError.TheVariants as error
use Rattle.ick_stages.specs.Lines.{WritesLines}
use Rattle.ick_stages.specs.declared.stages.Asked.{Asked}
use Rattle.ick_stages_cli.specs.Gives.{Gives, end_by}
use Rattle.ick_stages_cli.specs.Job.{Wanted}
use Rattle.ick_stages_cli.specs.Program.{left_by}
use Rattle.ick_stages_cli.specs.Tool.{AreShown, IsSomehowRefused, IsSourceAnswer, IsStagesAnswer, MayShow, compiled}
use Rattle.ick_stages_cli.specs.Tool.{lines_listed, lines_of, listed, no_line, not_read, nothing, of_source, read, too_long}

-- other answers, and other lines
pub gives_so : {A B : Answer → Type 0} {L M : List ℕ → Type 0} (job_end : JobEnd) (before after : List ℕ)
    → ((answer : Answer) → A answer → B answer) → ((lines : List ℕ) → L lines → M lines)
    → Gives A L job_end before after → Gives B M job_end before after
gives_so (Answered status text) before after so lines h = (h.0, so h.0 h.1, h.2)
gives_so InputTooLong before after so lines h = absurd h
gives_so FileNotRead before after so lines h = (h.0, so h.0 h.1, h.2)
gives_so WriteFailed before after so lines h = (h.0, lines h.0 h.1, h.2, h.3)
gives_so NoMemory before after so lines h = (h.0, lines h.0 h.1, h.2)
gives_so ReadFailed before after so lines h = h

-- an answer without output
pub gives_refusal : (A : Answer → Type 0) (L : List ℕ → Type 0) (status : ℕ) (text : List ℕ) (job_end : JobEnd)
    (before : List ℕ) → EndsBy status text job_end → A (refused_by status text) → L [] → Gives A L job_end before before
gives_refusal A L status text (Answered given said) before h is none =
    (refused_by status text, is, (h, sym (append-nil before)))
gives_refusal A L status text NoMemory before h is none = ([], none, sym (append-nil before))
gives_refusal A L status text InputTooLong before h is none = absurd h
gives_refusal A L status text FileNotRead before h is none = absurd h
gives_refusal A L status text ReadFailed before h is none = absurd h
gives_refusal A L status text WriteFailed before h is none = absurd h

-- an answer whose lines are written
pub gives_lines : {T : Type 0} (A : Answer → Type 0) (All L : List ℕ → Type 0) (before after : List ℕ)
    (result : Result T RunsError) (job_end : JobEnd) → job_end ≡ end_by result
    → ((text : List ℕ) → All text → A (shown text)) → WritesLines All L before after result
    → Gives A L job_end before after
gives_lines {T} A All L before after result job_end is so written =
    subst (λ (e : JobEnd). Gives A L e before after) (sym is) (by_result result written)
  where
    by_result : (r : Result T RunsError) → WritesLines All L before after r → Gives A L (end_by r) before after
    by_result (Ok _) h = (shown h.0, so h.0 h.1, ((refl, refl), h.2))
    by_result (Err error.NoMemory) h = h
    by_result (Err error.Write) h = h
    by_result (Err error.NoSuchRun) h = absurd h
    by_result (Err error.WorkFull) h = absurd h
    by_result (Err error.Failed) h = absurd h
    by_result (Err error.BadCursor) h = absurd h
    by_result (Err error.Read) h = absurd h

-- an answer whose lines could not be written
pub gives_failed : (T : Type 0) (A : Answer → Type 0) (All L : List ℕ → Type 0) (before after : List ℕ)
    (e : RunsError) (job_end : JobEnd) → job_end ≡ end_by {T = T} (Err e)
    → WritesLines {T = T} All L before after (Err e) → Gives A L job_end before after
gives_failed T A All L before after e job_end is written =
    subst (λ (e : JobEnd). Gives A L e before after) (sym is) (by_error e written)
  where
    by_error : (e : RunsError) → WritesLines {T = T} All L before after (Err e)
        → Gives A L (end_by {T = T} (Err e)) before after
    by_error error.NoMemory h = h
    by_error error.Write h = h
    by_error error.NoSuchRun h = absurd h
    by_error error.WorkFull h = absurd h
    by_error error.Failed h = absurd h
    by_error error.BadCursor h = absurd h
    by_error error.Read h = absurd h

-- a message behind all lines
pub gives_message : (A : Answer → Type 0) (L : List ℕ → Type 0) (status : ℕ) (message text : List ℕ) (job_end : JobEnd)
    (before after : List ℕ) → EndsBy status message job_end
    → A (record { output = text; errors = message; status = status }) → L text → after ≡ before ++ text
    → Gives A L job_end before after
gives_message A L status message text (Answered given said) before after h is whole written =
    (record { output = text; errors = message; status = status }, is, (h, written))
gives_message A L status message text NoMemory before after h is whole written = (text, whole, written)
gives_message A L status message text InputTooLong before after h is whole written = absurd h
gives_message A L status message text FileNotRead before after h is whole written = absurd h
gives_message A L status message text ReadFailed before after h is whole written = absurd h
gives_message A L status message text WriteFailed before after h is whole written = absurd h

pub leaves_written : {T : Type 0} (result : Result T RunsError) (job_end : JobEnd) (w w' : ℕ) → job_end ≡ end_by result
    → w' ≡ w + write_failures result → LeavesWriter job_end w w'
leaves_written {T} result job_end w w' is count =
    subst (λ (e : JobEnd). LeavesWriter e w w') (sym is) (by_result result count)
  where
    nothing_left : w' ≡ w + 0 → LeavesWriter NoMemory w w'
    nothing_left same = record { proper = tt; opened = refl; read = refl; wrote = same }

    by_result : (r : Result T RunsError) → w' ≡ w + write_failures r → LeavesWriter (end_by r) w w'
    by_result (Ok _) same = record { proper = inl (omega arith); opened = refl; read = refl; wrote = same }
    by_result (Err error.Write) same = record { proper = tt; opened = refl; read = refl; wrote = same }
    by_result (Err error.NoMemory) same = nothing_left same
    by_result (Err error.NoSuchRun) same = nothing_left same
    by_result (Err error.WorkFull) same = nothing_left same
    by_result (Err error.Failed) same = nothing_left same
    by_result (Err error.BadCursor) same = nothing_left same
    by_result (Err error.Read) same = nothing_left same

-- a source that is refused without lines
pub gives_refused : (asked : Asked) (source : List ℕ) (why : Refusal) (job_end : JobEnd) (before : List ℕ) →
    RefusesToList source why → EndsRefused why job_end
    → Gives (IsSourceAnswer asked source) (AreShown asked source) job_end before before
gives_refused asked source (refusal.Fault kind n) job_end before is ends = absurd is
gives_refused asked source refusal.TooLong job_end before long ends =
    subst (λ (e : JobEnd). Gives (IsSourceAnswer asked source) (AreShown asked source) e before before) (sym ends)
    (_, too_long long, ((refl, refl), sym (append-nil before)))
gives_refused asked source refusal.NoMemory job_end before is ends =
    subst (λ (e : JobEnd). Gives (IsSourceAnswer asked source) (AreShown asked source) e before before) (sym ends)
    ([], no_line, sym (append-nil before))

-- a refusal that is no fault
pub refuses_so : (source : List ℕ) (why : Refusal) → ((kind : FaultKind) (n : ℕ) → why ≡ refusal.Fault kind n → ⊥) →
    Refuses source why → RefusesToList source why
refuses_so source (refusal.Fault kind n) never is = absurd (never kind n refl)
refuses_so source refusal.TooLong never is = is
refuses_so source refusal.NoMemory never is = is

-- the fault of a refusal
pub somehow : (source : List ℕ) (why : Refusal) (kind : FaultKind) (n : ℕ) → why ≡ refusal.Fault kind n →
    Refuses source why → IsSomehowRefused source
somehow source (refusal.Fault k m) kind n e is = (k, m, is.refused)
somehow source refusal.TooLong kind n e is = absurd cc
somehow source refusal.NoMemory kind n e is = absurd cc

-- a file that was not read
abbrev pub read_if : ℕ → ℕ → List ℕ → Option (List ℕ)
read_if failed failed' bytes = if failed == failed' then Some bytes else None

pub gives_unopened : (A : Option (List ℕ) → Answer → Type 0) (L : List ℕ → Type 0) (bytes : List ℕ) (failed failed' : ℕ)
    (job_end : JobEnd) (before : List ℕ) → EndsUnopened job_end → failed' ≡ failed + failed_files job_end
    → A None (refused_by 4 (notice_text notice.FileNotRead)) → L []
    → Gives (A (read_if failed failed' bytes)) L job_end before before
gives_unopened A L bytes failed failed' FileNotRead before h count is none =
    let other : (failed == failed') ≡ false = ne_eqb failed failed' (λ e. omega arith) in (
      _,
      subst (λ (b : Bool). A (if b then Some bytes else None) (refused_by 4 (notice_text notice.FileNotRead)))
          (sym other) is,
      ((refl, refl), sym (append-nil before)),
    )
gives_unopened A L bytes failed failed' NoMemory before h count is none = ([], none, sym (append-nil before))
gives_unopened A L bytes failed failed' InputTooLong before h count is none = absurd h
gives_unopened A L bytes failed failed' (Answered status text) before h count is none = absurd h
gives_unopened A L bytes failed failed' ReadFailed before h count is none = absurd h
gives_unopened A L bytes failed failed' WriteFailed before h count is none = absurd h

-- .. and one that was read
was_read : (failed failed' : ℕ) (bytes : List ℕ) → failed' ≡ failed → Some bytes ≡ read_if failed failed' bytes
was_read failed failed' bytes same =
    let unfailed : (failed == failed') ≡ true = eq-eqb failed failed' (sym same) in
    ap (λ (b : Bool). if b then Some bytes else None) (sym unfailed)

-- the front of a source has the answer of the whole, where it is long enough to show what is too long
whole_front : (most : ℕ) (source : List ℕ) → longest < most → length (take most source) ≤ longest
    → take most source ≡ source
whole_front most source long fits = let size = length-take most source in take_all most source (omega arith)

by_answer : (text : List ℕ) (trees : List StatementTree) (faults : List FaultAt) → IsAnsweredBy text trees faults →
    length text ≤ longest
by_answer text trees [] h = h.fits
by_answer text trees (first ∷ others) h = h.fits

listed_fits : {text : List ℕ} {x : Listed} → IsListed text x → length text ≤ longest
listed_fits {text} {x} h = by_answer text h.trees x.faults.items h.answer

pub source_of_front : (asked : Asked) (most : ℕ) (source : List ℕ) → longest < most
    → (answer : Answer) → IsSourceAnswer asked (take most source) answer → IsSourceAnswer asked source answer
source_of_front asked most source long answer (too_long h) =
    too_long (let size = length-take most source in omega arith)
source_of_front asked most source long answer (listed x given h may is) =
    subst (λ (t : List ℕ). IsSourceAnswer asked t answer) (whole_front most source long (listed_fits h))
    (listed x answer h may is)
source_of_front asked most source long answer (compiled code given needs h law is) =
    subst (λ (t : List ℕ). IsSourceAnswer asked t answer) (whole_front most source long h.fits)
    (compiled code answer needs h law is)

pub shown_of_front : (asked : Asked) (most : ℕ) (source : List ℕ) → longest < most
    → (lines : List ℕ) → AreShown asked (take most source) lines → AreShown asked source lines
shown_of_front asked most source long lines no_line = no_line
shown_of_front asked most source long lines (lines_of code given h law are) =
    subst (λ (t : List ℕ). AreShown asked t lines) (whole_front most source long h.fits) (lines_of code lines h law are)
shown_of_front asked most source long lines (lines_listed x given h are) =
    subst (λ (t : List ℕ). AreShown asked t lines) (whole_front most source long (listed_fits h))
    (lines_listed x lines h are)

-- a job's end that leaves everything as it was
pub leaves_nothing : (f r w : ℕ) → Leaves NoMemory f f r r w w
leaves_nothing f r w = record { proper = tt; opened = omega arith; read = omega arith; wrote = omega arith }

pub leaves_refused : (why : Refusal) (job_end : JobEnd) (f r w : ℕ) → EndsRefused why job_end
    → Leaves job_end f f r r w w
leaves_refused (refusal.Fault kind n) job_end f r w ends =
    leaves_as job_end 0 0 0 0 0 0 f f r r w w (leaves_by 2 (message_of kind n []) job_end 0 0 0 0 (omega arith) ends refl refl)
    (omega arith) (omega arith) (omega arith)
leaves_refused refusal.TooLong job_end f r w ends =
    subst (λ (e : JobEnd). Leaves e f f r r w w) (sym ends)
    (record { proper = inl (omega arith); opened = omega arith; read = omega arith; wrote = omega arith })
leaves_refused refusal.NoMemory job_end f r w ends =
    subst (λ (e : JobEnd). Leaves e f f r r w w) (sym ends) (leaves_nothing f r w)

-- a job's end by status 64, or because memory ran out
pub leaves_usage : (text : List ℕ) (job_end : JobEnd) (f r w : ℕ) → EndsBy 64 text job_end
    → Leaves job_end f f r r w w
leaves_usage text (Answered status said) f r w h = record {
  proper = inr h.0;
  opened = omega arith;
  read = omega arith;
  wrote = omega arith;
}
leaves_usage text NoMemory f r w h = leaves_nothing f r w
leaves_usage text InputTooLong f r w h = absurd h
leaves_usage text FileNotRead f r w h = absurd h
leaves_usage text ReadFailed f r w h = absurd h
leaves_usage text WriteFailed f r w h = absurd h

-- the answer to a job that names a file, and to one that names none
pub read_with_file : (w : Wanted) (asked : Asked) (file : Option (List ℕ)) (name : List ℕ) (named : List ℕ → List ℕ)
    (failed failed' : ℕ) (left front : List ℕ) (answer : Answer) → w.asked ≡ asked → file ≡ Some name
    → failed' ≡ failed → front ≡ take (longest + 1) (named name) → IsSourceAnswer asked front answer
    → IsStagesAnswer w (source_of file named failed failed' left) answer
read_with_file w asked file name named failed failed' left front answer own is same fronts h =
    subst (λ (f : Option (List ℕ)). IsStagesAnswer w (source_of f named failed failed' left) answer) (sym is)
    (subst (λ (s : Option (List ℕ)). IsStagesAnswer w s answer) (was_read failed failed' (named name) same)
    (read (named name) answer (subst (λ (a : Asked). IsSourceAnswer a (named name) answer) (sym own)
    (source_of_front asked (longest + 1) (named name) (omega arith) answer
    (subst (λ (s : List ℕ). IsSourceAnswer asked s answer) fronts h)))))

pub unread_with_file : (w : Wanted) (file : Option (List ℕ)) (name : List ℕ) (named : List ℕ → List ℕ)
    (failed failed' : ℕ) (left : List ℕ) (job_end : JobEnd) (before : List ℕ)
    → file ≡ Some name → EndsUnopened job_end → failed' ≡ failed + failed_files job_end
    → Gives (IsStagesAnswer w (source_of file named failed failed' left)) (MayShow w (source_of file named failed failed' left))
    job_end before before
unread_with_file w file name named failed failed' left job_end before is h count =
    subst (λ (f : Option (List ℕ)). Gives (IsStagesAnswer w (source_of f named failed failed' left))
    (MayShow w (source_of f named failed failed' left)) job_end before before) (sym is)
    (gives_unopened (IsStagesAnswer w) (MayShow w (read_if failed failed' (named name))) (named name) failed failed' job_end
    before h count not_read (nothing (read_if failed failed' (named name))))

pub read_without_file : (w : Wanted) (asked : Asked) (file : Option (List ℕ)) (named : List ℕ → List ℕ)
    (failed failed' : ℕ) (left front : List ℕ) (answer : Answer) → w.asked ≡ asked → file ≡ None
    → front ≡ take (longest + 1) left → IsSourceAnswer asked front answer
    → IsStagesAnswer w (source_of file named failed failed' left) answer
read_without_file w asked file named failed failed' left front answer own is fronts h =
    subst (λ (f : Option (List ℕ)). IsStagesAnswer w (source_of f named failed failed' left) answer) (sym is)
    (read left answer (subst (λ (a : Asked). IsSourceAnswer a left answer) (sym own)
    (source_of_front asked (longest + 1) left (omega arith) answer
    (subst (λ (s : List ℕ). IsSourceAnswer asked s answer) fronts h))))

-- a reader that was not read
pub gives_unread : (A : Answer → Type 0) (L : List ℕ → Type 0) (job_end : JobEnd) (before : List ℕ) → EndsCut job_end
    → L [] → Gives A L job_end before before
gives_unread A L NoMemory before h none = ([], none, sym (append-nil before))
gives_unread A L ReadFailed before h none = refl
gives_unread A L (Answered status text) before h none = absurd h
gives_unread A L InputTooLong before h none = absurd h
gives_unread A L FileNotRead before h none = absurd h
gives_unread A L WriteFailed before h none = absurd h

-- the lines of a job's source
pub shown_with_file : (w : Wanted) (asked : Asked) (file : Option (List ℕ)) (name : List ℕ) (named : List ℕ → List ℕ)
    (failed failed' : ℕ) (left source lines : List ℕ) → w.asked ≡ asked → file ≡ Some name
    → failed' ≡ failed → source ≡ take (longest + 1) (named name) → AreShown asked source lines
    → MayShow w (source_of file named failed failed' left) lines
shown_with_file w asked file name named failed failed' left source lines own is same fronts h =
    subst (λ (f : Option (List ℕ)). MayShow w (source_of f named failed failed' left) lines) (sym is)
    (subst (λ (s : Option (List ℕ)). MayShow w s lines) (was_read failed failed' (named name) same)
    (of_source (named name) lines (subst (λ (a : Asked). AreShown a (named name) lines) (sym own)
    (shown_of_front asked (longest + 1) (named name) (omega arith) lines
    (subst (λ (s : List ℕ). AreShown asked s lines) fronts h)))))

pub shown_without_file : (w : Wanted) (asked : Asked) (file : Option (List ℕ)) (named : List ℕ → List ℕ)
    (failed failed' : ℕ) (left source lines : List ℕ) → w.asked ≡ asked → file ≡ None
    → source ≡ take (longest + 1) left → AreShown asked source lines
    → MayShow w (source_of file named failed failed' left) lines
shown_without_file w asked file named failed failed' left source lines own is fronts h =
    subst (λ (f : Option (List ℕ)). MayShow w (source_of f named failed failed' left) lines) (sym is)
    (of_source left lines (subst (λ (a : Asked). AreShown a left lines) (sym own)
    (shown_of_front asked (longest + 1) left (omega arith) lines
    (subst (λ (s : List ℕ). AreShown asked s lines) fronts h))))

-- what is left in the reader
pub left_with_file : (file : Option (List ℕ)) (name before : List ℕ) → file ≡ Some name → before ≡ left_by file before
left_with_file file name before is = ap (λ (f : Option (List ℕ)). left_by f before) (sym is)

pub left_without_file : (file : Option (List ℕ)) (before after : List ℕ) → file ≡ None
    → after ≡ drop (longest + 1) before → after ≡ left_by file before
left_without_file file before after is rest = rest ∙ ap (λ (f : Option (List ℕ)). left_by f before) (sym is)
