-- What a job's end gives, and the counts that it leaves.
use Rattle.std.proofs.Common.{◌≡◌, ◌∙◌, ◌+◌, ◌<◌, ◌≤◌, ◌==◌, if◌then◌else◌, ℕ, Bool, true, false, List, []}
use Rattle.std.proofs.Common.{Option, Some, None, ap, arith, refl, subst, sym, inl, inr, length, take, ne_eqb, eq-eqb}
use Rattle.std.proofs.lemmas.List.{append-nil, length-take, take_all}
use Rattle.ick_bits.specs.Faults.{message_of}
use Rattle.ick_source.specs.RefusalAnswers.{Refuses}
use Rattle.ick_source.specs.Refusals.{Compiles, IsRefused, longest}
use Rattle.ick_syntax.specs.StatementTree.{StatementTree}
use Rattle.ick_source.specs.declared.refusals.Refusal.{Refusal}
use Rattle.ick_source.specs.declared.refusals.Refusal.TheVariants as refusal
use Rattle.ick_code.specs.meaning.Move.{first_state}
use Rattle.ick_backtrack.specs.Machine.{Program}
use Rattle.ick_job.specs.JobEnd.{Answers, EndsBy, EndsSent, Leaves, failed_files, input_of, source_of}
use Rattle.ick_job.specs.Input.{EndsUnopened, EndsUnread, longest_input}
use Rattle.ick_job.specs.Notice.{notice_text}
use Rattle.ick_job.specs.Refusing.{EndsRefused}
use Rattle.ick_job.specs.Answer.{Answer, shown, refusal as refused_by}
use Rattle.ick_job.specs.declared.job_end.JobEnd.{JobEnd}
use Rattle.ick_job.specs.declared.job_end.JobEnd.TheVariants.{Answered, NoMemory, InputTooLong, FileNotRead, ReadFailed}
use Rattle.ick_job.specs.declared.job_end.JobEnd.TheVariants.{WriteFailed}
use Rattle.ick_job.specs.declared.notice.Notice.{Notice}
use Rattle.ick_job.specs.declared.notice.Notice.TheVariants as notice
use Rattle.ick_job.proofs.Ends.{leaves_as, leaves_by}
use Rattle.ick_outcomes_cli.specs.Asked.{IsAskedBy, foreign_text}
use Rattle.ick_outcomes_cli.specs.OutcomesEnd.{Gives, IsRefusal, LeavesAll, listing_of}
use Rattle.ick_outcomes_cli.specs.Job.{Wanted, limit_or_usual, memory_of}
use Rattle.ick_outcomes_cli.specs.Unfinished.{IsUnfinished, IsUnfinishedText, has_more, many_states, much_kept, not_solved}
use Rattle.ick_outcomes_cli.specs.Unfinished.{takes_more, unsolved}
use Rattle.ick_outcomes_cli.specs.Tool.{IsExplained, IsFound, IsReadAnswer, IsProgramAnswer, IsSourceAnswer}
use Rattle.ick_outcomes_cli.specs.Tool.{IsStop, IsStopped, IsSummed, IsTextFound, IsToldOf, MayStop, Stops}
use Rattle.ick_outcomes_cli.specs.Tool.{HasLine, many_runs, unlisted}
use Rattle.ick_outcomes_cli.specs.Tool.{by_listing, by_outcomes, compiled, explained, foreign, listing_too_long}
use Rattle.ick_outcomes_cli.specs.Tool.{longest_listing, may_stop, not_read, read, refused, summed, too_long}
use Rattle.ick_outcomes_cli.specs.declared.asked.Asked.{Asked}
use Rattle.ick_outcomes_cli.specs.declared.asked.Asked.TheVariants.{Foreign, Text as Told}
use Rattle.ick_outcomes_cli.specs.declared.outcomes_end.OutcomesEnd.{OutcomesEnd}
use Rattle.ick_outcomes_cli.specs.declared.outcomes_end.OutcomesEnd.TheVariants.{By, Refused, Unfinished}
use Rattle.ick_outcomes_cli.specs.declared.found.Found.{Found}
use Rattle.ick_outcomes_cli.specs.declared.found.Found.TheVariants.{Outcomes, TooManyStates, Unfinished as NotFound}
use Rattle.ick_outcomes_cli.specs.declared.words.job.Question.{Question}

-- other answers, and other lines to stop with
pub gives_so : {A B : Answer → Type 0} {M N : List ℕ → Type 0} (outcomes_end : OutcomesEnd) (before after : List ℕ)
    → ((answer : Answer) → A answer → B answer) → ((line : List ℕ) → M line → N line)
    → Gives A M outcomes_end before after → Gives B N outcomes_end before after
gives_so (By (Answered status text)) before after so stops h = (h.0, so h.0 h.1, h.2)
gives_so (By InputTooLong) before after so stops h = (h.0, so h.0 h.1, h.2)
gives_so (By FileNotRead) before after so stops h = (h.0, so h.0 h.1, h.2)
gives_so (By WriteFailed) before after so stops h = (h.0, so h.0 h.1, h.2)
gives_so (By NoMemory) before after so stops h = h
gives_so (By ReadFailed) before after so stops h = h
gives_so (Refused notice.TooManyStates) before after so stops h = (stops _ h.0, h.1)
gives_so (Unfinished line) before after so stops h = (stops line.items h.0, h.1)
gives_so (Refused notice.ListingTooLong) before after so stops h = (h.0, so h.0 h.1, h.2)
gives_so (Refused notice.ChoicesAndSeed) before after so stops h = absurd h
gives_so (Refused notice.BadCursor) before after so stops h = absurd h
gives_so (Refused notice.NoSuchRun) before after so stops h = absurd h
gives_so (Refused notice.SourceTooLong) before after so stops h = absurd h
gives_so (Refused notice.InputTooLong) before after so stops h = absurd h
gives_so (Refused notice.FileNotRead) before after so stops h = absurd h
gives_so (Refused notice.ReadFailed) before after so stops h = absurd h
gives_so (Refused notice.WriteFailed) before after so stops h = absurd h
gives_so (Refused notice.OutOfMemory) before after so stops h = absurd h
gives_so (Refused notice.WordsNotRead) before after so stops h = absurd h

-- work that stops with no line
abbrev pub no_line : List ℕ → Type 0
no_line line = ⊥

-- an output that was sent
pub gives_sent : (A : Answer → Type 0) (job_end : JobEnd) (before after : List ℕ) (answer : Answer)
    → EndsSent job_end → A answer → Answers answer job_end before after → Gives A no_line (By job_end) before after
gives_sent A (Answered status text) before after answer sent is h = (answer, is, h)
gives_sent A WriteFailed before after answer sent is h = (answer, is, h)
gives_sent A InputTooLong before after answer sent is h = absurd sent
gives_sent A FileNotRead before after answer sent is h = absurd sent
gives_sent A NoMemory before after answer sent is h = absurd sent
gives_sent A ReadFailed before after answer sent is h = absurd sent

-- an answer without output
pub gives_refusal : (M : List ℕ → Type 0) (A : Answer → Type 0) (status : ℕ) (text : List ℕ) (job_end : JobEnd)
    (before : List ℕ) → EndsBy status text job_end → A (refused_by status text) → Gives A M (By job_end) before before
gives_refusal M A status text (Answered given said) before h is = (refused_by status text, is, (h, sym (append-nil before)))
gives_refusal M A status text NoMemory before h is = refl
gives_refusal M A status text InputTooLong before h is = absurd h
gives_refusal M A status text FileNotRead before h is = absurd h
gives_refusal M A status text ReadFailed before h is = absurd h
gives_refusal M A status text WriteFailed before h is = absurd h

-- a source that is refused
pub gives_refused : (w : Wanted) (source input : List ℕ) (listing : Option (List ℕ)) (why : Refusal)
    (job_end : JobEnd) (before : List ℕ) → Refuses source why → EndsRefused why job_end
    → Gives (IsSourceAnswer w source input listing) no_line (By job_end) before before
gives_refused w source input listing (refusal.Fault kind n) job_end before is ends =
    gives_refusal no_line (IsSourceAnswer w source input listing) 2 (message_of kind n []) job_end before ends (refused kind n is.refused)
gives_refused w source input listing refusal.TooLong job_end before long ends =
    subst (λ (e : JobEnd). Gives (IsSourceAnswer w source input listing) no_line (By e) before before) (sym ends)
    (_, too_long long, ((refl, refl), sym (append-nil before)))
gives_refused w source input listing refusal.NoMemory job_end before is ends =
    subst (λ (e : JobEnd). Gives (IsSourceAnswer w source input listing) no_line (By e) before before) (sym ends) refl

-- an input that was not read
pub gives_unread : (A : Answer → Type 0) (input : List ℕ) (job_end : JobEnd) (before : List ℕ)
    → EndsUnread input job_end → (longest_input < length input → A (refused_by 4 (notice_text notice.InputTooLong)))
    → Gives A no_line (By job_end) before before
gives_unread A input InputTooLong before h long = (_, long h, ((refl, refl), sym (append-nil before)))
gives_unread A input ReadFailed before h long = refl
gives_unread A input NoMemory before h long = refl
gives_unread A input (Answered status text) before h long = absurd h
gives_unread A input FileNotRead before h long = absurd h
gives_unread A input WriteFailed before h long = absurd h

-- a file that was not read
abbrev pub read_if : ℕ → ℕ → List ℕ → Option (List ℕ)
read_if failed failed' bytes = if failed == failed' then Some bytes else None

pub gives_unopened : (A : Option (List ℕ) → Answer → Type 0) (bytes : List ℕ) (failed failed' : ℕ)
    (job_end : JobEnd) (before : List ℕ) → EndsUnopened job_end → failed' ≡ failed + failed_files job_end
    → A None (refused_by 4 (notice_text notice.FileNotRead))
    → Gives (A (read_if failed failed' bytes)) no_line (By job_end) before before
gives_unopened A bytes failed failed' FileNotRead before h count is =
    let other : (failed == failed') ≡ false = ne_eqb failed failed' (λ e. omega arith) in (
      _,
      subst (λ (b : Bool). A (if b then Some bytes else None) (refused_by 4 (notice_text notice.FileNotRead)))
          (sym other) is,
      ((refl, refl), sym (append-nil before)),
    )
gives_unopened A bytes failed failed' NoMemory before h count is = refl
gives_unopened A bytes failed failed' InputTooLong before h count is = absurd h
gives_unopened A bytes failed failed' (Answered status text) before h count is = absurd h
gives_unopened A bytes failed failed' ReadFailed before h count is = absurd h
gives_unopened A bytes failed failed' WriteFailed before h count is = absurd h

-- .. and one that was read
pub was_read : (failed failed' : ℕ) (bytes : List ℕ) → failed' ≡ failed → Some bytes ≡ read_if failed failed' bytes
was_read failed failed' bytes same =
    let unfailed : (failed == failed') ≡ true = eq-eqb failed failed' (sym same) in
    ap (λ (b : Bool). if b then Some bytes else None) (sym unfailed)

-- the front of a source has the answer of the whole, where it is long enough to show what is too long
whole_front : (most : ℕ) (source : List ℕ) → longest < most → length (take most source) ≤ longest
    → take most source ≡ source
whole_front most source long fits = let size = length-take most source in take_all most source (omega arith)

pub source_of_front : (w : Wanted) (most : ℕ) (source input : List ℕ) (listing : Option (List ℕ)) → longest < most
    → (answer : Answer) → IsSourceAnswer w (take most source) input listing answer
    → IsSourceAnswer w source input listing answer
source_of_front w most source input listing long answer (too_long h) =
    too_long (let size = length-take most source in omega arith)
source_of_front w most source input listing long answer (refused kind n h) =
    refused kind n (subst (λ (t : List ℕ). IsRefused t kind n) (whole_front most source long h.fits) h)
source_of_front w most source input listing long answer (compiled trees given h is) =
    compiled trees answer (subst (λ (t : List ℕ). Compiles t trees) (whole_front most source long h.fits) h) is

pub stop_of_front : (w : Wanted) (most : ℕ) (source input line : List ℕ) → longest < most
    → Stops w (take most source) input line → Stops w source input line
stop_of_front w most source input line long h = record {
  trees = h.trees;
  compiles = subst (λ (t : List ℕ). Compiles t h.trees)
      (whole_front most source long (let compiles = h.compiles in compiles.fits)) h.compiles;
  unlisted = h.unlisted;
  stop = h.stop;
}

-- counts of failures that rose as much have the same end
pub leaves_all_as : (outcomes_end : OutcomesEnd) (f f' r r' w w' g g' s s' x x' : ℕ) → LeavesAll outcomes_end f f' r r' w w'
    → g' + f ≡ f' + g → s' + r ≡ r' + s → x' + w ≡ w' + x → LeavesAll outcomes_end g g' s s' x x'
leaves_all_as (By job_end) f f' r r' w w' g g' s s' x x' leaves files reads writes =
    leaves_as job_end f f' r r' w w' g g' s s' x x' leaves files reads writes
leaves_all_as (Refused line) f f' r r' w w' g g' s s' x x' leaves files reads writes =
    let none = leaves.1 in let unread = leaves.2 in let unwritten = leaves.3 in
    (leaves.0, omega (arith, none), omega (arith, unread), omega (arith, unwritten))
leaves_all_as (Unfinished line) f f' r r' w w' g g' s s' x x' leaves files reads writes =
    let none = leaves.1 in let unread = leaves.2 in let unwritten = leaves.3 in
    (leaves.0, omega (arith, none), omega (arith, unread), omega (arith, unwritten))

-- a job's end that leaves everything as it was
pub leaves_nothing : (f r w : ℕ) → LeavesAll (By NoMemory) f f r r w w
leaves_nothing f r w = record { proper = tt; opened = omega arith; read = omega arith; wrote = omega arith }

pub leaves_line : (line : Notice) (f r w : ℕ) → IsRefusal line → LeavesAll (Refused line) f f r r w w
leaves_line line f r w is = (is, refl, refl, refl)

pub leaves_refused : (why : Refusal) (job_end : JobEnd) (f r w : ℕ) → EndsRefused why job_end
    → LeavesAll (By job_end) f f r r w w
leaves_refused (refusal.Fault kind n) job_end f r w ends =
    leaves_as job_end 0 0 0 0 0 0 f f r r w w (leaves_by 2 (message_of kind n []) job_end 0 0 0 0 (omega arith) ends refl refl)
    (omega arith) (omega arith) (omega arith)
leaves_refused refusal.TooLong job_end f r w ends =
    subst (λ (e : JobEnd). Leaves e f f r r w w) (sym ends)
    (record { proper = inl (omega arith); opened = omega arith; read = omega arith; wrote = omega arith })
leaves_refused refusal.NoMemory job_end f r w ends =
    subst (λ (e : JobEnd). Leaves e f f r r w w) (sym ends) (leaves_nothing f r w)

-- a job's end by status 64, or because memory ran out
pub leaves_usage : (text : List ℕ) (job_end : JobEnd) (f r w : ℕ) → EndsBy 64 text job_end
    → LeavesAll (By job_end) f f r r w w
leaves_usage text (Answered status said) f r w h = record {
  proper = inr h.0;
  opened = omega arith;
  read = omega arith;
  wrote = omega arith;
}
leaves_usage text NoMemory f r w h = leaves_nothing f r w
leaves_usage text InputTooLong f r w h = absurd h
leaves_usage text FileNotRead f r w h = absurd h
leaves_usage text ReadFailed f r w h = absurd h
leaves_usage text WriteFailed f r w h = absurd h

-- the answer to a job that names a file, and to one that names none
pub read_with_file : (w : Wanted) (file : Option (List ℕ)) (name : List ℕ) (named : List ℕ → List ℕ)
    (failed failed' : ℕ) (left front : List ℕ) (listing : Option (List ℕ)) (answer : Answer) → file ≡ Some name
    → failed' ≡ failed → front ≡ take (longest + 1) (named name) → IsSourceAnswer w front left listing answer
    → IsReadAnswer w (input_of file left) listing (source_of file named failed failed' left) answer
read_with_file w file name named failed failed' left front listing answer is same fronts h =
    subst (λ (f : Option (List ℕ)).
    IsReadAnswer w (input_of f left) listing (source_of f named failed failed' left) answer) (sym is)
    (subst (λ (s : Option (List ℕ)). IsReadAnswer w left listing s answer)
    (was_read failed failed' (named name) same)
    (read (named name) answer (source_of_front w (longest + 1) (named name) left listing (omega arith) answer
    (subst (λ (s : List ℕ). IsSourceAnswer w s left listing answer) fronts h))))

pub stop_with_file : (w : Wanted) (file : Option (List ℕ)) (name : List ℕ) (named : List ℕ → List ℕ)
    (failed failed' : ℕ) (left front line : List ℕ) → file ≡ Some name → failed' ≡ failed
    → front ≡ take (longest + 1) (named name) → Stops w front left line
    → MayStop w (input_of file left) (source_of file named failed failed' left) line
stop_with_file w file name named failed failed' left front line is same fronts h =
    subst (λ (f : Option (List ℕ)). MayStop w (input_of f left) (source_of f named failed failed' left) line) (sym is)
    (subst (λ (s : Option (List ℕ)). MayStop w left s line) (was_read failed failed' (named name) same)
    (may_stop (named name) line (stop_of_front w (longest + 1) (named name) left line (omega arith)
    (subst (λ (s : List ℕ). Stops w s left line) fronts h))))

pub unread_with_file : (w : Wanted) (file : Option (List ℕ)) (name : List ℕ) (named : List ℕ → List ℕ)
    (failed failed' : ℕ) (left : List ℕ) (listing : Option (List ℕ)) (job_end : JobEnd) (before : List ℕ)
    → file ≡ Some name → EndsUnopened job_end → failed' ≡ failed + failed_files job_end
    → Gives (IsReadAnswer w (input_of file left) listing (source_of file named failed failed' left))
    (MayStop w (input_of file left) (source_of file named failed failed' left)) (By job_end) before before
unread_with_file w file name named failed failed' left listing job_end before is h count =
    subst (λ (f : Option (List ℕ)).
    Gives (IsReadAnswer w (input_of f left) listing (source_of f named failed failed' left))
    (MayStop w (input_of f left) (source_of f named failed failed' left)) (By job_end) before before) (sym is)
    (gives_unopened (IsReadAnswer w left listing) (named name) failed failed' job_end before h count not_read)

pub read_without_file : (w : Wanted) (file : Option (List ℕ)) (named : List ℕ → List ℕ) (failed failed' : ℕ)
    (left front input : List ℕ) (listing : Option (List ℕ)) (answer : Answer) → file ≡ None → input ≡ []
    → front ≡ take (longest + 1) left → IsSourceAnswer w front input listing answer
    → IsReadAnswer w (input_of file left) listing (source_of file named failed failed' left) answer
read_without_file w file named failed failed' left front input listing answer is none fronts h =
    subst (λ (f : Option (List ℕ)).
    IsReadAnswer w (input_of f left) listing (source_of f named failed failed' left) answer) (sym is)
    (read left answer (source_of_front w (longest + 1) left [] listing (omega arith) answer
    (subst (λ (s : List ℕ). IsSourceAnswer w s [] listing answer) fronts
    (subst (λ (i : List ℕ). IsSourceAnswer w front i listing answer) none h))))

pub stop_without_file : (w : Wanted) (file : Option (List ℕ)) (named : List ℕ → List ℕ) (failed failed' : ℕ)
    (left front input line : List ℕ) → file ≡ None → input ≡ [] → front ≡ take (longest + 1) left
    → Stops w front input line → MayStop w (input_of file left) (source_of file named failed failed' left) line
stop_without_file w file named failed failed' left front input line is none fronts h =
    subst (λ (f : Option (List ℕ)). MayStop w (input_of f left) (source_of f named failed failed' left) line) (sym is)
    (may_stop left line (stop_of_front w (longest + 1) left [] line (omega arith)
    (subst (λ (s : List ℕ). Stops w s [] line) fronts (subst (λ (i : List ℕ). Stops w front i line) none h))))

-- the answer to a source that compiles
pub source_compiled : (w : Wanted) (source input : List ℕ) (listing : Option (List ℕ))
    (trees program : List StatementTree) (answer : Answer) → Compiles source trees → program ≡ trees
    → IsProgramAnswer program input w.limit w.question listing w.listing answer
    → IsSourceAnswer w source input listing answer
source_compiled w source input listing trees program answer compiles is h =
    compiled trees answer compiles
    (subst (λ (p : List StatementTree). IsProgramAnswer p input w.limit w.question listing w.listing answer) is h)

pub stop_compiled : (w : Wanted) (source input : List ℕ) (trees program : List StatementTree) (line : List ℕ)
    → Compiles source trees → program ≡ trees
    → (w.listing ≡ None) × IsStop program input w.question w.limit line → Stops w source input line
stop_compiled w source input trees program line compiles is h = record {
  trees = trees;
  compiles = compiles;
  unlisted = h.0;
  stop = subst (λ (p : List StatementTree). IsStop p input w.question w.limit line) is h.1;
}

-- a job without a listing may stop with a line
abbrev pub StopsUnlisted : Wanted → Program → List ℕ → List ℕ → Type 0
StopsUnlisted w p input line = (w.listing ≡ None) × IsStop p input w.question w.limit line

pub stop_read : (w : Wanted) (p : Program) (input given line : List ℕ) → w.listing ≡ None → given ≡ input
    → IsStop p given w.question w.limit line → StopsUnlisted w p input line
stop_read w p input given line none same h =
    (none, subst (λ (i : List ℕ). IsStop p i w.question w.limit line) same h)

-- the answer to a program over an input that was read
pub program_outcomes : (p : Program) (input given : List ℕ) (limit : Option ℕ) (q : Question) (listing : Option (List ℕ))
    (named : Option (List ℕ)) (answer : Answer) → named ≡ None → given ≡ input → length input ≤ longest_input
    → IsSummed p given limit q answer → IsProgramAnswer p input limit q listing named answer
program_outcomes p input given limit q listing named answer none same fits h =
    subst (λ (n : Option (List ℕ)). IsProgramAnswer p input limit q listing n answer) (sym none)
    (by_outcomes answer fits (subst (λ (i : List ℕ). IsSummed p i limit q answer) same h))

pub program_listing : (p : Program) (input given : List ℕ) (limit : Option ℕ) (used : ℕ) (q : Question)
    (name : List ℕ) (names : List ℕ → List ℕ) (failed failed' : ℕ) (named : Option (List ℕ)) (answer : Answer)
    → used ≡ limit_or_usual limit → named ≡ Some name → given ≡ input → length input ≤ longest_input
    → IsExplained p given used (listing_of (Some name) names failed failed') answer
    → IsProgramAnswer p input limit q (listing_of named names failed failed') named answer
program_listing p input given limit used q name names failed failed' named answer usual is same fits h =
    subst (λ (n : Option (List ℕ)). IsProgramAnswer p input limit q (listing_of n names failed failed') n answer) (sym is)
    (by_listing name answer fits
    (subst (λ (l : ℕ). IsExplained p input l (listing_of (Some name) names failed failed') answer) usual
    (subst (λ (i : List ℕ). IsExplained p i used (listing_of (Some name) names failed failed') answer) same h)))

-- the answer by a text that was found, and by what was told of a listing
pub text_found : (p : Program) (input : List ℕ) (limit : Option ℕ) (q : Question) (found : Found) (answer : Answer)
    → IsFound p input limit q found → IsTextFound found answer → IsSummed p input limit q answer
text_found p input limit q (Outcomes text) answer is h = subst (IsSummed p input limit q) (sym h) (summed text.items is)
text_found p input limit q TooManyStates answer is h = absurd h
text_found p input limit q (NotFound line) answer is h = absurd h

pub stopped_found : (p : Program) (input : List ℕ) (limit : Option ℕ) (q : Question) (found : Found) (line : List ℕ)
    → IsFound p input limit q found → IsStopped found line → IsStop p input q limit line
stopped_found p input limit q (Outcomes text) line is h = absurd h
stopped_found p input limit q TooManyStates line is h = subst (IsStop p input q limit) (sym h) (many_runs limit is)
stopped_found p input limit q (NotFound text) line is h =
    subst (λ (l : Option ℕ). IsStop p input q l line) (sym is.0)
    (subst (IsStop p input q None) (sym h) (unlisted text.items is.1))

-- the line of a search that was not ended
pub unfinished_text : (p : Program) (input : List ℕ) (q : Question) (line : List ℕ) → IsUnfinished p input q line
    → IsUnfinishedText line
unfinished_text p input q line (has_more steps h) = many_states q steps
unfinished_text p input q line (takes_more h) = much_kept q
unfinished_text p input q line unsolved = not_solved q

pub found_line : (p : Program) (input : List ℕ) (limit : Option ℕ) (q : Question) (found : Found)
    → IsFound p input limit q found → HasLine found
found_line p input limit q (Outcomes text) is = tt
found_line p input limit q TooManyStates is = tt
found_line p input limit q (NotFound text) is = unfinished_text p input q text.items is.1.reason

pub listing_told : (p : Program) (input : List ℕ) (limit : ℕ) (listing : List ℕ) (told : Asked) (answer : Answer)
    → length listing ≤ longest_listing → IsAskedBy p (first_state p input) limit listing told → IsToldOf told answer
    → IsExplained p input limit (Some listing) answer
listing_told p input limit listing (Told text) answer fits is h =
    subst (IsExplained p input limit (Some listing)) (sym h) (explained listing text.items fits is)
listing_told p input limit listing (Foreign n) answer fits is h =
    subst (IsExplained p input limit (Some listing)) (sym h) (foreign listing n fits is)

-- the answer to a listing that was read, at most one byte more than the longest
all_read : (whole front : List ℕ) → front ≡ take (longest_listing + 1) whole → length front ≤ longest_listing
    → front ≡ whole
all_read whole front is fits =
    let size = length-take (longest_listing + 1) whole in
    let same = ap (λ (x : List ℕ). length x) is in
    is ∙ take_all (longest_listing + 1) whole (omega (arith, fits, size, same))

listing_of_front : (p : Program) (input : List ℕ) (limit : ℕ) (whole front : List ℕ) (answer : Answer)
    → front ≡ take (longest_listing + 1) whole → IsExplained p input limit (Some front) answer
    → IsExplained p input limit (Some whole) answer
listing_of_front p input limit whole front answer is (listing_too_long l long) =
    listing_too_long whole
    (let size = length-take (longest_listing + 1) whole in
    let same = ap (λ (x : List ℕ). length x) is in omega (arith, long, size, same))
listing_of_front p input limit whole front answer is (explained l text fits e) =
    subst (λ (x : List ℕ). IsExplained p input limit (Some x) (shown text)) (all_read whole front is fits)
    (explained front text fits e)
listing_of_front p input limit whole front answer is (foreign l n fits e) =
    subst (λ (x : List ℕ). IsExplained p input limit (Some x) (refused_by 64 (foreign_text n)))
    (all_read whole front is fits) (foreign front n fits e)

pub read_listing : (p : Program) (input : List ℕ) (limit : ℕ) (name front : List ℕ) (names : List ℕ → List ℕ)
    (failed failed' : ℕ) (answer : Answer) → failed' ≡ failed → front ≡ take (longest_listing + 1) (names name)
    → IsExplained p input limit (Some front) answer
    → IsExplained p input limit (listing_of (Some name) names failed failed') answer
read_listing p input limit name front names failed failed' answer same is h =
    subst (λ (l : Option (List ℕ)). IsExplained p input limit l answer) (was_read failed failed' (names name) same)
    (listing_of_front p input limit (names name) front answer is h)
