-- What a session and a job leave in the reader.
use Rattle.std.proofs.Common.{◌≡◌, ◌≢◌, ◌∙◌, ◌<◌, ◌+◌, ◌++◌, ◌==◌, ◌⊎◌, inl, inr, ℕ, Bool, true, false, List, []}
use Rattle.std.proofs.Common.{◌∷◌, Option, Some, None, ap, append_assoc, arith, drop, length, length-append, refl}
use Rattle.std.proofs.Common.{subst, sym, take}
use Rattle.std.specs.List.{All}
use Rattle.std.proofs.lemmas.List.{length-take, take_all}
use Rattle.std.proofs.lemmas.List.Elements.{All-nil, All-push}
use Rattle.clap.specs.Words.{Text}
use Rattle.ick_source.specs.RefusalAnswers.{Refuses}
use Rattle.ick_source.specs.Refusals.{Compiles, longest}
use Rattle.ick_source.specs.declared.refusals.Refusal.{Refusal}
use Rattle.ick_source.specs.declared.refusals.Refusal.TheVariants as refusal
use Rattle.ick_syntax.specs.StatementTree.{StatementTree}
use Rattle.ick_inspect.specs.declared.positions.LineColumn.{LineColumn}
use Rattle.ick_runs.specs.Chosen.{Chosen}
use Rattle.ick_step.specs.Seen.{Seen}
use Rattle.ick_session.specs.Commands.{Order, order_in, to_quit}
use Rattle.ick_session.specs.Lines.{AnswersLine, answered, full, no_command, quits, short}
use Rattle.ick_session.specs.Session.{Settings}
use Rattle.ick_job.specs.JobEnd.{EndsByLine, WhereAnswered}
use Rattle.ick_job.specs.Refusing.{EndsRefused}
use Rattle.ick_job.specs.declared.job_end.JobEnd.{JobEnd}
use Rattle.ick_job.specs.declared.job_end.JobEnd.TheVariants.{Answered, NoMemory, InputTooLong, FileNotRead}
use Rattle.ick_job.specs.declared.job_end.JobEnd.TheVariants.{ReadFailed, WriteFailed}
use Rattle.ick_job.specs.declared.notice.Message.TheVariants as message
use Rattle.ick_job.proofs.Ends.{where_answered}
use Rattle.ick_step_cli.specs.Job.{Wanted}
use Rattle.ick_step_cli.specs.Left.{AreTaken, HasNoProgram, IsLeft, IsLeftByLines, IsLeftByRun, IsLeftBySource}
use Rattle.ick_step_cli.specs.Left.{IsLeftRead, IsQuit, IsRefusedFile, TakesLine, all_lines, at_end, first_lines}
use Rattle.ick_step_cli.specs.Left.{left_at_end, left_at_quit, left_compiled}
use Rattle.ick_step_cli.specs.Left.{left_planned, left_refused, left_unplanned, left_with_file, left_without_file}
use Rattle.ick_step_cli.specs.Left.{with_end}
use Rattle.ick_step_cli.specs.Plan.{AreGivenBy, AreRefused, Planned, with_choices}
use Rattle.ick_step_cli.specs.Serve.{EndsUnread}
use Rattle.ick_step_cli.specs.Talk.{IsFailure, begun_by, lines_of, meant}
use Rattle.ick_step_cli.proofs.TalkLaws.{last_line, line_ends}

-- the lines of two texts, the first of which has an end of a line at its end
begun : (b : ℕ) (xs : List (List ℕ)) → 0 < length (begun_by b xs)
begun b [] = omega arith
begun b (x ∷ xs) = omega arith

some_begun : (b : ℕ) (rest : List ℕ) (r : Bool) → (b == 10) ≡ r → 0 < length (lines_of (b ∷ rest))
some_begun b rest true e = rw e (omega arith)
some_begun b rest false e = rw e (begun b (lines_of rest))

some_lines : (front : List ℕ) → 0 < length (lines_of (front ++ 10 ∷ []))
some_lines [] = omega arith
some_lines (b ∷ front) = some_begun b (front ++ 10 ∷ []) (b == 10) refl

begun_more : (b : ℕ) (xs ys : List (List ℕ)) → 0 < length xs → begun_by b (xs ++ ys) ≡ begun_by b xs ++ ys
begun_more b [] ys some = absurd (omega arith)
begun_more b (x ∷ xs) ys some = refl

more_step : (b : ℕ) (front more : List ℕ) (r : Bool) → (b == 10) ≡ r →
    lines_of (front ++ 10 ∷ more) ≡ lines_of (front ++ 10 ∷ []) ++ lines_of more →
    lines_of (b ∷ front ++ 10 ∷ more) ≡ lines_of (b ∷ front ++ 10 ∷ []) ++ lines_of more
more_step b front more true e h = rw (e, h) refl
more_step b front more false e h =
    rw (e, h) (begun_more b (lines_of (front ++ 10 ∷ [])) (lines_of more) (some_lines front))

lines_more : (front more : List ℕ) →
    lines_of (front ++ 10 ∷ more) ≡ lines_of (front ++ 10 ∷ []) ++ lines_of more
lines_more [] more = refl
lines_more (b ∷ front) more = more_step b front more (b == 10) refl (lines_more front more)

-- so many lines were taken, if any
pub data HasTaken (text : List ℕ) : (lines : List (List ℕ)) → (now : List ℕ) → Type 0 where
  none_taken : HasTaken text [] text
  some_taken : (lines : List (List ℕ)) (now : List ℕ) → AreTaken text lines now → HasTaken text lines now

first_taken : (text line after : List ℕ) → TakesLine line text after → AreTaken text (line ∷ []) after
first_taken text line after (with_end left h) =
    subst (λ (l : List (List ℕ)). AreTaken text l left) (line_ends line [] h) (first_lines line left refl)
first_taken text line after (at_end h some) =
    subst (λ (l : List (List ℕ)). AreTaken text l []) (last_line line some h) all_lines

-- .. behind a line end
next_taken : (text front now line after : List ℕ) → text ≡ front ++ 10 ∷ now → TakesLine line now after →
    AreTaken text (lines_of (front ++ 10 ∷ []) ++ line ∷ []) after
next_taken text front now line after is (with_end left h) =
    let all : text ≡ (front ++ 10 ∷ line) ++ 10 ∷ left = is ∙ sym (append_assoc front (10 ∷ line) (10 ∷ left)) in
    let lines : lines_of ((front ++ 10 ∷ line) ++ 10 ∷ []) ≡ lines_of (front ++ 10 ∷ []) ++ line ∷ [] =
    ap lines_of (append_assoc front (10 ∷ line) (10 ∷ []))
    ∙ (lines_more front (line ++ 10 ∷ []) ∙ ap (λ l. lines_of (front ++ 10 ∷ []) ++ l) (line_ends line [] h)) in
    subst (λ (l : List (List ℕ)). AreTaken text l left) lines (first_lines (front ++ 10 ∷ line) left all)
next_taken text front now line after is (at_end h some) =
    let lines : lines_of text ≡ lines_of (front ++ 10 ∷ []) ++ line ∷ [] = ap lines_of is
    ∙ (lines_more front line ∙ ap (λ l. lines_of (front ++ 10 ∷ []) ++ l) (last_line line some h)) in
    subst (λ (l : List (List ℕ)). AreTaken text l []) lines all_lines

-- nothing is taken of an empty text
none_of : (line before after : List ℕ) → TakesLine line before after → before ≡ [] → ⊥
none_of line before after (with_end left h) e =
    let size = ap length e in let all = length-append line (10 ∷ left) in absurd (omega arith)
none_of line before after (at_end h some) e = let size = ap length e in absurd (omega arith)

more_taken : (text : List ℕ) (lines : List (List ℕ)) (now line after : List ℕ) → AreTaken text lines now →
    TakesLine line now after → AreTaken text (lines ++ line ∷ []) after
more_taken text lines now line after (first_lines front left is) h = next_taken text front left line after is h
more_taken text lines now line after all_lines h = absurd (none_of line [] after h refl)

pub taken_more : (text : List ℕ) (lines : List (List ℕ)) (now line after : List ℕ) → HasTaken text lines now →
    TakesLine line now after → AreTaken text (lines ++ line ∷ []) after
taken_more text lines now line after none_taken h = first_taken text line after h
taken_more text lines now line after (some_taken xs left taken) h = more_taken text xs left line after taken h

-- all lines were taken of a text of which nothing is left
all_are : (text : List ℕ) (lines : List (List ℕ)) (now : List ℕ) → AreTaken text lines now → now ≡ [] →
    lines_of text ≡ lines
all_are text lines now (first_lines front left is) e =
    ap lines_of (is ∙ ap (λ (l : List ℕ). front ++ 10 ∷ l) e)
all_are text lines now all_lines e = refl

all_taken : (text : List ℕ) (lines : List (List ℕ)) (now : List ℕ) → HasTaken text lines now → now ≡ [] →
    lines_of text ≡ lines
all_taken text lines now none_taken e = ap lines_of e
all_taken text lines now (some_taken xs left taken) e = all_are text xs left taken e

-- lines were taken that don't end the session
pub record Goes (text now : List ℕ) : Type 0 where
  pub lines : List (List ℕ)
  pub taken : HasTaken text lines now
  pub on : All (λ line. ¬ IsQuit line) lines

pub begins_lines : (text : List ℕ) → Goes text text
begins_lines text = record { lines = []; taken = none_taken; on = All-nil (λ line. ¬ IsQuit line) }

-- whether a line ends the session
no_quit : (line : List ℕ) (order : Order) → order_in line ≡ Some order → order ≢ to_quit → ¬ IsQuit line
no_quit line order is other quit =
    other (let same : Some order ≡ Some to_quit = sym is ∙ quit in cc)

on_line : (f g : Settings) (positions : List LineColumn) (s t : Seen) (line text : List ℕ) (on : Bool) →
    AnswersLine f positions s line g t text on → ((on ≡ true) × ¬ IsQuit line) ⊎ ((on ≡ false) × IsQuit line)
on_line f g positions s t line text on (no_command none) =
    inl (refl, λ quit. let e : None ≡ Some to_quit = sym none ∙ quit in absurd (cc))
on_line f g positions s t line text on (quits is) = inr (refl, is)
on_line f g positions s t line text on (answered order h u said is other room answers) =
    inl (refl, no_quit line order is other)
on_line f g positions s t line text on (full order is other shows room) = inl (refl, no_quit line order is other)
on_line f g positions s t line text on (short order u is other room stops) = inl (refl, no_quit line order is other)

goes_no_quit : (on : Bool) (line : List ℕ) → ((on ≡ true) × ¬ IsQuit line) ⊎ ((on ≡ false) × IsQuit line) → on ≡ true →
    ¬ IsQuit line
goes_no_quit on line (inl h) test = h.1
goes_no_quit on line (inr h) test = let e : true ≡ false = sym test ∙ h.0 in absurd (cc)

stops_quit : (on : Bool) (line : List ℕ) → ((on ≡ true) × ¬ IsQuit line) ⊎ ((on ≡ false) × IsQuit line) → on ≡ false →
    IsQuit line
stops_quit on line (inl h) test = let e : true ≡ false = sym h.0 ∙ test in absurd (cc)
stops_quit on line (inr h) test = h.1

-- an empty line ends no session
pub empty_goes : ¬ IsQuit []
empty_goes quit = let e : None ≡ Some to_quit = quit in absurd (cc)

pub answered_goes : (f g : Settings) (positions : List LineColumn) (s t : Seen) (line used said : List ℕ) (on : Bool) →
    line ≡ used → on ≡ true → AnswersLine f positions s line g t said on → ¬ IsQuit used
answered_goes f g positions s t line used said on same test answers =
    subst (λ (l : List ℕ). ¬ IsQuit l) same
    (goes_no_quit on line (on_line f g positions s t line said on answers) test)

-- .. and the line that is answered for it ends none that the last one didn't end
read_goes : (terminal : Bool) (last line : List ℕ) → ¬ IsQuit (meant terminal last line) → ¬ IsQuit line
read_goes false last line h = h
read_goes true last [] h = empty_goes
read_goes true last (b ∷ line) h = h

read_quits : (terminal : Bool) (last line : List ℕ) → ¬ IsQuit last → IsQuit (meant terminal last line) → IsQuit line
read_quits false last line goes h = h
read_quits true last [] goes h = absurd (goes h)
read_quits true last (b ∷ line) goes h = h

pub goes_more : (f g : Settings) (positions : List LineColumn) (s t : Seen) (terminal : Bool)
    (text now line last items after said : List ℕ) (on : Bool) → Goes text now → TakesLine items now after →
    line ≡ meant terminal last items → on ≡ true → AnswersLine f positions s line g t said on → Goes text after
goes_more f g positions s t terminal text now line last items after said on h taken same test answers =
    record {
      lines = h.lines ++ items ∷ [];
      taken = some_taken (h.lines ++ items ∷ []) after (taken_more text h.lines now items after h.taken taken);
      on = All-push (λ x. ¬ IsQuit x) h.lines items h.on
          (read_goes terminal last items
          (answered_goes f g positions s t line (meant terminal last items) said on same test answers));
    }

pub left_by_quit : (f g : Settings) (positions : List LineColumn) (s t : Seen) (terminal : Bool)
    (text now line last items after said : List ℕ) (on : Bool) → Goes text now → ¬ IsQuit last →
    TakesLine items now after → line ≡ meant terminal last items → on ≡ false →
    AnswersLine f positions s line g t said on → IsLeftByLines text after
left_by_quit f g positions s t terminal text now line last items after said on h goes taken same test answers =
    left_at_quit h.lines items after (taken_more text h.lines now items after h.taken taken) h.on
    (read_quits terminal last items goes
    (subst IsQuit same (stops_quit on line (on_line f g positions s t line said on answers) test)))

pub left_by_end : (text now after : List ℕ) → Goes text now → now ≡ [] → after ≡ [] → IsLeftByLines text after
left_by_end text now after h none is =
    subst (λ (l : List ℕ). IsLeftByLines text l) (sym is)
    (left_at_end (subst (λ (l : List (List ℕ)). All (λ line. ¬ IsQuit line) l)
    (sym (all_taken text h.lines now h.taken none)) h.on))

-- what a trace leaves, and a session
pub left_by : (trace is : Bool) (text left : List ℕ) → trace ≡ is → IsLeftByRun text is left →
    IsLeftByRun text trace left
left_by trace is text left same h = subst (λ (b : Bool). IsLeftByRun text b left) (sym same) h

-- what a source leaves that is refused, and one that compiles
pub refused_left : (trace : Bool) (source text : List ℕ) (why : Refusal) (job_end : JobEnd) → Refuses source why
    → EndsRefused why job_end → WhereAnswered job_end (IsLeftBySource trace source text text)
refused_left trace source text (refusal.Fault kind n) job_end is ends =
    where_answered job_end _ (left_refused is.no_program)
refused_left trace source text refusal.TooLong job_end long ends =
    where_answered job_end _ (left_refused (λ trees h. let fits = h.fits in absurd (omega arith)))
refused_left trace source text refusal.NoMemory job_end is ends =
    subst (λ (e : JobEnd). WhereAnswered e (IsLeftBySource trace source text text)) (sym ends) tt

-- a failure, and an input that wasn't read, end work without an answer
pub where_failed : (job_end : JobEnd) (Fact : Type 0) → IsFailure job_end → WhereAnswered job_end Fact
where_failed (Answered status text) Fact h = absurd h
where_failed NoMemory Fact h = tt
where_failed InputTooLong Fact h = tt
where_failed FileNotRead Fact h = tt
where_failed ReadFailed Fact h = tt
where_failed WriteFailed Fact h = tt

pub where_unread : (name : Option Text) (named : List ℕ → List ℕ) (job_end : JobEnd) (Fact : Type 0)
    → EndsUnread name named job_end → WhereAnswered job_end Fact
where_unread name named (Answered status text) Fact h = absurd h
where_unread name named NoMemory Fact h = tt
where_unread name named InputTooLong Fact h = tt
where_unread name named FileNotRead Fact h = tt
where_unread name named ReadFailed Fact h = tt
where_unread name named WriteFailed Fact h = tt

-- a front of a source that shows what is too long, and the whole
front_compiles : (most : ℕ) (source : List ℕ) (trees : List StatementTree) → longest < most →
    Compiles (take most source) trees → Compiles source trees
front_compiles most source trees long h =
    let fits = h.fits in let size = length-take most source in
    subst (λ (t : List ℕ). Compiles t trees) (take_all most source (omega arith)) h

whole_compiles : (most : ℕ) (source : List ℕ) (trees : List StatementTree) → longest < most →
    Compiles source trees → Compiles (take most source) trees
whole_compiles most source trees long h =
    let fits = h.fits in subst (λ (t : List ℕ). Compiles t trees) (sym (take_all most source (omega arith))) h

left_of_front : (most : ℕ) (trace : Bool) (source text left : List ℕ) → longest < most
    → IsLeftBySource trace (take most source) text left → IsLeftBySource trace source text left
left_of_front most trace source text left long (left_refused none) =
    left_refused (λ trees h. none trees (whole_compiles most source trees long h))
left_of_front most trace source text left long (left_compiled trees rest h run) =
    left_compiled trees rest (front_compiles most source trees long h) run

-- what a job leaves that names a file
pub file_left : (file : Option Text) (trace : Bool) (name : List ℕ) (named : List ℕ → List ℕ)
    (front before left : List ℕ) → file ≡ Some name → front ≡ take (longest + 1) (named name)
    → IsLeftBySource trace front before left → IsLeftRead file trace named before left
file_left file trace name named front before left is fronts h = left_with_file name left is
    (left_of_front (longest + 1) trace (named name) before left (omega arith)
    (subst (λ (s : List ℕ). IsLeftBySource trace s before left) fronts h))

pub reader_left : (file : Option Text) (trace : Bool) (named : List ℕ → List ℕ) (before left : List ℕ) → file ≡ None
    → left ≡ drop (longest + 1) before → IsLeftRead file trace named before left
reader_left file trace named before left none is =
    subst (λ (l : List ℕ). IsLeftRead file trace named before l) (sym is) (left_without_file none)

-- a file's source that is refused, by its front
pub front_refused : (file : Option Text) (name : List ℕ) (named : List ℕ → List ℕ) (front : List ℕ) → file ≡ Some name
    → front ≡ take (longest + 1) (named name) → IsRefusedFile file named → HasNoProgram front
front_refused file name named front is fronts h =
    let none : HasNoProgram (named name) = subst (λ (f : Option Text). IsRefusedFile f named) is h in
    subst HasNoProgram (sym fronts)
    (λ trees compiles. none trees (front_compiles (longest + 1) (named name) trees (omega arith) compiles))

pub no_file_refused : (file : Option Text) (named : List ℕ → List ℕ) → file ≡ None → IsRefusedFile file named → ⊥
no_file_refused file named none h = subst (λ (f : Option Text). IsRefusedFile f named) none h

-- what a job leaves that has a plan, and one whose choices are refused
pub planned_left : (w : Wanted) (p : Planned) (chosen : Chosen) (named : List ℕ → List ℕ) (before left : List ℕ)
    → AreGivenBy w.choices w.seed chosen → p ≡ with_choices w chosen
    → IsLeftRead w.file p.trace named before left → IsLeft w named before left
planned_left w p chosen named before left given is h =
    left_planned chosen left given
    (subst (λ (q : Planned). IsLeftRead w.file q.trace named before left) is h)

pub unplanned_left : (w : Wanted) (named : List ℕ → List ℕ) (before : List ℕ) (job_end : JobEnd)
    → EndsByLine (AreRefused w.choices w.seed) job_end → WhereAnswered job_end (IsLeft w named before before)
unplanned_left w named before (Answered status (message.Notice line)) h = left_unplanned line h.1
unplanned_left w named before (Answered status message.Nothing) h = absurd h
unplanned_left w named before (Answered status (message.Text text)) h = absurd h
unplanned_left w named before NoMemory h = tt
unplanned_left w named before InputTooLong h = tt
unplanned_left w named before FileNotRead h = tt
unplanned_left w named before ReadFailed h = tt
unplanned_left w named before WriteFailed h = tt
