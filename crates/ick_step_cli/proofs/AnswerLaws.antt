-- The answer of a run, from what a session or a trace has written.
use Rattle.std.proofs.Common.{◌≡◌, ◌∙◌, ◌++◌, ◌≤◌, ℕ, Bool, true, false, List, [], Option, Some, ap, ap₂, arith, refl, subst}
use Rattle.std.proofs.Common.{inl, inr, sym, length}
use Rattle.std.specs.Prelude.{map, option_map}
use Rattle.std.proofs.lemmas.List.{take_all}
use Rattle.ick_source.specs.Cut.{IsCut as Cuts}
use Rattle.ick_source.specs.Refusals.{Compiles}
use Rattle.ick_job.specs.Input.{longest_input}
use Rattle.ick_code.specs.Compiled.{IsCompiled}
use Rattle.ick_code.specs.declared.code.Code.{Code}
use Rattle.ick_backtrack.specs.Asked.{finish_of}
use Rattle.ick_backtrack.specs.Machine.{Program}
use Rattle.ick_inspect.specs.Positions.{AreAt, OneStart, position_in, texts_of}
use Rattle.ick_inspect.specs.declared.positions.LineColumn.{LineColumn}
use Rattle.ick_job.specs.Answer.{Answer, shown}
use Rattle.ick_explorer.specs.declared.errors.RunsError.{RunsError}
use Rattle.ick_job.specs.JobEnd.{EndsBy, refused_job_end}
use Rattle.ick_job.specs.declared.job_end.JobEnd.{JobEnd}
use Rattle.ick_job.specs.declared.job_end.JobEnd.TheVariants.{Answered, NoMemory, InputTooLong, FileNotRead, ReadFailed}
use Rattle.ick_job.specs.declared.job_end.JobEnd.TheVariants.{WriteFailed}
use Rattle.ick_step.specs.Seen.{Seen}
use Rattle.ick_session.specs.Session.{Settings}
use Rattle.ick_step_cli.specs.Serve.{Gives, IsCutShort, written}
use Rattle.ick_step_cli.specs.Talk.{IsCut, IsOver, Lines, Writes, at_end, at_quit, output_text}
use Rattle.ick_step_cli.specs.Plan.{Planned}
use Rattle.ick_step_cli.specs.Tool.{ArePositions, IsBegun, IsRunAnswer, IsSourceAnswer, IsSourceBegun, Placed, compiled}
use Rattle.ick_step_cli.specs.Tool.{lines_too_many, run_of, talked, talking, traced, traced_whole}
use Rattle.ick_step_cli.specs.Trace.{IsTraceError, begin, stop_status, stop_text, trace_answer, trace_text}
use Rattle.ick_step_cli.specs.Traced.{IsTraced}
use Rattle.ick_step_cli.specs.declared.trace.Stopped.{Stopped}
use Rattle.ick_step_cli.proofs.Giving.{gives_so}

-- a session that is over has an output
over_output : (f : Settings) (positions : List LineColumn) (s : Seen) (lines : Lines) (before after : List ℕ) →
    IsOver f positions s lines before after →
    (output : List ℕ) × IsOver f positions s lines [] output × (after ≡ before ++ output)
over_output f positions s lines before after (at_end g t text talks e) =
    (output_text lines.terminal f positions s text, at_end g t text talks refl, e)
over_output f positions s lines before after (at_quit done left line g h t u text last lines_are talks answers e) = (
  output_text lines.terminal f positions s text,
  at_quit done left line g h t u text last lines_are talks answers refl,
  e,
)

cut_begun : (f : Settings) (positions : List LineColumn) (lines : Lines) (before after : List ℕ) →
    IsCut f positions (begin f) lines before after → IsCutShort (IsBegun f positions lines false) before after
cut_begun f positions lines before after h =
    written (output_text lines.terminal f positions (begin f) h.text) h.count
    (talking h.done h.left h.set h.last h.text h.lines_are h.talks) h.written

session_gives : (f : Settings) (positions : List LineColumn) (lines : Lines) (job_end : JobEnd)
    (before after : List ℕ) → Writes f positions (begin f) lines job_end before after →
    Gives (IsRunAnswer f positions lines false) (IsBegun f positions lines false) job_end before after
session_gives f positions lines (Answered status message) before after h =
    let over = over_output f positions (begin f) lines before after h.2 in
    (shown over.0, talked over.0 over.1, ((h.0, h.1), over.2))
session_gives f positions lines InputTooLong before after h =
    let cut = h.1 in (
      _,
      lines_too_many (output_text lines.terminal f positions (begin f) cut.text) cut.count h.0
          (talking cut.done cut.left cut.set cut.last cut.text cut.lines_are cut.talks),
      ((refl, refl), cut.written),
    )
session_gives f positions lines FileNotRead before after h = absurd h
session_gives f positions lines NoMemory before after h = cut_begun f positions lines before after h
session_gives f positions lines ReadFailed before after h = cut_begun f positions lines before after h
session_gives f positions lines WriteFailed before after h = cut_begun f positions lines before after h

-- .. over what the session keeps
pub talk_gives : (f g : Settings) (positions : List LineColumn) (s : Seen) (lines : Lines) (job_end : JobEnd)
    (before after : List ℕ) → g ≡ f → s ≡ begin f → Writes g positions s lines job_end before after →
    Gives (IsRunAnswer f positions lines false) (IsBegun f positions lines false) job_end before after
talk_gives f g positions s lines job_end before after same starts h =
    session_gives f positions lines job_end before after
    (subst (λ (x : Settings). Writes x positions (begin f) lines job_end before after) same
    (subst (λ (x : Seen). Writes g positions x lines job_end before after) starts h))

-- a trace that was written has the answer of its run
pub trace_gives : (f : Settings) (code : Code) (positions : List LineColumn) (stopped : Stopped) (job_end : JobEnd)
    (before after : List ℕ) (lines : Lines) → IsCompiled f.program code →
    IsTraced f code positions stopped before after →
    EndsBy (stop_status (option_map finish_of stopped.end)) (stop_text (option_map finish_of stopped.end) stopped.steps)
    job_end → Gives (IsRunAnswer f positions lines true) (IsBegun f positions lines true) job_end before after
trace_gives f code positions stopped (Answered status message) before after lines whole h ends =
    let t = h.seen in
    let stops = h.has_stopped in
    let text = ap₂ stop_text stops.end stops.steps in (
      trace_answer f.limit code positions t,
      traced code t whole stops.run,
      ((ends.0 ∙ ap stop_status stops.end, ends.1 ∙ text), h.written),
    )
trace_gives f code positions stopped NoMemory before after lines whole h ends =
    let t = h.seen in
    let stops = h.has_stopped in
    let text = trace_text code positions t in
    written text (length text) (traced_whole code t whole stops.run)
    (h.written ∙ ap (λ l. before ++ l) (sym (take_all (length text) text (omega arith))))
trace_gives f code positions stopped InputTooLong before after lines whole h ends = absurd ends
trace_gives f code positions stopped FileNotRead before after lines whole h ends = absurd ends
trace_gives f code positions stopped ReadFailed before after lines whole h ends = absurd ends
trace_gives f code positions stopped WriteFailed before after lines whole h ends = absurd ends

-- .. at the positions of a source
pub placed_gives : (f : Settings) (source : List ℕ) (positions : List LineColumn) (lines : Lines) (trace is : Bool)
    (job_end : JobEnd) (before after : List ℕ) → trace ≡ is → ArePositions source f.program positions →
    Gives (IsRunAnswer f positions lines is) (IsBegun f positions lines is) job_end before after →
    Gives (λ answer. Placed source f.program (λ places. IsRunAnswer f places lines trace answer))
    (λ text. Placed source f.program (λ places. IsBegun f places lines trace text)) job_end before after
placed_gives f source positions lines trace is job_end before after same placed h =
    gives_so job_end before after
    (λ answer run. (positions, placed, subst (λ (b : Bool). IsRunAnswer f positions lines b answer) (sym same) run))
    (λ text begun. (positions, placed, subst (λ (b : Bool). IsBegun f positions lines b text) (sym same) begun)) h

-- an error of a trace ends the work by itself
pub refused_gives : (A : Answer → Type 0) (X : List ℕ → Type 0) (e : RunsError) (job_end : JobEnd)
    (before after : List ℕ) → job_end ≡ refused_job_end e → IsTraceError e → IsCutShort X before after →
    Gives A X job_end before after
refused_gives A X e job_end before after is (inl memory) h =
    subst (λ (x : JobEnd). Gives A X x before after) (sym (is ∙ ap refused_job_end memory)) h
refused_gives A X e job_end before after is (inr write) h =
    subst (λ (x : JobEnd). Gives A X x before after) (sym (is ∙ ap refused_job_end write)) h

-- the positions that were found are those of the source
pub are_positions : (source : List ℕ) (program : Program) (positions : List LineColumn) → OneStart → Cuts source program →
    ((starts : List ℕ) → AreAt source 0 (texts_of program) starts → positions ≡ map (position_in source) starts) →
    ArePositions source program positions
are_positions source program positions one cut found =
    let starts = one source program cut in (starts.0, starts.1, found starts.0 starts.1)

-- the answer of a program that a source compiles to
pub compiled_gives : (p : Planned) (input : Option (List ℕ)) (lines : Lines) (source : List ℕ)
    (trees program : Program) (bytes items : List ℕ) (job_end : JobEnd) (before after : List ℕ) →
    Compiles source trees → program ≡ trees → bytes ≡ items → Some items ≡ input → length items ≤ longest_input →
    (Cuts source program →
    Gives (λ answer. Placed source program (λ places.
    IsRunAnswer (run_of program bytes p) places lines p.trace answer))
    (λ text. Placed source program (λ places. IsBegun (run_of program bytes p) places lines p.trace text))
    job_end before after) →
    Gives (IsSourceAnswer p input lines source) (IsSourceBegun p input lines source) job_end before after
compiled_gives p input lines source trees program bytes items job_end before after compiles is value read fits h =
    let all : Compiles source program = subst (λ (t : Program). Compiles source t) (sym is) compiles in
    let input_is : input ≡ Some bytes = sym read ∙ ap (λ (b : List ℕ). Some b) (sym value) in
    let short : length bytes ≤ longest_input = subst (λ (b : List ℕ). length b ≤ longest_input) (sym value) fits in
    gives_so job_end before after
    (λ answer run. compiled program bytes run.0 answer all input_is short run.1 run.2)
    (λ text begun. record {
      program = program;
      bytes = bytes;
      positions = begun.0;
      compiles = all;
      input_is = input_is;
      fits = short;
      placed = begun.1;
      is = begun.2;
    })
    (h (let whole = all in whole.cut))
