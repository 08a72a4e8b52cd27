-- All answers of a job end alike.
use Rattle.std.proofs.Common.{◌≡◌, ◌∙◌, ◌<◌, ◌+◌, ◌^◌, ℕ, Bool, List, [], Option, Some, None, ap}
use Rattle.std.proofs.Common.{ap₂, arith, length, refl, subst, sym}
use Rattle.std.specs.Prelude.{unwrap_or}
use Rattle.clap.specs.Words.{Text}
use Rattle.ick_bits.specs.Faults.{message_of}
use Rattle.ick_source.proofs.RefusalLemmas.{compiles_unique, refused_not, refused_unique}
use Rattle.ick_code.specs.declared.code.Code.{Code}
use Rattle.ick_backtrack.specs.Machine.{Program}
use Rattle.ick_inspect.specs.declared.positions.LineColumn.{LineColumn}
use Rattle.ick_runs.specs.Chosen.{Chosen, listed}
use Rattle.ick_step.specs.Seen.{Seen}
use Rattle.ick_session.specs.Session.{Settings}
use Rattle.ick_job.specs.Answer.{Answer, refusal}
use Rattle.ick_job.specs.Choices.{most_choices}
use Rattle.ick_job.specs.Notice.{notice_text}
use Rattle.ick_job.proofs.OneReading.{choices_unique}
use Rattle.ick_step_cli.specs.Job.{Wanted}
use Rattle.ick_step_cli.specs.Laws.{EndsAlike}
use Rattle.ick_step_cli.specs.Plan.{AreGivenBy, Planned, by_seed, by_text, with_choices}
use Rattle.ick_step_cli.specs.Talk.{Lines}
use Rattle.ick_step_cli.specs.Tool.{IsReadAnswer, IsRunAnswer, IsSourceAnswer, IsStepAnswer, compiled, input_not_read}
use Rattle.ick_step_cli.specs.Tool.{input_too_long, lines_too_many, not_read, planned, read, refused, run_of, talked}
use Rattle.ick_step_cli.specs.Tool.{too_long, traced, unplanned}
use Rattle.ick_step_cli.specs.Trace.{IsRun, trace_answer}
use Rattle.ick_step_cli.proofs.PlanLaws.{given_not_refused, refused_once}
use Rattle.ick_step_cli.proofs.RunLaws.{same_trace}

alike : (a b : Answer) → b ≡ a → EndsAlike a b
alike a b same = record { errors = ap (λ (x : Answer). x.errors) same; status = ap (λ (x : Answer). x.status) same }

-- traces of one run end alike, whatever the code and the positions
same_traces : (f : Settings) (code other : Code) (positions places : List LineColumn) (t u : Seen) → IsRun f t →
    IsRun f u →
    EndsAlike (trace_answer f.limit code positions t) (trace_answer f.limit other places u)
same_traces f code other positions places t u h g =
    let same = same_trace f code positions t u h g in record {
      errors = ap (λ (x : Answer). x.errors) same;
      status = ap (λ (x : Answer). x.status) same;
    }

same_run : (f : Settings) (positions places : List LineColumn) (lines : Lines) (trace : Bool) (a b : Answer) →
    length lines.all + 1 < 2 ^ 64 → IsRunAnswer f positions lines trace a → IsRunAnswer f places lines trace b →
    EndsAlike a b
same_run f positions places lines trace a b few (talked out g) (talked other h) =
    record { errors = refl; status = refl }
same_run f positions places lines trace a b few (talked out g) (lines_too_many text n many h) = absurd (omega arith)
same_run f positions places lines trace a b few (lines_too_many text n many g) h = absurd (omega arith)
same_run f positions places lines trace a b few (traced code t whole g) (traced other u all h) =
    same_traces f code other positions places t u g h

some_same : (x y : List ℕ) → Some x ≡ Some y → x ≡ y
some_same x y e = cc

same_source : (p : Planned) (input : Option (List ℕ)) (lines : Lines) (source : List ℕ) (a b : Answer) →
    length lines.all + 1 < 2 ^ 64 → IsSourceAnswer p input lines source a → IsSourceAnswer p input lines source b →
    EndsAlike a b
same_source p input lines source a b few (too_long g) (too_long h) = record { errors = refl; status = refl }
same_source p input lines source a b few (too_long g) (refused kind n h) = let fits = h.fits in absurd (omega arith)
same_source p input lines source a b few (too_long g) (input_not_read q h none) =
    let fits = h.fits in absurd (omega arith)
same_source p input lines source a b few (too_long g) (input_too_long q i h is long) =
    let fits = h.fits in absurd (omega arith)
same_source p input lines source a b few (too_long g) (compiled q i places y h is fits placed run) =
    let short = h.fits in absurd (omega arith)
same_source p input lines source a b few (refused kind n g) (too_long h) = let fits = g.fits in absurd (omega arith)
same_source p input lines source a b few (refused kind n g) (refused other m h) =
    let same = refused_unique g h in
    alike _ _ (ap₂ (λ k i. refusal 2 (message_of k i [])) same.0 same.1)
same_source p input lines source a b few (refused kind n g) (input_not_read q h none) = absurd (refused_not g q h)
same_source p input lines source a b few (refused kind n g) (input_too_long q i h is long) = absurd (refused_not g q h)
same_source p input lines source a b few (refused kind n g) (compiled q i places y h is fits placed run) =
    absurd (refused_not g q h)
same_source p input lines source a b few (input_not_read q g none) (too_long h) =
    let fits = g.fits in absurd (omega arith)
same_source p input lines source a b few (input_not_read q g none) (refused kind n h) = absurd (refused_not h q g)
same_source p input lines source a b few (input_not_read q g none) (input_not_read r h isnt) =
    record { errors = refl; status = refl }
same_source p input lines source a b few (input_not_read q g none) (input_too_long r i h is long) =
    let e : None ≡ Some i = sym none ∙ is in absurd (cc)
same_source p input lines source a b few (input_not_read q g none) (compiled r i places y h is fits placed run) =
    let e : None ≡ Some i = sym none ∙ is in absurd (cc)
same_source p input lines source a b few (input_too_long q i g is long) (too_long h) =
    let fits = g.fits in absurd (omega arith)
same_source p input lines source a b few (input_too_long q i g is long) (refused kind n h) = absurd (refused_not h q g)
same_source p input lines source a b few (input_too_long q i g is long) (input_not_read r h none) =
    let e : None ≡ Some i = sym none ∙ is in absurd (cc)
same_source p input lines source a b few (input_too_long q i g is long) (input_too_long r j h so more) =
    record { errors = refl; status = refl }
same_source p input lines source a b few (input_too_long q i g is long) (compiled r j places y h so fits placed run) =
    let same = ap (λ (l : List ℕ). length l) (some_same i j (sym is ∙ so)) in absurd (omega arith)
same_source p input lines source a b few (compiled q i positions x g is fits at run) (too_long h) =
    let short = g.fits in absurd (omega arith)
same_source p input lines source a b few (compiled q i positions x g is fits at run) (refused kind n h) =
    absurd (refused_not h q g)
same_source p input lines source a b few (compiled q i positions x g is fits at run) (input_not_read r h none) =
    let e : None ≡ Some i = sym none ∙ is in absurd (cc)
same_source p input lines source a b few (compiled q i positions x g is fits at run) (input_too_long r j h so long) =
    let same = ap (λ (l : List ℕ). length l) (some_same i j (sym is ∙ so)) in absurd (omega arith)
same_source p input lines source a b few (compiled q i positions x g is fits at run)
    (compiled r j places y h so low placed other) =
    same_run (run_of q i p) positions places lines p.trace a b few run
    (subst (λ (t : Program). IsRunAnswer (run_of t i p) places lines p.trace b) (compiles_unique h g)
    (subst (λ (l : List ℕ). IsRunAnswer (run_of r l p) places lines p.trace b) (some_same j i (sym so ∙ is)) other))

same_read : (p : Planned) (input : Option (List ℕ)) (lines : Lines) (source : Option (List ℕ)) (a b : Answer) →
    length lines.all + 1 < 2 ^ 64 → IsReadAnswer p input lines source a → IsReadAnswer p input lines source b →
    EndsAlike a b
same_read p input lines None a b few not_read not_read = record { errors = refl; status = refl }
same_read p input lines (Some source) a b few (read s x g) (read t y h) = same_source p input lines source a b few g h

-- the choices that a job gives
given_once : (text : Option Text) (seed : Option ℕ) (c d : Chosen) → AreGivenBy text seed c → AreGivenBy text seed d →
    d ≡ c
given_once text None c d (by_text t x g) (by_text u y h) =
    ap (λ (z : Option (List Bool)). listed (unwrap_or z [])) (choices_unique t most_choices x y g h)
given_once None (Some seed) c d (by_seed n) (by_seed m) = refl
given_once (Some text) (Some seed) c d given h = elim given [ ]

pub same_end : (w : Wanted) (input : Option (List ℕ)) (lines : Lines) (source : Option (List ℕ))
    (a b : Answer) →
    length lines.all + 1 < 2 ^ 64 → IsStepAnswer w input lines source a → IsStepAnswer w input lines source b →
    EndsAlike a b
same_end w input lines source a b few (unplanned line g) (unplanned other h) =
    alike _ _ (ap (λ n. refusal 64 (notice_text n)) (refused_once w.choices w.seed line other g h))
same_end w input lines source a b few (unplanned line g) (planned chosen y given h) =
    absurd (given_not_refused w.choices w.seed chosen line given g)
same_end w input lines source a b few (planned chosen x given g) (unplanned line h) =
    absurd (given_not_refused w.choices w.seed chosen line given h)
same_end w input lines source a b few (planned chosen x given g) (planned other y too h) =
    same_read (with_choices w chosen) input lines source a b few g
    (subst (λ (c : Chosen). IsReadAnswer (with_choices w c) input lines source b)
    (given_once w.choices w.seed chosen other given too) h)
