-- The lines of a trace, step by step.
use Rattle.std.proofs.Common.{◌≡◌, ◌≢◌, ◌∙◌, ◌+◌, ◌<◌, ◌≤◌, ◌++◌, ◌∷◌, ℕ, zero, suc, Bool, true, false, List, []}
use Rattle.std.proofs.Common.{Option, Some, None, ap, ap₂, refl, sym, subst, arith, add-one, append_assoc, length}
use Rattle.std.proofs.Common.{length-append, take, get_or, inl, inr, eq-eqb, ne_eqb, ◌⊎◌}
use Rattle.std.specs.Prelude.{is_some, option_map, unwrap_or, Result, Ok, Err, OnErr}
use Rattle.std.specs.Int.{from_bool}
use Rattle.std.specs.List.{flat_map, range_with_len}
use Rattle.std.proofs.lemmas.List.{append-nil, get_or_append_left, take-append-le, take_all}
use Rattle.std.proofs.Math.Nat.{eq-or-lt_of_le}
use Rattle.std.proofs.Math.Seq.{get_or-append_seam, take-append-add}
use Rattle.ick_code.specs.Compiled.{IsCompiled}
use Rattle.ick_code.specs.declared.code.Code.{Code}
use Rattle.ick_code.specs.meaning.Move.{Asking, plain, choice, ended, advance, ask}
use Rattle.ick_code.specs.meaning.State.{State}
use Rattle.ick_backtrack.specs.Asked.{Finish, IsGoing, asked_at_end, asked_of, at_limit, finish_of, finished}
use Rattle.ick_backtrack.specs.Machine.{Machine, Program}
use Rattle.ick_backtrack.specs.declared.asking.Ask.{Ask}
use Rattle.ick_backtrack.specs.declared.asking.Ask.TheVariants.{Ended}
use Rattle.ick_backtrack.specs.declared.asking.End.{End}
use Rattle.ick_inspect.specs.Text.{Adds}
use Rattle.ick_inspect.specs.declared.positions.LineColumn.{LineColumn}
use Rattle.ick_inspect.specs.declared.text.Text.{Text}
use Rattle.ick_inspect.proofs.AddLaws.{pieces_more, range_more}
use Rattle.ick_runs.specs.Chosen.{Chosen}
use Rattle.ick_step.specs.History.{after, choices_in, done_by}
use Rattle.ick_step.specs.Seen.{Seen, present, with_answer}
use Rattle.ick_session.specs.Shown.{here_text}
use Rattle.ick_session.specs.Session.{Settings}
use Rattle.ick_session.specs.Travel.{answer_to, next_answer, state_after}
use Rattle.ick_session.proofs.CountLaws.{no_choice, one_choice}
use Rattle.ick_session.proofs.TravelLaws.{Made, made_more, none_made, stops_over, stops_stuck}
use Rattle.ick_step_cli.specs.Serve.{IsCutShort, written}
use Rattle.ick_step_cli.specs.Tool.{IsBegun, traced_whole, tracing}
use Rattle.ick_step_cli.specs.Talk.{Lines}
use Rattle.ick_step_cli.specs.Trace.{IsRun, IsRunning, begin, nowhere, step_lines, steps_text, stop_at}
use Rattle.ick_step_cli.specs.Trace.{trace_text}
use Rattle.ick_step_cli.specs.Traced.{Buffers, Flushes, HasTraced, IsTraced, flushed, kept, traced_run}
use Rattle.ick_step_cli.specs.declared.trace.Stopped.{Stopped}

pub on_err : {A E P : Type 0} (r : Result A E) → P → OnErr r P
on_err (Ok x) h = tt
on_err (Err e) h = h

pub small_bool : (b : Bool) → from_bool b ≤ 1
small_bool true = omega arith
small_bool false = omega arith

pub done_is : (a : Option Bool) → unwrap_or a false ≡ done_by a
done_is None = refl
done_is (Some b) = refl

-- the state behind one more step
after_one : (p : Program) (s : State) (xs : List (Option Bool)) (a : Option Bool) →
    after p s (xs ++ a ∷ []) ≡ advance p (after p s xs) (done_by a)
after_one p s [] a = refl
after_one p s (x ∷ xs) a = after_one p (advance p s (done_by x)) xs a

-- the pieces of one more number, from 0 on
next_piece : (f : ℕ → List ℕ) (n : ℕ) →
    flat_map f (range_with_len 0 (n + 1)) ≡ flat_map f (range_with_len 0 n) ++ f n
next_piece f n =
    let alike : 0 + n ≡ n = omega arith in
    ap (flat_map f) (range_more 0 n ∙ ap (λ k. range_with_len 0 n ++ k ∷ []) alike)
    ∙ pieces_more f (range_with_len 0 n) n

same_pieces : (f g : ℕ → List ℕ) (n : ℕ) → ((k : ℕ) → k < n → f k ≡ g k) →
    flat_map f (range_with_len 0 n) ≡ flat_map g (range_with_len 0 n)
same_pieces f g zero h = refl
same_pieces f g (suc n) h =
    subst (λ m. flat_map f (range_with_len 0 m) ≡ flat_map g (range_with_len 0 m)) (add-one n)
    (next_piece f n ∙ (ap₂ (λ x y. x ++ y) (same_pieces f g n (λ k lt. h k (omega arith))) (h n (omega arith))
    ∙ sym (next_piece g n)))

-- the lines of one more step
pub steps_more : (code : Code) (positions : List LineColumn) (t : Seen) (a : Option Bool) →
    steps_text code positions (with_answer a t)
    ≡ steps_text code positions t ++ step_lines t.program code positions (length t.answers) (present t) a
steps_more code positions t a =
    let n = length t.answers in
    let u = with_answer a t in
    let lines : Seen → ℕ → List ℕ =
    λ s k. step_lines t.program code positions k (state_after s k) (get_or s.answers k None) in
    let size : length u.answers ≡ n + 1 = length-append t.answers (a ∷ []) in
    let earlier : (k : ℕ) → k < n → lines u k ≡ lines t k = λ k lt.
    ap₂ (step_lines t.program code positions k)
    (ap (after t.program t.start) (take-append-le k t.answers (a ∷ []) (omega arith)))
    (get_or_append_left t.answers (a ∷ []) None k lt) in
    let last : lines u n ≡ step_lines t.program code positions n (present t) a =
    ap₂ (step_lines t.program code positions n)
    (ap (after t.program t.start) (take-append-le n t.answers (a ∷ []) (omega arith)
    ∙ take_all n t.answers (omega arith)))
    (get_or-append_seam t.answers a [] None) in
    ap (λ k. flat_map (lines u) (range_with_len 0 k)) size
    ∙ (next_piece (lines u) n ∙ ap₂ (λ x y. x ++ y) (same_pieces (lines u) (lines t) n earlier) last)

-- a run that goes on: its steps so far, and their lines
pub record Tracing (f : Settings) (code : Code) (positions : List LineColumn) (m : Machine) (steps chosen : ℕ) (told : Bool)
    (before now : List ℕ) (out : Text) : Type 0 where
  pub seen : Seen
  pub made : Made f.given nowhere steps (begin f) seen
  pub program : m.program ≡ seen.program
  pub state : m.state ≡ present seen
  pub chosen_is : chosen ≡ length (choices_in seen.answers)
  pub buffers : Buffers told (steps_text code positions seen) before now out

pub traces_none : (m : Machine) (chosen : Chosen) (limit : ℕ) (code : Code) (positions : List LineColumn) (told : Bool)
    (before : List ℕ) (out : Text) → out.bytes.items ≡ [] →
    Tracing (traced_run m chosen limit) code positions m 0 0 told before before out
traces_none m chosen limit code positions told before out none = record {
  seen = begin (traced_run m chosen limit);
  made = none_made chosen nowhere (begin (traced_run m chosen limit));
  program = refl;
  state = refl;
  chosen_is = refl;
  buffers = record {
    said = [];
    pending = [];
    text_is = refl;
    written = λ _. sym (append-nil before);
    says = λ _. none;
  };
}

-- more lines are in the buffer
more_buffered : (told : Bool) (text more all before now : List ℕ) (out new : Text) → all ≡ text ++ more →
    Buffers told text before now out → Adds out new more → Buffers told all before now new
more_buffered told text more all before now out new e h adds = record {
  said = h.said;
  pending = h.pending ++ more;
  text_is = e ∙ (ap (λ l. l ++ more) h.text_is ∙ append_assoc h.said h.pending more);
  written = h.written;
  says = λ sound. adds.bytes sound ∙ ap (λ l. l ++ more) (h.says (adds.sound sound));
}

counted : (xs : List (Option Bool)) (a : Option Bool) (k n : ℕ) (some : Bool) → k ≡ length (choices_in xs) →
    some ≡ is_some a → n ≡ k + from_bool some → n ≡ length (choices_in (xs ++ a ∷ []))
counted xs None k n some e is f =
    let same = no_choice xs 1 in
    let more : from_bool some ≡ 0 = ap from_bool is in omega arith
counted xs (Some b) k n some e is f =
    let same = one_choice xs b in
    let more : from_bool some ≡ 1 = ap from_bool is in omega arith

-- .. after one more step
pub traces_more : (f : Settings) (code : Code) (positions : List LineColumn) (m n : Machine) (steps chosen chosen' : ℕ)
    (told : Bool) (before now : List ℕ) (out new : Text) (a : Option Bool) (some : Bool) →
    (h : Tracing f code positions m steps chosen told before now out) →
    Some a ≡ answer_to f.given chosen (ask m.program m.state) → n.program ≡ m.program →
    n.state ≡ advance m.program m.state (done_by a) →
    Adds out new (step_lines m.program code positions steps m.state a) →
    some ≡ is_some a → chosen' ≡ chosen + from_bool some →
    Tracing f code positions n (steps + 1) chosen' told before now new
traces_more f code positions m n steps chosen chosen' told before now out new a some h is same moved adds e counts =
    let t = h.seen in
    let made = h.made in
    let count = made.count in
    let size : steps ≡ length t.answers = omega arith in
    let given : Some a ≡ next_answer f.given t =
    is ∙ ap₂ (answer_to f.given) h.chosen_is (ap₂ ask h.program h.state) in
    let lines : Adds out new (step_lines t.program code positions (length t.answers) (present t) a) =
    subst (λ k. Adds out new (step_lines t.program code positions k (present t) a)) size
    (subst (λ s. Adds out new (step_lines t.program code positions steps s a)) h.state
    (subst (λ (p : Program). Adds out new (step_lines p code positions steps m.state a)) h.program adds)) in
    record {
      seen = with_answer a t;
      made = made_more f.given nowhere steps (begin f) t (with_answer a t) h.made (a, given, refl) refl;
      program = same ∙ h.program;
      state = moved ∙ (ap₂ (λ p s. advance p s (done_by a)) h.program h.state
          ∙ sym (after_one t.program t.start t.answers a));
      chosen_is = counted t.answers a chosen chosen' some h.chosen_is e counts;
      buffers = more_buffered told _ _ _ before now out new (steps_more code positions t a) h.buffers lines;
    }

-- .. and after a flush
flushes : (told : Bool) (text before now after : List ℕ) (out new : Text) → Buffers told text before now out →
    Flushes told out new now after → Buffers told text before after new
flushes told text before now after out new h (kept e same) = record {
  said = h.said;
  pending = h.pending;
  text_is = h.text_is;
  written = λ is. same ∙ h.written is;
  says = subst (λ (x : Text). x.refused ≡ false → x.bytes.items ≡ h.pending) (sym e) h.says;
}
flushes told text before now after out new h (flushed none all) = record {
  said = text;
  pending = [];
  text_is = sym (append-nil text);
  written = λ is. let told_all = all is in
      told_all.1 ∙ (ap₂ (λ x y. x ++ y) (h.written is) (h.says told_all.0)
      ∙ (append_assoc before h.said h.pending ∙ ap (λ l. before ++ l) (sym h.text_is)));
  says = λ _. none;
}

pub traces_flushed : (f : Settings) (code : Code) (positions : List LineColumn) (m : Machine) (steps chosen : ℕ)
    (told : Bool) (before now after : List ℕ) (out new : Text) →
    Tracing f code positions m steps chosen told before now out → Flushes told out new now after →
    Tracing f code positions m steps chosen told before after new
traces_flushed f code positions m steps chosen told before now after out new h moves = record {
  seen = h.seen;
  made = h.made;
  program = h.program;
  state = h.state;
  chosen_is = h.chosen_is;
  buffers = flushes told _ before now after out new h.buffers moves;
}

-- what was written if something fails
pub cut_now : (told : Bool) (text before now : List ℕ) (out : Text) (IsBegun : List ℕ → Type 0) →
    Buffers told text before now out → told ≡ true → IsBegun text → IsCutShort IsBegun before now
cut_now told text before now out IsBegun h is begun =
    written text (length h.said) begun (h.written is ∙ ap (λ l. before ++ l)
    (sym (ap (take (length h.said)) h.text_is
    ∙ (take-append-le (length h.said) h.said h.pending (omega arith) ∙ take_all (length h.said) h.said (omega arith)))))

taken : (n : ℕ) (pending : List ℕ) (out : Text) (r : Bool) → out.refused ≡ r →
    (out.refused ≡ false → out.bytes.items ≡ pending) → (out.refused ≡ true → n ≡ 0) →
    take n out.bytes.items ≡ take n pending
taken n pending out true e says none = let z = none e in rw z refl
taken n pending out false e says none = ap (take n) (says e)

pub cut_flush : (told : Bool) (text before now after : List ℕ) (out : Text) (IsBegun : List ℕ → Type 0) (n : ℕ) →
    Buffers told text before now out → told ≡ true → IsBegun text → after ≡ now ++ take n out.bytes.items →
    (out.refused ≡ true → n ≡ 0) → IsCutShort IsBegun before after
cut_flush told text before now after out IsBegun n h is begun e none =
    written text (length h.said + n) begun
    (e ∙ (ap₂ (λ x y. x ++ y) (h.written is) (taken n h.pending out out.refused refl h.says none)
    ∙ (append_assoc before h.said (take n h.pending)
    ∙ ap (λ l. before ++ l) (sym (ap (take (length h.said + n)) h.text_is ∙ take-append-add h.said h.pending n)))))

-- the whole text, if the buffer was flushed
pub all_written : (told : Bool) (text before now after : List ℕ) (out : Text) → Buffers told text before now out →
    told ≡ true → out.refused ≡ false → after ≡ now ++ out.bytes.items → after ≡ before ++ text
all_written told text before now after out h is sound e =
    e ∙ (ap₂ (λ x y. x ++ y) (h.written is) (h.says sound)
    ∙ (append_assoc before h.said h.pending ∙ ap (λ l. before ++ l) (sym h.text_is)))

-- the steps so far are those of a run within its limit
pub runs_on : (f : Settings) (code : Code) (positions : List LineColumn) (m : Machine) (steps chosen : ℕ) (told : Bool)
    (before now : List ℕ) (out : Text) (h : Tracing f code positions m steps chosen told before now out) →
    steps ≤ f.limit → IsRunning f h.seen
runs_on f code positions m steps chosen told before now out h within =
    let made = h.made in
    let count = made.count in
    record {
      on = record {
        program = made.program;
        start = made.start;
        answers = made.answers;
        further = omega arith;
        within = omega arith;
      };
      given = record { each = λ k low high. made.each k high low };
    }

-- what was written if a step can't be made, or a flush fails
pub trace_cut : (f : Settings) (code : Code) (positions : List LineColumn) (m : Machine) (steps chosen : ℕ) (told : Bool)
    (before now : List ℕ) (out : Text) → Tracing f code positions m steps chosen told before now out →
    steps ≤ f.limit → IsCompiled f.program code → told ≡ true → (lines : Lines) →
    IsCutShort (IsBegun f positions lines true) before now
trace_cut f code positions m steps chosen told before now out h within compiled is lines =
    cut_now told _ before now out (IsBegun f positions lines true) h.buffers is
    (tracing code h.seen compiled (runs_on f code positions m steps chosen told before now out h within))

pub trace_cut_flush : (f : Settings) (code : Code) (positions : List LineColumn) (m : Machine) (steps chosen : ℕ)
    (told : Bool) (before now after : List ℕ) (out : Text) (n : ℕ) →
    Tracing f code positions m steps chosen told before now out → steps ≤ f.limit → IsCompiled f.program code →
    told ≡ true → after ≡ now ++ take n out.bytes.items → (out.refused ≡ true → n ≡ 0) →
    (lines : Lines) → IsCutShort (IsBegun f positions lines true) before after
trace_cut_flush f code positions m steps chosen told before now after out n h within compiled is e none lines =
    cut_flush told _ before now after out (IsBegun f positions lines true) n h.buffers is
    (tracing code h.seen compiled (runs_on f code positions m steps chosen told before now out h within)) e none

-- a run that stops
is_run : (f : Settings) (steps : ℕ) (t : Seen) → Made f.given nowhere steps (begin f) t → steps ≤ f.limit →
    (steps ≡ f.limit) ⊎ (next_answer f.given t ≡ None) → IsRun f t
is_run f steps t made within (inl over) = stops_over f.given nowhere steps f.limit (begin f) t made over
is_run f steps t made within (inr stuck) = by (eq-or-lt_of_le within) where
  by : (steps ≡ f.limit) ⊎ (steps < f.limit) → IsRun f t
  by (inl over) = stops_over f.given nowhere steps f.limit (begin f) t made over
  by (inr lt) = stops_stuck f.given nowhere steps f.limit (begin f) t t made lt refl stuck

pub stopped_so : (f : Settings) (code : Code) (positions : List LineColumn) (m : Machine) (steps chosen : ℕ) (told : Bool)
    (before now : List ℕ) (out : Text) (stopped : Stopped) →
    (h : Tracing f code positions m steps chosen told before now out) → steps ≤ f.limit → stopped.steps ≡ steps →
    (steps ≡ f.limit) ⊎ (answer_to f.given chosen (ask m.program m.state) ≡ None) →
    option_map finish_of stopped.end ≡ stop_at f.limit steps (ask m.program m.state) →
    HasTraced f code positions stopped m told before now out
stopped_so f code positions m steps chosen told before now out stopped h within is why end =
    let t = h.seen in
    let made = h.made in
    let count = made.count in
    let size : steps ≡ length t.answers = omega arith in
    let asks : ask m.program m.state ≡ ask t.program (present t) = ap₂ ask h.program h.state in
    record {
      seen = t;
      has_stopped = record {
        run = is_run f steps t h.made within (stuck why);
        steps = is ∙ size;
        end = end ∙ ap₂ (stop_at f.limit) size asks;
      };
      program = h.program;
      state = h.state;
      buffers = h.buffers;
    }
  where
    stuck : (steps ≡ f.limit) ⊎ (answer_to f.given chosen (ask m.program m.state) ≡ None) →
        (steps ≡ f.limit) ⊎ (next_answer f.given h.seen ≡ None)
    stuck (inl over) = inl over
    stuck (inr none) = inr (sym (ap₂ (answer_to f.given) h.chosen_is (ap₂ ask h.program h.state)) ∙ none)

-- how it stops: at its end
pub stop_ended : (asked : Ask) (e : End) (q : Asking) (limit steps : ℕ) → asked ≡ Ended e → asked_of asked ≡ Some q →
    Some (finish_of e) ≡ stop_at limit steps q
stop_ended asked e q limit steps is of = by (finish_of e) (sym (ap asked_of is) ∙ of) where
  by : (x : Finish) → asked_at_end x ≡ Some q → Some x ≡ stop_at limit steps q
  by (finished x) h = let same : q ≡ ended x = cc in sym (ap (stop_at limit steps) same)
  by at_limit h = cc

pub stuck_ended : (asked : Ask) (e : End) (q : Asking) (chosen : Chosen) (n : ℕ) → asked ≡ Ended e →
    asked_of asked ≡ Some q → answer_to chosen n q ≡ None
stuck_ended asked e q chosen n is of = by (finish_of e) (sym (ap asked_of is) ∙ of) where
  by : (x : Finish) → asked_at_end x ≡ Some q → answer_to chosen n q ≡ None
  by (finished x) h = let same : q ≡ ended x = cc in ap (answer_to chosen n) same
  by at_limit h = cc

-- .. at its limit
pub stop_over : (q : Asking) (limit steps : ℕ) → IsGoing q → steps ≡ limit → Some at_limit ≡ stop_at limit steps q
stop_over plain limit steps going e = refl
stop_over (choice chance) limit steps going e = let same = eq-eqb steps limit e in rw same refl
stop_over (ended end) limit steps going e = absurd going

-- .. or at a choice that isn't given
pub stop_wants : (q : Asking) (chosen : Chosen) (n limit steps : ℕ) → IsGoing q → steps ≢ limit →
    None ≡ answer_to chosen n q → None ≡ stop_at limit steps q
stop_wants plain chosen n limit steps going other none = absurd (cc)
stop_wants (choice chance) chosen n limit steps going other none =
    let differs = ne_eqb steps limit other in rw differs refl
stop_wants (ended end) chosen n limit steps going other none = absurd going

-- the place where a run stops is in the buffer too
stop_buffered : (f : Settings) (code : Code) (positions : List LineColumn) (stopped : Stopped) (m : Machine) (told : Bool)
    (before now : List ℕ) (out new : Text) (h : HasTraced f code positions stopped m told before now out) →
    Adds out new (here_text m.program positions stopped.steps m.state) →
    Buffers told (trace_text code positions h.seen) before now new
stop_buffered f code positions stopped m told before now out new h adds =
    let t = h.seen in
    let stops = h.has_stopped in
    more_buffered told (steps_text code positions t)
    (here_text t.program positions (length t.answers) (present t)) _ before now out new refl h.buffers
    (subst (λ k. Adds out new (here_text t.program positions k (present t))) stops.steps
    (subst (λ s. Adds out new (here_text t.program positions stopped.steps s)) h.state
    (subst (λ (p : Program). Adds out new (here_text p positions stopped.steps m.state)) h.program adds)))

pub traced_all : (f : Settings) (code : Code) (positions : List LineColumn) (stopped : Stopped) (m : Machine) (told : Bool)
    (before now after : List ℕ) (out new : Text) (h : HasTraced f code positions stopped m told before now out) →
    Adds out new (here_text m.program positions stopped.steps m.state) → told ≡ true → new.refused ≡ false →
    after ≡ now ++ new.bytes.items → IsTraced f code positions stopped before after
traced_all f code positions stopped m told before now after out new h adds is sound e = record {
  seen = h.seen;
  has_stopped = h.has_stopped;
  written =
      all_written told _ before now after new
      (stop_buffered f code positions stopped m told before now out new h adds) is sound e;
}

pub traced_cut : (f : Settings) (code : Code) (positions : List LineColumn) (stopped : Stopped) (m : Machine) (told : Bool)
    (before now after : List ℕ) (out new : Text) (n : ℕ) →
    (h : HasTraced f code positions stopped m told before now out) →
    Adds out new (here_text m.program positions stopped.steps m.state) → IsCompiled f.program code → told ≡ true →
    after ≡ now ++ take n new.bytes.items → (new.refused ≡ true → n ≡ 0) →
    (lines : Lines) → IsCutShort (IsBegun f positions lines true) before after
traced_cut f code positions stopped m told before now after out new n h adds compiled is e none lines =
    let stops = h.has_stopped in
    cut_flush told _ before now after new (IsBegun f positions lines true) n
    (stop_buffered f code positions stopped m told before now out new h adds) is
    (traced_whole code h.seen compiled stops.run) e none
