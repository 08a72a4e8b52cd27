-- Steps that go on, one by one.
use Rattle.std.proofs.Common.{◌≡◌, ℕ, zero, suc, ◌+◌, ◌-◌, ◌<◌, ◌≤◌, ◌⊎◌, inl, inr, Bool, true, false, List, [], ◌∷◌, ◌++◌}
use Rattle.std.specs.Prelude.{Result, Ok, Err, IfErr, OnErr, min}
use Rattle.ick_explorer.specs.declared.errors.RunsError.{RunsError}
use Rattle.ick_explorer.specs.declared.errors.RunsError.TheVariants.{NoMemory, WorkFull}
use Rattle.ick_inspect.specs.declared.positions.LineColumn.{LineColumn}
use Rattle.ick_session.specs.Shown.{here_text}
use Rattle.ick_session.specs.Session.{Settings}
use Rattle.std.proofs.Common.{length, take, get_or, Option, Some, None, refl, ap, ap₂, sym, ◌∙◌, subst, arith}
use borrow.Author.Count.{below_more}
use Rattle.std.proofs.lemmas.List.{append-nil, get_or_append_left, length-append, take-append-le, take_all, take_more}
use Rattle.std.proofs.Math.Nat.{eq-or-lt_of_le}
use Rattle.std.proofs.Math.Seq.{get_or-append_seam}
use Rattle.ick_syntax.specs.declared.tree.Name.{Name}
use Rattle.ick_code.specs.meaning.State.{State}
use Rattle.ick_code.specs.meaning.Move.{Asking, plain, choice, ended, ask, advance}
use Rattle.ick_backtrack.specs.Machine.{Program}
use Rattle.ick_backtrack.specs.Steps.{IsPlain}
use Rattle.ick_runs.specs.Chosen.{Chosen}
use Rattle.ick_step.specs.History.{Answers, IsHistory, after, asks_choice, choices_in, done_by}
use Rattle.ick_step.specs.Seen.{Seen, later, present, with_answer}
use Rattle.std.specs.Prelude.{◌&&◌, ◌==◌}
use Rattle.std.proofs.lemmas.Bool.Decides.{nat_tests}
use Rattle.std.proofs.lemmas.Slice.Eq.{bytes_eq-Decides}
use Rattle.std.specs.Bool.{beq}
use Rattle.ick_session.proofs.StepLaws.{alike_itself}
use Rattle.ick_session.specs.Changes.{Had, alike, had_at}
use Rattle.ick_session.specs.NameSnapshot.{Keeps, had}
use Rattle.ick_session.specs.declared.name_snapshot.NameSnapshot.{NameSnapshot}
use Rattle.ick_session.specs.Travel.{CameSoFar, GoesOn, IsAt, IsBefore, IsLastChange, LastChange, Steps, comes, last_statement}
use Rattle.ick_session.specs.Travel.{StopsFirst, answer_at, answer_to, differs, is_kept, next_answer, state_after}
use Rattle.ick_session.specs.Travel.{breakpoint_text, is_at_breakpoint, limit_text, steps_left, where_text}

-- one step, or none
pub later_one : (s : Seen) (k : ℕ) → k ≤ 1 → 0 < k → later k s ≡ with_answer None s
later_one s k low high = let e : k ≡ 1 = omega arith in rw e refl

pub later_none : (s : Seen) (k : ℕ) → k ≡ 0 → later k s ≡ s
later_none s k e =
    let work : s.work + 0 ≡ s.work = omega arith in
    rw e (ap₂ (λ l w. record s { answers = l; work = w }) (append-nil s.answers) work)

-- the states behind the steps so far stay the same
kept_state : (t : Seen) (a : Option Bool) (k : ℕ) → k ≤ length t.answers →
    state_after (with_answer a t) k ≡ state_after t k
kept_state t a k le = ap (after t.program t.start) (take-append-le k t.answers (a ∷ []) le)

last_state : (t : Seen) (k : ℕ) → length t.answers ≤ k → state_after t k ≡ present t
last_state t k le = ap (after t.program t.start) (take_all k t.answers le)

longer : (t : Seen) (a : Option Bool) → length (with_answer a t).answers ≡ length t.answers + 1
longer t a = length-append t.answers (a ∷ [])

-- the statement of one more step
pub last_made : (chosen : Chosen) (t u : Seen) → Steps chosen t u → last_statement u ≡ (present t).place
last_made chosen t u (a, given, e) =
    let size = longer t a in
    let n : length (with_answer a t).answers - 1 ≡ length t.answers = omega arith in
    ap last_statement e
    ∙ ap (λ (s : State). s.place) (ap (state_after (with_answer a t)) n
    ∙ (kept_state t a (length t.answers) (omega arith) ∙ last_state t (length t.answers) (omega arith)))

-- and so do the answers that are given to them
kept_given : (chosen : Chosen) (t : Seen) (a : Option Bool) (k : ℕ) → k ≤ length t.answers →
    answer_at chosen (with_answer a t) k ≡ answer_at chosen t k
kept_given chosen t a k le =
    ap (λ l. answer_to chosen (length (choices_in l)) (ask t.program (after t.program t.start l)))
    (take-append-le k t.answers (a ∷ []) le)

last_given : (chosen : Chosen) (t : Seen) (k : ℕ) → length t.answers ≤ k → answer_at chosen t k ≡ next_answer chosen t
last_given chosen t k le =
    ap (λ l. answer_to chosen (length (choices_in l)) (ask t.program (after t.program t.start l)))
    (take_all k t.answers le)

-- so many steps were made, and none of them came to a state of the kind
pub record Made (chosen : Chosen) (here : State → Bool) (made : ℕ) (s t : Seen) : Type 0 where
  pub program : t.program ≡ s.program
  pub start : t.start ≡ s.start
  pub answers : take (length s.answers) t.answers ≡ s.answers
  pub count : length t.answers ≡ length s.answers + made
  pub each : (k : ℕ) → k < length t.answers → length s.answers ≤ k →
      answer_at chosen t k ≡ Some (get_or t.answers k None)
  pub before : (k : ℕ) → k < length t.answers + 1 → length s.answers < k → here (state_after t k) ≡ false

pub none_made : (chosen : Chosen) (here : State → Bool) (s : Seen) → Made chosen here 0 s s
none_made chosen here s = record {
  program = refl;
  start = refl;
  answers = take_all (length s.answers) s.answers (omega arith);
  count = omega arith;
  each = λ k low high. absurd (omega arith);
  before = λ k low high. absurd (omega arith);
}

kept_answers : (s t : Seen) (a : Option Bool) → length s.answers ≤ length t.answers →
    take (length s.answers) t.answers ≡ s.answers → take (length s.answers) (with_answer a t).answers ≡ s.answers
kept_answers s t a le e = take-append-le (length s.answers) t.answers (a ∷ []) le ∙ e

passed : (chosen : Chosen) (here : State → Bool) (made : ℕ) (s t : Seen) (a : Option Bool) →
    Made chosen here made s t → (k : ℕ) → k < length t.answers + 1 → length s.answers < k →
    here (state_after (with_answer a t) k) ≡ false
passed chosen here made s t a h k low high = ap here (kept_state t a k (omega arith)) ∙ h.before k low high

-- the answers that were given, with one more
each_more : (chosen : Chosen) (here : State → Bool) (made : ℕ) (s t : Seen) (a : Option Bool) →
    Made chosen here made s t → Some a ≡ next_answer chosen t → (k : ℕ) → k < length t.answers + 1 →
    length s.answers ≤ k → answer_at chosen (with_answer a t) k ≡ Some (get_or (with_answer a t).answers k None)
each_more chosen here made s t a h given k low high =
    below_more (λ i. length s.answers ≤ i →
    answer_at chosen (with_answer a t) i ≡ Some (get_or (with_answer a t).answers i None)) (length t.answers)
    (λ i lt le. kept_given chosen t a i (omega arith)
    ∙ (h.each i lt le ∙ ap Some (sym (get_or_append_left t.answers (a ∷ []) None i lt))))
    (λ _. kept_given chosen t a (length t.answers) (omega arith)
    ∙ (last_given chosen t (length t.answers) (omega arith)
    ∙ (sym given ∙ ap Some (sym (get_or-append_seam t.answers a [] None)))))
    k low high

one_more : (chosen : Chosen) (here : State → Bool) (made : ℕ) (s t : Seen) (a : Option Bool) →
    Made chosen here made s t → Some a ≡ next_answer chosen t → here (present (with_answer a t)) ≡ false →
    Made chosen here (made + 1) s (with_answer a t)
one_more chosen here made s t a h given away =
    let size = longer t a in
    let count = h.count in
    record {
      program = h.program;
      start = h.start;
      answers = kept_answers s t a (omega arith) h.answers;
      count = omega arith;
      each = λ k low high. each_more chosen here made s t a h given k (subst (λ n. k < n) size low) high;
      before = λ k low high. below_more (λ i. length s.answers < i → here (state_after (with_answer a t) i) ≡ false)
          (length t.answers + 1) (λ i lt. passed chosen here made s t a h i lt)
          (λ _. ap here (last_state (with_answer a t) (length t.answers + 1) (omega arith)) ∙ away)
          k (subst (λ n. k < n + 1) size low) high;
    }

pub made_more : (chosen : Chosen) (here : State → Bool) (made : ℕ) (s t u : Seen) → Made chosen here made s t →
    Steps chosen t u → here (present u) ≡ false → Made chosen here (made + 1) s u
made_more chosen here made s t u h (a, given, e) away =
    subst (λ v. Made chosen here (made + 1) s v) (sym e)
    (one_more chosen here made s t a h given (ap (λ v. here (present v)) (sym e) ∙ away))

-- steps that stop
pub stops_over : (chosen : Chosen) (here : State → Bool) (made most : ℕ) (s t : Seen) → Made chosen here made s t →
    made ≡ most → StopsFirst chosen here most s t
stops_over chosen here made most s t h e =
    let count = h.count in
    record {
      on = record { program = h.program; start = h.start; answers = h.answers; further = omega arith; within = omega arith };
      given = record { each = λ k low high. h.each k high low };
      before = record { before = λ k low high. h.before k (omega arith) low };
      stops = inl (omega arith);
    }

pub stops_stuck : (chosen : Chosen) (here : State → Bool) (made most : ℕ) (s t u : Seen) →
    Made chosen here made s t → made < most → u ≡ t → next_answer chosen t ≡ None → StopsFirst chosen here most s u
stops_stuck chosen here made most s t u h lt e stuck =
    let count = h.count in
    let on : StopsFirst chosen here most s t = record {
      on = record { program = h.program; start = h.start; answers = h.answers; further = omega arith; within = omega arith };
      given = record { each = λ k low high. h.each k high low };
      before = record { before = λ k low high. h.before k (omega arith) low };
      stops = inr (inl stuck);
    } in
    subst (λ v. StopsFirst chosen here most s v) (sym e) on

pub stops_come : (chosen : Chosen) (here : State → Bool) (made most : ℕ) (s t u : Seen) →
    Made chosen here made s t → made < most → Steps chosen t u → here (present u) ≡ true →
    StopsFirst chosen here most s u
stops_come chosen here made most s t u h lt (a, given, e) come =
    let count = h.count in
    let size = longer t a in
    let on : StopsFirst chosen here most s (with_answer a t) = record {
      on = record {
        program = h.program;
        start = h.start;
        answers = kept_answers s t a (omega arith) h.answers;
        further = omega arith;
        within = omega arith;
      };
      given = record {
        each = λ k low high. each_more chosen here made s t a h given k (subst (λ n. k < n) size high) low;
      };
      before = record { before = λ k low high. passed chosen here made s t a h k (omega arith) low };
      stops = inr (inr ((omega arith), (ap (λ v. here (present v)) (sym e) ∙ come)));
    } in
    subst (λ v. StopsFirst chosen here most s v) (sym e) on

-- a step by its answer
pub history_at : (p : Program) (s : State) (xs : List (Option Bool)) (n : ℕ) (d : Option Bool) → n < length xs →
    IsHistory p s xs → Answers (ask p (after p s (take n xs))) (get_or xs n d)
history_at p s [] n d lt h = absurd (omega arith)
history_at p s (a ∷ xs) zero d lt h = h.0
history_at p s (a ∷ xs) (suc n) d lt h = history_at p (advance p s (done_by a)) xs n d (omega arith) h.1

pub answers_choice : (x : Asking) (b : Bool) → Answers x (Some b) → asks_choice x ≡ true
answers_choice plain b h = absurd h
answers_choice (choice chance) b h = refl
answers_choice (ended end) b h = absurd h

pub answers_none : (x : Asking) → Answers x None → x ≡ plain
answers_none plain h = refl
answers_none (choice chance) h = absurd h
answers_none (ended end) h = absurd h

pub plain_step : (s t : Seen) (k : ℕ) → k ≤ 1 → t ≡ later k s → Answers (ask s.program (present s)) None →
    (k ≡ 1) ⊎ (¬ IsPlain t.program (present t)) → t ≡ with_answer None s
plain_step s t k low e h (inl one) = e ∙ later_one s k low (omega arith)
plain_step s t zero low e h (inr stuck) =
    absurd (subst (λ v. ¬ IsPlain v.program (present v)) (e ∙ later_none s 0 refl) stuck
    (answers_none (ask s.program (present s)) h))
plain_step s t (suc k) low e h (inr stuck) = e ∙ later_one s (suc k) low (omega arith)

-- the session has made its first steps again
pub at_more : (s t u : Seen) (n : ℕ) (d : Option Bool) → IsAt s t n → n < length s.answers →
    u ≡ with_answer (get_or s.answers n d) t → IsAt s u (n + 1)
at_more s t u n d h lt e = record {
  program = ap (λ v. v.program) e ∙ h.program;
  start = ap (λ v. v.start) e ∙ h.start;
  answers = ap (λ v. v.answers) e
      ∙ (ap (λ l. l ++ get_or s.answers n d ∷ []) h.answers ∙ sym (take_more s.answers n d lt));
}

at_state : (s t : Seen) (n : ℕ) → IsAt s t n → present t ≡ state_after s n
at_state s t n h = rw (h.program, h.start, h.answers) refl

pub at_asks : (s t : Seen) (n : ℕ) (xs : List (Option Bool)) (d : Option Bool) → IsAt s t n → s.answers ≡ xs →
    n < length xs → IsHistory s.program s.start xs → Answers (ask t.program (present t)) (get_or xs n d)
at_asks s t n xs d h e lt history =
    let state : present t ≡ after s.program s.start (take n xs) =
    at_state s t n h ∙ ap (λ l. after s.program s.start (take n l)) e in
    subst (λ q. Answers q (get_or xs n d)) (sym (ap₂ ask h.program state))
    (history_at s.program s.start xs n d lt history)

pub at_next : (s t u : Seen) (n : ℕ) (xs : List (Option Bool)) (d : Option Bool) → IsAt s t n → s.answers ≡ xs →
    n < length xs → u ≡ with_answer (get_or xs n d) t → IsAt s u (n + 1)
at_next s t u n xs d h e lt f =
    at_more s t u n d h (subst (λ l. n < length l) (sym e) lt) (f ∙ ap (λ l. with_answer (get_or l n d) t) (sym e))

-- the test of what was kept is that of the step
pub kept_is : (s t u : Seen) (n : ℕ) (name : Name) (held : NameSnapshot) (r : Bool) → IsAt s t n → IsAt s u (n + 1) →
    Keeps held (present t) name →
    r ≡ alike (had held) (had_at (present u) held.name) → r ≡ is_kept s name n
kept_is s t u n name held r h g keeps e =
    e ∙ ap₂ alike (keeps.had_is ∙ ap (λ v. had_at v name) (at_state s t n h))
    (ap₂ had_at (at_state s u (n + 1) g) keeps.name_is)

after_one : (p : Program) (s : State) (xs : List (Option Bool)) (a : Option Bool) →
    after p s (xs ++ a ∷ []) ≡ advance p (after p s xs) (done_by a)
after_one p s [] a = refl
after_one p s (x ∷ xs) a = after_one p (advance p s (done_by x)) xs a

-- a step that leaves a name as it was
pub still_had : (t u : Seen) (a : Option Bool) (held : NameSnapshot) (name : Name) (p : Program) (s v : State) →
    Keeps held (present t) name → u ≡ with_answer a t → p ≡ t.program → s ≡ present t → v ≡ present u →
    ((chosen : Bool) → had_at (advance p s chosen) name ≡ had_at s name) →
    alike (had held) (had_at v held.name) ≡ true
still_had t u a held name p s v keeps made ep es ev left =
    let here : present u ≡ advance t.program (present t) (done_by a) =
    ap present made ∙ after_one t.program t.start t.answers a in
    let step : had_at (present u) name ≡ had_at (present t) name =
    ap (λ w. had_at w name) here
    ∙ (ap₂ (λ q w. had_at (advance q w (done_by a)) name) (sym ep) (sym es) ∙ (left (done_by a) ∙ ap (λ w. had_at w name) es)) in
    let same : had_at v held.name ≡ had held = ap₂ had_at ev keeps.name_is ∙ (step ∙ sym keeps.had_is) in
    ap (alike (had held)) same ∙ alike_itself (had held)

pub last_is : (s : Seen) (name : Name) (n : ℕ) → is_kept s name n ≡ false → IsLastChange s name (n + 1) (Some n)
last_is s name n e = record {
  within = omega arith;
  changes = e;
  later = λ k low high. absurd (omega arith);
}

pub last_stays : (s : Seen) (name : Name) (n : ℕ) (last : Option ℕ) → is_kept s name n ≡ true →
    IsLastChange s name n last → IsLastChange s name (n + 1) last
last_stays s name n None e h = λ k low high. below_more (λ i. is_kept s name i ≡ true) n (λ i lt. h i (omega arith) lt) e
    k high
last_stays s name n (Some at) e h =
    let within = h.within in
    record {
      within = omega arith;
      changes = h.changes;
      later = λ k low high. below_more (λ i. at + 1 ≤ i → is_kept s name i ≡ true) n (λ i lt le. h.later i le lt)
          (λ _. e) k high low;
    }

pub none_changes : (s : Seen) (name : Name) → IsLastChange s name 0 None
none_changes s name = λ k low high. absurd (omega arith)

pub back_at : (s t u : Seen) (at steps n : ℕ) → IsAt s t (length s.answers) → at < length s.answers →
    steps ≡ n - at → n ≡ length s.answers → IsAt t u (length t.answers - steps) → IsAt s u at
back_at s t u at steps n h lt e f g =
    let all : t.answers ≡ s.answers = h.answers ∙ take_all (length s.answers) s.answers (omega arith) in
    let long : length t.answers ≡ length s.answers = ap length all in
    let size : length t.answers - steps ≡ at = omega arith in
    record {
      program = g.program ∙ h.program;
      start = g.start ∙ h.start;
      answers = g.answers ∙ ap₂ take size all;
    }

pub last_some : (s : Seen) (name : Name) (n : ℕ) (last : Option ℕ) (at : ℕ) → last ≡ Some at →
    IsLastChange s name n last → LastChange s name n at
last_some s name n last at e h = subst (IsLastChange s name n) e h

pub where_is : (f : Settings) (positions : List LineColumn) (s : Seen) (p : Program) (n : ℕ) (t : State) (there : Bool)
    (left : ℕ) → p ≡ s.program → n ≡ length s.answers → t ≡ present s → there ≡ is_at_breakpoint f s →
    left ≡ steps_left f.limit s →
    here_text p positions n t ++ breakpoint_text there ++ limit_text left ≡ where_text f positions s
where_is f positions s p n t there left e g h i j = rw (e, g, h, i, j) refl

-- a kept name is that of the state that it was kept of
pub stops_at : (f : Settings) (held : NameSnapshot) (name : Name) (most : ℕ) (s t : Seen) → Keeps held (present s) name →
    StopsFirst f.given (comes f (λ v. differs (had held) held.name v)) most s t →
    StopsFirst f.given (comes f (differs (had_at (present s) name) name)) most s t
stops_at f held name most s t keeps h =
    subst (λ v. StopsFirst f.given (comes f (differs (had_at (present s) name) v)) most s t) keeps.name_is
    (subst (λ v. StopsFirst f.given (comes f (differs v held.name)) most s t) keeps.had_is h)

pub came_at : (f : Settings) (held : NameSnapshot) (name : Name) (s t : Seen) → Keeps held (present s) name →
    CameSoFar f (λ v. differs (had held) held.name v) s t →
    CameSoFar f (differs (had_at (present s) name) name) s t
came_at f held name s t keeps h =
    subst (λ v. CameSoFar f (differs (had_at (present s) name) v) s t) keeps.name_is
    (subst (λ v. CameSoFar f (differs v held.name) s t) keeps.had_is h)

record AllTrue (a b c d e f : Bool) : Type 0 where
  pub first : a ≡ true
  pub second : b ≡ true
  pub third : c ≡ true
  pub fourth : d ≡ true
  pub fifth : e ≡ true
  pub sixth : f ≡ true

all_true : (a b c d e f : Bool) → (a && b && c && d && e && f) ≡ true → AllTrue a b c d e f
all_true false b c d e f h = absurd (cc)
all_true true false c d e f h = absurd (cc)
all_true true true false d e f h = absurd (cc)
all_true true true true false e f h = absurd (cc)
all_true true true true true false f h = absurd (cc)
all_true true true true true true false h = absurd (cc)
all_true true true true true true true h = record {
  first = refl;
  second = refl;
  third = refl;
  fourth = refl;
  fifth = refl;
  sixth = refl;
}

equal : (x y : ℕ) → (x == y) ≡ true → x ≡ y
equal x y e = grind (arith, nat_tests)

alike_bools : (x y : Bool) → beq x y ≡ true → x ≡ y
alike_bools true true e = refl
alike_bools true false e = absurd (cc)
alike_bools false true e = absurd (cc)
alike_bools false false e = refl

pub alike_same : (a b : Had) → alike a b ≡ true → a ≡ b
alike_same a b h =
    let p = all_true _ _ _ _ _ _ h in
    had_same a b (equal _ _ p.first) (alike_bools a.ignored b.ignored p.second) (equal _ _ p.third)
    (equal _ _ p.fourth) ((bytes_eq-Decides a.dimensions b.dimensions).0 p.fifth)
    ((bytes_eq-Decides a.elements b.elements).0 p.sixth)
  where
    had_same : (a b : Had) → a.number ≡ b.number → a.ignored ≡ b.ignored → a.numbers ≡ b.numbers → a.arrays ≡ b.arrays →
        a.dimensions ≡ b.dimensions → a.elements ≡ b.elements → a ≡ b
    had_same a b e f g h i j =
        ap (λ x. record a { number = x }) e
        ∙ (ap (λ x. record a { number = b.number; ignored = x }) f
        ∙ (ap (λ x. record a { number = b.number; ignored = b.ignored; numbers = x }) g
        ∙ (ap (λ x. record b { arrays = x; dimensions = a.dimensions; elements = a.elements }) h
        ∙ (ap (λ x. record b { dimensions = x; elements = a.elements }) i
        ∙ ap (λ x. record b { elements = x }) j))))

-- what is compared is the same
alike_self : (a : Had) → alike a a ≡ true
alike_self a =
    rw (
      same_number a.number,
      same_bool a.ignored,
      same_number a.numbers,
      same_number a.arrays,
      (bytes_eq-Decides a.dimensions a.dimensions).1 refl,
      (bytes_eq-Decides a.elements a.elements).1 refl,
    ) refl
  where
    same_number : (n : ℕ) → (n == n) ≡ true
    same_number n = grind (arith, nat_tests)

    same_bool : (b : Bool) → beq b b ≡ true
    same_bool true = refl
    same_bool false = refl

-- a name differs only if a step was made
pub differs_later : (name : Name) (most : ℕ) (s t : Seen) → GoesOn most s t →
    differs (had_at (present s) name) name (present t) ≡ true → length s.answers < length t.answers
differs_later name most s t on e = later (eq-or-lt_of_le on.further) where
  later : (length s.answers ≡ length t.answers) ⊎ (length s.answers < length t.answers) →
      length s.answers < length t.answers
  later (inr lt) = lt
  later (inl size) =
      let all : t.answers ≡ s.answers = sym (take_all (length s.answers) t.answers (omega arith)) ∙ on.answers in
      let state : present t ≡ present s = rw (on.program, on.start, all) refl in
      let is = alike_self (had_at (present s) name) in
      let differ = ap (differs (had_at (present s) name) name) (sym state) ∙ e in
      absurd (cc)

pub keeps_in : (held : NameSnapshot) (s t : State) (name : Name) → s ≡ t → Keeps held s name → Keeps held t name
keeps_in held s t name e h = subst (λ v. Keeps held v name) e h

-- a name that is as it was kept
pub keeps_on : (held : NameSnapshot) (s t : State) (name : Name) (r : Bool) → Keeps held s name →
    r ≡ alike (had held) (had_at t held.name) → r ≡ true → Keeps held t name
keeps_on held s t name r h e is = record {
  name_is = h.name_is;
  had_is = alike_same (had held) (had_at t held.name) (sym e ∙ is) ∙ ap (had_at t) h.name_is;
}

-- a command that memory has refused has come so far
pub on_err : {A E X : Type 0} (r : Result A E) → X → OnErr r X
on_err (Ok x) h = tt
on_err (Err e) h = h

pub err_has : {A E X : Type 0} (r : Result A E) (e : E) → r ≡ Err e → OnErr r X → X
err_has {X = X} r e is h = subst (λ r. OnErr r X) is h

asking_or : Option Asking → Asking
asking_or None = plain
asking_or (Some asking) = asking

pub same_asking : (x y : Asking) → Some x ≡ Some y → x ≡ y
unfolding asking_or
same_asking x y e = ap asking_or e

pub step_short : (chosen : Chosen) (s t : Seen) {A : Type 0} (r : Result A RunsError) →
    IfErr r (λ e. (e ≡ NoMemory) ⊎ ((e ≡ WorkFull) × (t ≡ s))) →
    (r ≡ Err NoMemory → (k : ℕ) × (k ≤ 1) × (t ≡ later k s)) → ask s.program (present s) ≡ plain →
    OnErr r ((t ≡ s) ⊎ Steps chosen s t)
step_short chosen s t (Ok x) errors h is = tt
step_short chosen s t (Err e) (inr full) h is = inl full.1
step_short chosen s t (Err e) (inl memory) h is =
    let found = h (ap Err memory) in by_count found.0 found.1 found.2
  where
    by_count : (k : ℕ) → k ≤ 1 → t ≡ later k s → (t ≡ s) ⊎ Steps chosen s t
    by_count zero low e = inl (e ∙ later_none s 0 refl)
    by_count (suc k) low e = inr (
      None,
      sym (ap (answer_to chosen (length (choices_in s.answers))) is),
      e ∙ later_one s (suc k) low (omega arith),
    )

pub came : (f : Settings) (here : State → Bool) (made : ℕ) (s t : Seen) → Made f.given (comes f here) made s t →
    made ≤ steps_left f.limit s → CameSoFar f here s t
came f here made s t h low =
    let count = h.count in
    record {
      on = record { program = h.program; start = h.start; answers = h.answers; further = omega arith; within = omega arith };
      given = record { each = λ k low high. h.each k high low };
      before = record { before = λ k low high. h.before k (omega arith) low };
    }

came_further : (f : Settings) (here : State → Bool) (made : ℕ) (s t u : Seen) → Made f.given (comes f here) made s t →
    made < steps_left f.limit s → Steps f.given t u → CameSoFar f here s u
came_further f here made s t u h lt (a, given, e) =
    let count = h.count in
    let size = longer t a in
    let on : CameSoFar f here s (with_answer a t) = record {
      on = record {
        program = h.program;
        start = h.start;
        answers = kept_answers s t a (omega arith) h.answers;
        further = omega arith;
        within = omega arith;
      };
      given = record {
        each = λ k low high. each_more f.given (comes f here) made s t a h given k (subst (λ n. k < n) size high) low;
      };
      before = record { before = λ k low high. passed f.given (comes f here) made s t a h k (omega arith) low };
    } in
    subst (λ v. CameSoFar f here s v) (sym e) on

pub came_short : (f : Settings) (here : State → Bool) (made : ℕ) (s t u : Seen) →
    Made f.given (comes f here) made s t → made < steps_left f.limit s → (u ≡ t) ⊎ Steps f.given t u →
    CameSoFar f here s u
came_short f here made s t u h lt (inl e) =
    subst (λ v. CameSoFar f here s v) (sym e) (came f here made s t h (omega arith))
came_short f here made s t u h lt (inr steps) = came_further f here made s t u h lt steps

pub came_nowhere : (f : Settings) (here : State → Bool) (s : Seen) → CameSoFar f here s s
came_nowhere f here s = came f here 0 s s (none_made f.given (comes f here) s) (omega arith)

pub came_whole : (f : Settings) (here : State → Bool) (most : ℕ) (s t : Seen) →
    StopsFirst f.given (comes f here) (min most (steps_left f.limit s)) s t → CameSoFar f here s t
came_whole f here most s t h = record {
  on = record {
    program = h.on.program;
    start = h.on.start;
    answers = h.on.answers;
    further = h.on.further;
    within = omega (arith, h.on.within);
  };
  given = h.given;
  before = h.before;
}

-- a session that is as it was, or has gone back too far
pub is_before_same : (s t : Seen) → t ≡ s → IsBefore s t
is_before_same s t e = record {
  steps = length s.answers;
  within = omega arith;
  at = record {
    program = ap (λ v. v.program) e;
    start = ap (λ v. v.start) e;
    answers = ap (λ v. v.answers) e ∙ sym (take_all (length s.answers) s.answers (omega arith));
  };
}

pub is_before_at : (s t : Seen) (n : ℕ) → n ≤ length s.answers → IsAt s t n → IsBefore s t
is_before_at s t n low at = record { steps = n; within = low; at = at }

pub back_short : {A : Type 0} (r : Result A RunsError) (s t : Seen) (most : ℕ) →
    IfErr r (λ e. (e ≡ NoMemory) ⊎ ((e ≡ WorkFull) × (t ≡ s))) →
    (r ≡ Err NoMemory → (n : ℕ) × (n < length s.answers - most) × (t.answers ≡ take n s.answers)) →
    t.program ≡ s.program → t.start ≡ s.start → OnErr r (IsBefore s t)
back_short (Ok x) s t most errors short p q = tt
back_short (Err e) s t most (inr full) short p q = is_before_same s t full.1
back_short (Err e) s t most (inl memory) short p q =
    let found = short (ap Err memory) in
    is_before_at s t found.0 (omega (arith, found.1)) (record { program = p; start = q; answers = found.2 })

-- going back from a session's own steps
pub before_before : (s t u : Seen) → IsAt s t (length s.answers) → IsBefore t u → IsBefore s u
before_before s t u at h =
    let all : t.answers ≡ s.answers = at.answers ∙ take_all (length s.answers) s.answers (omega arith) in
    record {
      steps = h.steps;
      within = omega (arith, h.within, ap length all);
      at = record {
        program = h.at.program ∙ at.program;
        start = h.at.start ∙ at.start;
        answers = h.at.answers ∙ ap (take h.steps) all;
      };
    }

pub repeat_short : (s t u : Seen) (n : ℕ) (xs : List (Option Bool)) (d : Option Bool) → IsAt s t n → s.answers ≡ xs →
    n < length xs → (u ≡ t) ⊎ (u ≡ with_answer (get_or xs n d) t) → IsBefore s u
repeat_short s t u n xs d h e lt (inl same) =
    subst (λ v. IsBefore s v) (sym same) (is_before_at s t n (omega (arith, ap length e)) h)
repeat_short s t u n xs d h e lt (inr more) =
    is_before_at s u (n + 1) (omega (arith, ap length e)) (at_next s t u n xs d h e lt more)
