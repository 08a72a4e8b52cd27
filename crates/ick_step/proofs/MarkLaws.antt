-- Laws of marks at each thousandth step.
use Rattle.std.proofs.Common.{◌≡◌, ℕ, zero, suc, ◌+◌, ◌*◌, ◌<◌, ◌≤◌, Bool, List, [], ◌∷◌, ◌++◌, length}
use Rattle.std.proofs.Common.{take, drop, replicate, Option, None, refl, ap, ap₂, sym, ◌∙◌, subst, arith}
use Rattle.std.proofs.Common.{length-append, append_assoc}
use Rattle.std.specs.Prelude.{slice_index_or}
use Rattle.std.proofs.Props.{props}
use Rattle.std.proofs.lemmas.List.{take-append-le, take-append-drop, length-replicate, length-take-le, take-replicate}
use Rattle.std.proofs.lemmas.List.{replicate-append-replicate}
use Rattle.std.proofs.Math.Seq.{take-append-add, take-length}
use Rattle.std.proofs.lemmas.List.{append-nil}
use mathlib.Core.Logic.{∥∥₁_elim}
use Rattle.ick_code.specs.meaning.State.{State, Ending}
use Rattle.ick_code.specs.meaning.Move.{ask, advance}
use Rattle.ick_backtrack.specs.Machine.{Program, Machine}
use Rattle.ick_backtrack.specs.Steps.{HasRun}
use Rattle.ick_explorer.proofs.Walking.{same_front}
use Rattle.ick_step.specs.History.{done_by, after, Answers, IsHistory}
use Rattle.ick_step.specs.Seen.{Seen, later, with_answer, start_from, start_of, seen_at, marked, IsKept}
use Rattle.ick_step.proofs.HistoryLaws.{after-append, history-append, history-take, after-plain, history-plain}
use Rattle.ick_step.proofs.HistoryLaws.{history-prop, answer_there}

abbrev pub History : Type 0
History = List (Option Bool)

-- the oldest mark stays the oldest
start-snoc : (marks : List State) (s t : State) → start_from (marks ++ s ∷ []) t ≡ start_from marks s
start-snoc [] s t = refl
start-snoc (x ∷ marks) s t = refl

start-some : (marks : List State) (s t : State) → 0 < length marks → start_from marks s ≡ start_from marks t
start-some [] s t lt = absurd (omega arith)
start-some (x ∷ marks) s t lt = refl

-- later steps change no mark
marked-append : (p : Program) (s : State) (xs ys : History) (k : ℕ) → 1000 * k ≤ length xs + 1000 →
    marked p s (xs ++ ys) k ≡ marked p s xs k
marked-append p s xs ys zero le = refl
marked-append p s xs ys (suc k) le =
    let within : 1000 * k ≤ length xs = omega arith in
    ap₂ (λ marks front. marks ++ after p s front ∷ []) (marked-append p s xs ys k (omega arith))
    (take-append-le (1000 * k) xs ys within)

marked-take : (p : Program) (s : State) (xs : History) (n k : ℕ) → 1000 * k ≤ n + 1000 → n ≤ length xs →
    marked p s (take n xs) k ≡ marked p s xs k
marked-take p s xs n k le within =
    let size : length (take n xs) ≡ n = length-take-le n xs within in
    sym (marked-append p s (take n xs) (drop n xs) k (omega (arith, size)))
    ∙ ap (λ l. marked p s l k) (take-append-drop n xs)

pub take-take : {A : Type 0} (m n : ℕ) (xs : List A) → m ≤ n → take m (take n xs) ≡ take m xs
take-take zero n xs le = refl
take-take (suc m) zero xs le = absurd (omega arith)
take-take (suc m) (suc n) [] le = refl
take-take (suc m) (suc n) (x ∷ xs) le = ap (λ l. x ∷ l) (take-take m n xs (omega arith))

abbrev seen_by : Program → State → History → ℕ → Seen
seen_by p s xs work = record { program = p; start = s; answers = xs; work = work }

pub seen-same : (m : Machine) (xs : History) (s : Seen) → m.program ≡ s.program → start_of m ≡ s.start →
    xs ≡ s.answers → m.work ≡ s.work → seen_at m xs ≡ s
seen-same m xs s program start answers work =
    ap₂ (λ p t. seen_by p t xs m.work) program start ∙ ap₂ (λ l w. seen_by s.program s.start l w) answers work

kept_at : (m : Machine) (p : Program) (s : State) (xs : History) → m.program ≡ p → start_of m ≡ s →
    m.state ≡ after p s xs → IsHistory p s xs → m.marks ≡ marked p s xs (length m.marks) →
    length xs ≤ 1000 * length m.marks → 1000 * length m.marks ≤ length xs + 1000 → IsKept m xs
kept_at m p s xs program start state history marks enough few = record {
  state = state ∙ sym (ap₂ (λ q t. after q t xs) program start);
  history =
      subst (λ q. IsHistory q (start_of m) xs) (sym program) (subst (λ t. IsHistory p t xs) (sym start) history);
  marks = marks ∙ sym (ap₂ (λ q t. marked q t xs (length m.marks)) program start);
  enough = enough;
  few = few;
}

-- a machine that has made no step
pub kept_first : (m : Machine) → m.marks ≡ [] → IsKept m []
kept_first m none =
    let start : start_of m ≡ m.state = ap (λ l. start_from l m.state) none in
    let count : length m.marks ≡ 0 = ap length none in
    kept_at m m.program m.state [] refl start refl tt
    (none ∙ sym (ap (marked m.program m.state []) count)) (omega arith) (omega (arith, count))

-- the state is marked
pub kept_marked : (m m' : Machine) (xs : History) → IsKept m xs → length xs ≡ 1000 * length m.marks →
    m' ≡ record m { marks = m.marks ++ m.state ∷ [] } → IsKept m' xs
kept_marked m m' xs h due is =
    let program : m'.program ≡ m.program = ap (λ x. x.program) is in
    let marks : m'.marks ≡ m.marks ++ m.state ∷ [] = ap (λ x. x.marks) is in
    let state : m'.state ≡ m.state = ap (λ x. x.state) is in
    let start : start_of m' ≡ start_of m =
    ap (λ l. start_from l m'.state) marks ∙ start-snoc m.marks m.state m'.state in
    let count : length m'.marks ≡ suc (length m.marks) =
    omega (arith, ap length marks, length-append m.marks (m.state ∷ [])) in
    let all : take (1000 * length m.marks) xs ≡ xs =
    ap (λ n. take n xs) (sym due) ∙ take-length xs in
    kept_at m' m.program (start_of m) xs program start (state ∙ h.state) h.history
    (marks ∙ ap₂ (λ l s. l ++ s ∷ []) h.marks (h.state ∙ ap (after m.program (start_of m)) (sym all))
    ∙ sym (ap (marked m.program (start_of m) xs) count))
    (omega (arith, count, due)) (omega (arith, count, due))

pub seen_marked : (m m' : Machine) (xs : History) → m' ≡ record m { marks = m.marks ++ m.state ∷ [] } →
    seen_at m' xs ≡ seen_at m xs
seen_marked m m' xs is =
    seen-same m' xs (seen_at m xs) (ap (λ x. x.program) is)
    (ap (λ x. start_from x.marks x.state) is ∙ start-snoc m.marks m.state m.state) refl (ap (λ x. x.work) is)

-- the machine in another state after more steps, with the same marks
moved : (m m' : Machine) (xs ys : History) → IsKept m xs → m'.program ≡ m.program → m'.marks ≡ m.marks →
    0 < length m.marks → m'.state ≡ after m.program m.state ys → IsHistory m.program m.state ys →
    length xs + length ys ≤ 1000 * length m.marks → IsKept m' (xs ++ ys) × (start_of m' ≡ start_of m)
moved m m' xs ys h program marks some state on within =
    let start : start_of m' ≡ start_of m =
    ap (λ l. start_from l m'.state) marks ∙ start-some m.marks m'.state m.state some in
    let size : length (xs ++ ys) ≡ length xs + length ys = length-append xs ys in
    let count : length m'.marks ≡ length m.marks = ap length marks in
    let few = h.few in (
      kept_at m' m.program (start_of m) (xs ++ ys) program start
          (state ∙ (ap (λ s. after m.program s ys) h.state ∙ sym (after-append m.program (start_of m) xs ys)))
          (history-append m.program (start_of m) xs ys h.history
          (subst (λ s. IsHistory m.program s ys) h.state on))
          (marks ∙ (h.marks ∙ (sym (marked-append m.program (start_of m) xs ys (length m.marks) h.few)
          ∙ sym (ap (marked m.program (start_of m) (xs ++ ys)) count))))
          (omega (arith, size, count, within)) (omega (arith, size, count, few)),
      start,
    )

-- after steps at which nothing was asked
pub kept_ran : (m m' : Machine) (xs : History) (k : ℕ) → IsKept m xs → HasRun m k m' →
    length xs + k ≤ 1000 * length m.marks → 0 < length m.marks →
    IsKept m' (xs ++ replicate k None) × (seen_at m' (xs ++ replicate k None) ≡ later k (seen_at m xs))
kept_ran m m' xs k h ran within some =
    let ys : History = replicate k None in
    let program : m'.program ≡ m.program = ap (λ x. x.program) ran.machine_is in
    let marks : m'.marks ≡ m.marks = ap (λ x. x.marks) ran.machine_is in
    let work : m'.work ≡ m.work + k = ap (λ x. x.work) ran.machine_is in
    let size : length ys ≡ k = length-replicate k None in
    let r = moved m m' xs ys h program marks some
    (ran.runs.leads ∙ sym (after-plain m.program m.state k))
    (history-plain m.program m.state k ran.runs.on) (omega (arith, size, within)) in
    (r.0, seen-same m' (xs ++ ys) (later k (seen_at m xs)) program r.1 refl work)

-- the same, by the answers that were noted for more steps and cut off
pub kept_cut : (m m' : Machine) (xs ys zs : History) (k most : ℕ) → IsKept m xs → HasRun m k m' → k ≤ most →
    length xs + most ≤ 1000 * length m.marks → 0 < length m.marks → ys ≡ xs ++ replicate most None →
    zs ≡ take (length xs + k) ys → IsKept m' zs × (seen_at m' zs ≡ later k (seen_at m xs))
kept_cut m m' xs ys zs k most h ran within room some noted cut =
    let is : zs ≡ xs ++ replicate k None =
    cut ∙ (ap (take (length xs + k)) noted ∙ (take-append-add xs (replicate most None) k
    ∙ ap (λ l. xs ++ l) (take-replicate k most None within))) in
    subst (λ l. IsKept m' l × (seen_at m' l ≡ later k (seen_at m xs))) (sym is)
    (kept_ran m m' xs k h ran (omega arith) some)

-- after one step with its answer
pub kept_stepped : (m m' : Machine) (xs : History) (a : Option Bool) → IsKept m xs →
    m' ≡ record m { state = advance m.program m.state (done_by a); work = m.work + 1 } →
    Answers (ask m.program m.state) a → length xs < 1000 * length m.marks →
    IsKept m' (xs ++ a ∷ []) × (seen_at m' (xs ++ a ∷ []) ≡ with_answer a (seen_at m xs))
kept_stepped m m' xs a h is answered within =
    let program : m'.program ≡ m.program = ap (λ x. x.program) is in
    let marks : m'.marks ≡ m.marks = ap (λ x. x.marks) is in
    let work : m'.work ≡ m.work + 1 = ap (λ x. x.work) is in
    let r = moved m m' xs (a ∷ []) h program marks (omega arith) (ap (λ x. x.state) is) (answered, tt)
    (omega arith) in
    (r.0, seen-same m' (xs ++ a ∷ []) (with_answer a (seen_at m xs)) program r.1 refl work)

-- what going back to the newest mark leaves
pub record Rewound (m m' : Machine) (n : ℕ) (xs : History) : Type 0 where
  pub kept : IsKept m' (take (1000 * length m'.marks) xs)
  pub program : m'.program ≡ m.program
  pub start : start_of m' ≡ start_of m
  pub work : m'.work ≡ m.work
  pub count : length m.marks ≡ length m'.marks + 1
  pub near : n ≤ 1000 * length m'.marks + 1000
  pub within : 1000 * length m'.marks ≤ n

pub kept_back : (m m' : Machine) (n : ℕ) (xs : History) → IsKept m (take n xs) → n ≤ length xs →
    m ≡ record m' { state = m.state; marks = m'.marks ++ m'.state ∷ [] } → Rewound m m' n xs
kept_back m m' n xs h within is =
    let j = length m'.marks in
    let p = m.program in
    let s = start_of m in
    let front = take (1000 * j) xs in
    let program : m'.program ≡ p = sym (ap (λ x. x.program) is) in
    let marks : m.marks ≡ m'.marks ++ m'.state ∷ [] = ap (λ x. x.marks) is in
    let start : start_of m' ≡ s = sym (ap (λ l. start_from l m.state) marks ∙ start-snoc m'.marks m'.state m.state) in
    let count : length m.marks ≡ suc j = omega (arith, ap length marks, length-append m'.marks (m'.state ∷ [])) in
    let size : length (take n xs) ≡ n = length-take-le n xs within in
    let enough : n ≤ 1000 * suc j = omega (arith, size, count, h.enough) in
    let few : 1000 * suc j ≤ n + 1000 = omega (arith, size, count, h.few) in
    let here : 1000 * j ≤ n = omega (arith, few) in
    let short : length front ≡ 1000 * j = length-take-le (1000 * j) xs (omega (arith, here, within)) in
    let cut : take (1000 * j) (take n xs) ≡ front = take-take (1000 * j) n xs here in
    let both = same_front m'.marks (marked p s (take n xs) j) m'.state (after p s (take (1000 * j) (take n xs)))
    (sym marks ∙ (h.marks ∙ ap (marked p s (take n xs)) count)) in
    record {
      kept =
          kept_at m' p s front program start (both.1 ∙ ap (after p s) cut)
          (subst (IsHistory p s) cut (history-take p s (1000 * j) (take n xs) h.history))
          (both.0 ∙ (sym (marked-take p s (take n xs) (1000 * j) j (omega arith) (omega (arith, size, here)))
          ∙ ap (λ l. marked p s l j) cut))
          (omega (arith, short)) (omega (arith, short));
      program = program;
      start = start;
      work = sym (ap (λ x. x.work) is);
      count = omega (arith, count);
      near = omega (arith, enough);
      within = here;
    }

-- more steps after some
pub later-later : (s : Seen) (j k : ℕ) → later k (later j s) ≡ later (j + k) s
later-later s j k =
    ap₂ (λ l w. seen_by s.program s.start l w)
    (append_assoc s.answers (replicate j None) (replicate k None)
    ∙ ap (λ l. s.answers ++ l) (replicate-append-replicate j k None))
    (omega arith)

pub later-none : (s : Seen) → s ≡ later 0 s
later-none s =
    ap₂ (λ l w. seen_by s.program s.start l w) (sym (append-nil s.answers)) (omega arith)

-- two proofs that a machine has kept its marks are the same
ending_set : IsSet Ending
ending_set = hlevel props

state_set : IsSet State
state_set = hlevel (props, ending_set)

pub kept_of : (m : Machine) (xs : History) → ∥ IsKept m xs ∥₁ → IsKept m xs
kept_of m xs h =
    let one = history-prop m.program (start_of m) xs in
    let prop : IsProp (IsKept m xs) = hlevel (props, state_set, one) in
    ∥∥₁_elim h prop (λ x. x)

-- a mark changes no answer that fits
pub answered_in : (m n : Machine) (a : Option Bool) → seen_at n [] ≡ seen_at m [] → n.state ≡ m.state →
    Answers (ask m.program m.state) a → Answers (ask n.program n.state) a
answered_in m n a seen state h =
    let program : n.program ≡ m.program = ap (λ s. s.program) seen in
    subst (λ q. Answers (ask q n.state) a) (sym program)
    (subst (λ t. Answers (ask m.program t) a) (sym state) h)

-- a step after a mark, as calls give them
pub stepped_by : (m n t : Machine) (xs : History) (a : Option Bool) → IsKept n xs → seen_at n xs ≡ seen_at m xs →
    (done : Bool) → done ≡ done_by a →
    t ≡ record n { state = advance n.program n.state done; work = n.work + 1 } →
    Answers (ask n.program n.state) a → length xs < 1000 * length n.marks →
    IsKept t (xs ++ a ∷ []) × (seen_at t (xs ++ a ∷ []) ≡ with_answer a (seen_at m xs))
stepped_by m n t xs a kept seen done by is answered room =
    let exact = is ∙ ap (λ d. record n { state = advance n.program n.state d; work = n.work + 1 }) by in
    let r = kept_stepped n t xs a kept exact answered room in
    (r.0, r.1 ∙ ap (with_answer a) seen)

pub unchanged_by : (m n t : Machine) (xs : History) → t ≡ n → IsKept n xs → seen_at n xs ≡ seen_at m xs →
    IsKept t xs × (seen_at t xs ≡ seen_at m xs)
unchanged_by m n t xs is kept seen =
    subst (λ x. IsKept x xs × (seen_at x xs ≡ seen_at m xs)) (sym is) (kept, seen)

-- a step that is made again has its answer
pub answered_at : (m : Machine) (p : Program) (s : State) (xs : History) (k : ℕ) (d : Option Bool) →
    IsKept m (take k xs) → m.program ≡ p → start_of m ≡ s → IsHistory p s xs → k < length xs →
    Answers (ask m.program m.state) (slice_index_or xs k d)
answered_at m p s xs k d kept program start h lt =
    let here = answer_there p s xs k d h lt in
    let state : m.state ≡ after p s (take k xs) =
    kept.state ∙ ap₂ (λ q t. after q t (take k xs)) program start in
    subst (λ q. Answers (ask q m.state) (slice_index_or xs k d)) (sym program)
    (subst (λ t. Answers (ask p t) (slice_index_or xs k d)) (sym state) here)
