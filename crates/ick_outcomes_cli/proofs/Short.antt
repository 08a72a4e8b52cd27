-- The runs that a limit cuts short, by the rows of a summary.
use Prim.Native.Nat.{zero, suc}
use Rattle.std.specs.Prelude.{codes}
use Rattle.std.proofs.Common.{◌≡◌, ◌≢◌, ◌∙◌, ◌<◌, ◌≤◌, ℕ, Bool, false, true, List, [], ◌∷◌, ap, arith}
use Rattle.std.proofs.Common.{length, refl, slice_index_or, subst, sym}
use Rattle.std.specs.List.{Contains}
use Rattle.ick_code.specs.meaning.Move.{first_state}
use Rattle.ick_code.specs.meaning.State.{faulted, gave_up}
use Rattle.ick_backtrack.specs.Asked.{at_limit, finished}
use Rattle.ick_backtrack.specs.Machine.{Program}
use Rattle.ick_explorer.specs.Runs.{IsEnd, Stop, ends, run as spoken_run, wants}
use Rattle.ick_outcomes.specs.Programs.{heard, hushed, run}
use Rattle.ick_outcomes.proofs.Hushing.{run_heard}
use Rattle.ick_outcomes.specs.Seen.{row_of, rows_of}
use Rattle.ick_outcomes.specs.Summaries.{IsSummary, Row}
use Rattle.ick_outcomes.specs.Tallies.{stop_text}
use Rattle.ick_outcomes.specs.declared.outcome.Outcome.{Outcome}
use Rattle.ick_outcomes.proofs.Lists.{mapped-at}
use Rattle.ick_outcomes_cli.specs.Tool.{GoesOn, HasLimit}
use Rattle.ick_outcomes_cli.specs.Job.{asked_of}
use Rattle.ick_outcomes_cli.specs.declared.words.job.Question.{Question}

contains_row : (rs : List Outcome) (k : ℕ) (o : Outcome) → k < length rs → o ≡ slice_index_or rs k o
    → Contains (rows_of rs) (row_of o)
contains_row [] k o less is = absurd (omega (arith, less))
contains_row (r ∷ rs) zero o less is = (0, omega arith, sym (ap row_of is))
contains_row (r ∷ rs) (suc k) o less is =
    let i = contains_row rs k o (omega (arith, less)) is in
    let more = i.1 in (suc i.0, omega (arith, more), i.2)

-- a row at the limit is found, and there is none
pub limit_here : (rs : List Outcome) (k : ℕ) (o : Outcome) → k < length rs → o ≡ slice_index_or rs k o
    → o.end.items ≡ codes "LIMIT" → HasLimit (rows_of rs)
limit_here rs k o less at is = (row_of o, contains_row rs k o less at, is)

pub no_limit : (rs : List Outcome) (at : ℕ) → length rs ≤ at
    → ((k : ℕ) (d : Outcome) → k < at → (slice_index_or rs k d).end.items ≢ codes "LIMIT")
    → ¬ HasLimit (rows_of rs)
no_limit [] at all other h = let none = h.1.1 in absurd (omega (arith, none))
no_limit (r ∷ rs) at all other h =
    let i = mapped-at row_of (r ∷ rs) r h.0 h.1 in
    let less = i.1 in
    other i.0 r (omega (arith, less, all)) (ap (λ (x : Row). x.end) i.2 ∙ h.2)

heads : (a b : ℕ) (xs ys : List ℕ) → a ∷ xs ≡ b ∷ ys → a ≡ b
heads a b xs ys is = cc

other_head : {T : Type 0} (xs ys : List ℕ) → 69 ∷ xs ≡ 76 ∷ ys → T
other_head xs ys is = let same = heads 69 76 xs ys is in absurd (omega (arith, same))

-- only a run at the limit has the text of the limit
stop_at_limit : (stop : Stop) → stop_text stop ≡ codes "LIMIT" → stop ≡ ends at_limit
stop_at_limit wants is = absurd (cc)
stop_at_limit (ends at_limit) is = refl
stop_at_limit (ends (finished gave_up)) is = absurd (cc)
stop_at_limit (ends (finished (faulted kind statement subject))) is = other_head _ _ is

-- a summary has a row at the limit exactly if a run goes on
-- a run of the program, and of the program as it is asked of
run_of : (p : Program) (q : Question) (input : List ℕ) (limit : ℕ) (c : List Bool)
    → run (asked_of p q) (first_state p input) limit c ≡ heard q.ends (spoken_run p (first_state p input) limit c)
run_of p q input limit c =
    ap (λ s. run (asked_of p q) s limit c) (first_hushed q.ends)
    ∙ run_heard (asked_of p q) (first_state p input) limit c
  where
    first_hushed : (silent : Bool) → first_state p input ≡ hushed silent (first_state p input)
    first_hushed false = refl
    first_hushed true = refl

pub goes_beyond : (p : Program) (q : Question) (input : List ℕ) (limit : ℕ) (rows : List Row)
    → IsSummary (asked_of p q) (first_state p input) limit rows → HasLimit rows → GoesOn p input limit
goes_beyond p q input limit rows summary h =
    let row = summary.sound h.0 h.1 in
    let c = (let r = h.0 in r.first) in
    let has = row.runs.sound c (0, omega arith, refl) in
    let same = run_of p q input limit c in
    record {
      choices = c;
      whole = record {
        at_end = subst (λ r. IsEnd r.stop) same has.whole.at_end;
        all_used = ap (λ r. r.unused) (sym same) ∙ has.whole.all_used;
      };
      cut = stop_at_limit _ (ap (λ r. stop_text r.stop) (sym same) ∙ (has.same_end ∙ h.2));
    }

pub each_ends : (p : Program) (q : Question) (input : List ℕ) (limit : ℕ) (rows : List Row)
    → IsSummary (asked_of p q) (first_state p input) limit rows → ¬ HasLimit rows → ¬ GoesOn p input limit
each_ends p q input limit rows summary none on =
    let same = run_of p q input limit on.choices in
    let row = summary.complete on.choices (record {
      at_end = subst (λ r. IsEnd r.stop) (sym same) on.whole.at_end;
      all_used = ap (λ r. r.unused) same ∙ on.whole.all_used;
    }) in
    let has = row.2 in
    none (row.0, row.1, sym has.same_end ∙ (ap (λ r. stop_text r.stop) same ∙ ap stop_text on.cut))
