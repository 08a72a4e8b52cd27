-- Proves that lines whose runs are counted are rows of summaries.
use Rattle.std.proofs.Common.{◌≡◌, ◌⊎◌, inl, inr, ℕ, ◌*◌, ◌-◌, Bool, List, ◌∷◌, length}
use Rattle.std.proofs.Common.{refl, ap, sym, ◌∙◌, subst, arith}
use Rattle.ick_code.specs.meaning.State.{State}
use Rattle.ick_outcomes.specs.Programs.{Program, run}
use Rattle.ick_backtrack.specs.Asked.{finished, at_limit}
use Rattle.ick_explorer.specs.Lines.{end_text}
use Rattle.ick_explorer.specs.Order.{IsBelow}
use Rattle.ick_explorer.specs.Runs.{Stop, ends, wants, Execution, IsEnd}
use Rattle.ick_explorer.proofs.ListingLaws.{below_one_way, contains-cases, lists_unique}
use Rattle.ick_outcomes.specs.Summaries.{HasOutcome as Has, IsRow, Row}
use Rattle.ick_outcomes.specs.Tallies.{Passes, stop_text, tally}
use Rattle.ick_outcomes.specs.Weights.{whole}
use Rattle.ick_outcomes.proofs.Ends.{first-has, test_for, test-self, test-output, test-end}
use Rattle.ick_outcomes.proofs.TallyRuns.{tallied}
use Rattle.ick_chain.specs.ExactListings.{Line}
use Rattle.ick_chain.specs.FirstRuns.{IsFirst, IsNoLater}
use Rattle.ick_chain.specs.Settled.{IsSettled}
use Rattle.ick_chain.specs.Shown.{HasOutcome, IsShown}
use Rattle.ick_chain.proofs.GreaterLimits.{kept}

-- a run that has ended under a limit has its outcome under each greater one
pub lasts : (p : Program) (s : State) (limit : ℕ) (output end : List ℕ) (c : List Bool) →
    (end ≡ end_text at_limit → ⊥) → HasOutcome p s limit output end c → IsShown p s output end c
lasts p s limit output end c not_limit h = by_stop (run p s limit c).stop refl
  where
    on : (m : ℕ) → run p s m c ≡ run p s limit c → HasOutcome p s m output end c
    on m e = record {
      whole = record {
        at_end = subst (λ (x : Execution). IsEnd x.stop) (sym e) h.whole.at_end;
        all_used = ap (λ (x : Execution). x.unused) e ∙ h.whole.all_used;
      };
      same_output = ap (λ (x : Execution). x.last.output) e ∙ h.same_output;
      same_end = ap (λ (x : Execution). stop_text x.stop) e ∙ h.same_end;
    }

    by_stop : (t : Stop) → (run p s limit c).stop ≡ t → IsShown p s output end c
    by_stop wants e = absurd (subst IsEnd e h.whole.at_end)
    by_stop (ends (finished x)) e = record {
      least = limit;
      has = λ m le. on m (kept p limit (m - limit) m s c x (omega (arith, le)) e).same;
    }
    by_stop (ends at_limit) e = absurd (not_limit (sym h.same_end ∙ ap stop_text e))

-- the earlier of two lists each of which is no later than the other
same-first : (c d : List Bool) → IsNoLater c d → (d ≡ c) ⊎ IsBelow d c → d ≡ c
same-first c d h (inl e) = e
same-first c d (inl e) (inr k) = sym e
same-first c d (inr h) (inr k) = absurd (below_one_way c d h k)

-- a row has as many runs as its test counts
row-count : (p : Program) (s : State) (limit : ℕ) (r : Row) → IsRow p s limit r →
    (tally p s limit (test_for r.output r.end)).count ≡ r.count
row-count p s limit r h =
    let q = test_for r.output r.end in
    let u = tallied p s limit q in
    let cs = r.first ∷ h.others in
    let to : (c : List Bool) → Has p s limit r c → Passes p s limit q c = λ c o. record {
      whole = o.whole;
      passed = ap (λ x. test_for r.output r.end x (stop_text (run p s limit c).stop)) o.same_output
          ∙ (ap (λ x. test_for r.output r.end r.output x) o.same_end ∙ test-self r.output r.end);
    } in
    let from : (c : List Bool) → Passes p s limit q c → Has p s limit r c = λ c o. record {
      whole = o.whole;
      same_output = sym (test-output r.output r.end _ _ o.passed);
      same_end = sym (test-end r.output r.end _ _ o.passed);
    } in
    let e : u.0 ≡ cs = lists_unique u.0 cs u.1.increasing h.runs.increasing
    (λ c m. h.runs.complete c (from c (u.1.sound c m))) (λ c m. u.1.complete c (to c (h.runs.sound c m))) in
    u.1.counted ∙ (ap (λ (x : List (List Bool)). length x) e ∙ sym h.counted)

-- the row with the outcome of a line
pub row_settled : (p : Program) (s : State) (limit parts : ℕ) (l : Line) (n : ℕ) (r : Row) → IsRow p s limit r →
    r.output ≡ l.row.output → r.end ≡ l.row.end → (l.row.end ≡ end_text at_limit → ⊥) →
    HasOutcome p s limit l.row.output l.row.end l.shown →
    (tally p s limit (test_for l.row.output l.row.end)).count ≡ n → IsFirst p s l.row.output l.row.end l.shown →
    parts * r.weight ≡ whole * l.row.weight → IsSettled parts l n r
row_settled p s limit parts l n r row same_output same_end not_limit o count first weight =
    let f = first-has p s limit r row in
    let other : IsShown p s l.row.output l.row.end r.first =
    lasts p s limit l.row.output l.row.end r.first not_limit (record {
      whole = f.whole;
      same_output = f.same_output ∙ same_output;
      same_end = f.same_end ∙ same_end;
    }) in
    let has : Has p s limit r l.shown = record {
      whole = o.whole;
      same_output = o.same_output ∙ sym same_output;
      same_end = o.same_end ∙ sym same_end;
    } in
    let behind : (r.first ≡ l.shown) ⊎ IsBelow r.first l.shown =
    elim (contains-cases r.first l.shown row.others (row.runs.complete l.shown has)) [
      | inl e ↦ inl e
      | inr m ↦ inr (row.runs.increasing.0 l.shown m)
    ] in
    let number : (tally p s limit (test_for l.row.output l.row.end)).count ≡ r.count =
    subst (λ z. (tally p s limit (test_for z l.row.end)).count ≡ r.count) same_output
    (subst (λ z. (tally p s limit (test_for r.output z)).count ≡ r.count) same_end (row-count p s limit r row)) in
    record {
      same_output = same_output;
      same_end = same_end;
      count = sym number ∙ count;
      weight = weight;
      first = same-first l.shown r.first (first.first r.first other) behind;
    }
