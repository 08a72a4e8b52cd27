-- Proves that the weights of lists of runs come to that of their row.
use Rattle.std.proofs.Common.{◌≡◌, ℕ, ◌+◌, ◌*◌, ◌^◌, Bool, true, false, List, refl, ap, sym, ◌∙◌, arith}
use Rattle.std.proofs.Math.Nat.{mul-le-mul_left}
use Rattle.ick_code.specs.meaning.State.{State}
use Rattle.ick_outcomes.specs.Programs.{Program, run}
use Rattle.ick_backtrack.specs.Asked.{at_limit}
use Rattle.ick_explorer.specs.Lines.{end_text}
use Rattle.ick_explorer.specs.Runs.{ends}
use Rattle.ick_explorer.proofs.ListingLaws.{lists_unique}
use Rattle.ick_outcomes.specs.Summaries.{AreRunsOf, HasOutcome}
use Rattle.ick_outcomes.specs.Tallies.{Passes, stop_text}
use Rattle.ick_outcomes.specs.Weights.{shares}
use Rattle.ick_outcomes.proofs.Ends.{test_for, test-self, test-output, test-end}
use Rattle.ick_outcomes.proofs.TallyRuns.{tallied}
use Rattle.ick_chain.specs.Limits.{ended_weight, going_weight}
use Rattle.ick_chain.specs.Rows.{Row, IsTestOf}
use Rattle.ick_chain.specs.RowLimits.{AreNear, listed}
use Rattle.ick_chain.specs.Tallied.{IsOfEnded, of_states}
use Rattle.ick_chain.proofs.TallyLaws.{tallied as weights_tallied}
use Rattle.ick_chain.proofs.Unique.{pinned}

pub is-test : (output end : List ℕ) → IsTestOf output end (test_for output end)
is-test output end = record {
  passed = test-self output end;
  alone = λ o e h. (sym (test-output output end o e h), sym (test-end output end o e h));
}

pub false-of : (b : Bool) → (b ≡ true → ⊥) → b ≡ false
false-of true f = absurd (f refl)
false-of false f = refl

pub of-ended : (output end : List ℕ) → (end ≡ end_text at_limit → ⊥) → IsOfEnded (test_for output end)
of-ended output end f = record {
  limit = λ o. false-of (test_for output end o (stop_text (ends at_limit)))
      (λ h. f (test-end output end o (stop_text (ends at_limit)) h));
}

-- the runs of a row weigh what its test does
shares-are : (p : Program) (s : State) (l : ℕ) (r : Row) (cs : List (List Bool)) → AreRunsOf p s l (listed r) cs →
    (r.end ≡ end_text at_limit → ⊥) →
    ended_weight p (of_states (test_for r.output r.end)) s l ≡ shares p s l cs
shares-are p s l r cs h f =
    let q = test_for r.output r.end in
    let u = tallied p s l q in
    let w = (weights_tallied p s l).ended q (of-ended r.output r.end f) in
    let to : (c : List Bool) → HasOutcome p s l (listed r) c → Passes p s l q c = λ c o. record {
      whole = o.whole;
      passed = ap (λ x. test_for r.output r.end x (stop_text (run p s l c).stop)) o.same_output
          ∙ (ap (λ x. test_for r.output r.end r.output x) o.same_end ∙ test-self r.output r.end);
    } in
    let from : (c : List Bool) → Passes p s l q c → HasOutcome p s l (listed r) c = λ c o. record {
      whole = o.whole;
      same_output = sym (test-output r.output r.end _ _ o.passed);
      same_end = sym (test-end r.output r.end _ _ o.passed);
    } in
    let e : u.0 ≡ cs = lists_unique u.0 cs u.1.increasing h.increasing
    (λ c m. h.complete c (from c (u.1.sound c m))) (λ c m. u.1.complete c (to c (h.sound c m))) in
    sym w ∙ (u.1.weighed ∙ ap (shares p s l) e)

pub are_near : (p : Program) (s : State) → AreNear p s
are_near p s parts weight forever steps rows x are r m f l cs h =
    let q = test_for r.output r.end in
    let t = 100 ^ l in
    let v = ended_weight p (of_states q) s l in
    let g = going_weight p s l in
    let n = shares p s l cs in
    let e : v ≡ n = shares-are p s l r cs h f in
    let w : weight (of_states q) ≡ r.weight = are.each r m q (is-test r.output r.end) in
    let ends = x.ends (of_states q) l in
    let a : parts * v ≡ parts * n = ap (λ z. parts * z) e in
    let b : weight (of_states q) * t ≡ r.weight * t = ap (λ z. z * t) w in
    let pin = mul-le-mul_left (100 * l) (pinned p s parts weight forever steps x (of_states q) l) in
    let soon = x.soon l in
    let k = weight (of_states q) in
    let d1 : 100 * l * ((k + forever) * t) ≡ 100 * (l * (k * t)) + 100 * (l * forever) * t = grind arith in
    let d2 : 100 * l * (parts * (v + g)) ≡ 100 * (l * (parts * v)) + 100 * (l * (parts * g)) = grind arith in
    let d3 : (steps + 100 * (l * forever)) * t ≡ steps * t + 100 * (l * forever) * t = grind arith in
    let c1 : 100 * (l * (k * t)) ≡ 100 * (l * (r.weight * t)) = ap (λ z. 100 * (l * z)) b in
    let c2 : 100 * (l * (parts * v)) ≡ 100 * (l * (parts * n)) = ap (λ z. 100 * (l * z)) a in
    record {
      below = omega (arith, ends, a, b);
      near = omega (arith, pin, soon, d1, d2, d3, c1, c2);
    }
