-- Proves that a summary without runs at the limit is the summary under each greater limit.
use Prim.Native.Nat.{zero, suc}
use Rattle.std.proofs.Common.{◌≡◌, ℕ, ◌+◌, ◌*◌, ◌-◌, ◌^◌, Bool, false, List, [], ◌∷◌}
use Rattle.std.proofs.Common.{refl, ap, sym, ◌∙◌, subst, arith}
use Rattle.std.specs.List.{Contains}
use Rattle.std.proofs.lemmas.Nat.{pow-add}
use Rattle.ick_code.specs.meaning.State.{State, Ending}
use Rattle.ick_code.specs.meaning.Move.{Asking, plain, choice, ended}
use Rattle.ick_outcomes.specs.Programs.{ask, advance, Program, run, IsWhole}
use Rattle.ick_backtrack.specs.Asked.{finished, at_limit}
use Rattle.ick_explorer.specs.Runs.{Stop, ends, wants, Execution, stepped, IsEnd, run_at_limit}
use Rattle.ick_explorer.proofs.ListingLaws.{contains-head, contains-tail}
use Rattle.ick_outcomes.proofs.ProgramRuns.{run-ended, run-plain, run-choice, run-wants, limit-unused, limit-going}
use Rattle.ick_outcomes.specs.Summaries.{Row, HasOutcome, IsRow}
use Rattle.ick_outcomes.specs.Tallies.{stop_text}
use Rattle.ick_outcomes.specs.Weights.{part, share, shares, whole}
use Rattle.ick_outcomes.proofs.TallyRuns.{share-ended, share-plain, share-choice}
use Rattle.ick_chain.specs.GreaterLimits.{AreLasting}

-- under the limit 0 each run ends
limit-end : (p : Program) (s : State) (c : List Bool) → IsEnd (run p s 0 c).stop
unfolding run
limit-end p s c =
    elim (ask p s) as (λ a. IsEnd (run_at_limit a s c).stop) [ plain ↦ tt | choice k ↦ tt | ended e ↦ tt ]

-- a run is the same under a limit that is greater by k, and its weight too
pub record IsKept (p : Program) (s : State) (l k m : ℕ) (c : List Bool) : Type 0 where
  pub same : run p s m c ≡ run p s l c
  pub weighs : share p s m c ≡ share p s l c * 100 ^ k

kept-ended : (p : Program) (s : State) (l k m : ℕ) (c : List Bool) (x : Ending) → m ≡ l + k → ask p s ≡ ended x →
    IsKept p s l k m c
kept-ended p s l k m c x eq g = record {
  same = run-ended p s m c x g ∙ sym (run-ended p s l c x g);
  weighs = share-ended p s m c x g
      ∙ (ap (λ n. 100 ^ n) eq ∙ (pow-add 100 l k ∙ ap (λ n. n * 100 ^ k) (sym (share-ended p s l c x g))));
}

-- a run that has ended
pub kept : (p : Program) (l k m : ℕ) (s : State) (c : List Bool) (e : Ending) → m ≡ l + k →
    (run p s l c).stop ≡ ends (finished e) → IsKept p s l k m c
kept p zero k m s c e eq h = by_asking (ask p s) refl
  where
    by_asking : (a : Asking) → ask p s ≡ a → IsKept p s 0 k m c
    by_asking (ended x) g = kept-ended p s 0 k m c x eq g
    by_asking plain g =
        let x : ends at_limit ≡ ends (finished e) =
        sym (ap (λ (r : Execution). r.stop) (limit-going p s c plain g tt)) ∙ h in cc
    by_asking (choice n) g =
        let x : ends at_limit ≡ ends (finished e) =
        sym (ap (λ (r : Execution). r.stop) (limit-going p s c (choice n) g tt)) ∙ h in cc
kept p (suc l) k zero s c e eq h = absurd (let x : ⊥ = omega (arith, eq) in x)
kept p (suc l) k (suc m) s c e eq h =
    by_asking (ask p s) refl c h (λ b d. kept p l k m (advance p s b) d e (omega (arith, eq)))
  where
    by_asking : (a : Asking) → ask p s ≡ a → (c : List Bool) → (run p s (suc l) c).stop ≡ ends (finished e) →
        ((b : Bool) (d : List Bool) → (run p (advance p s b) l d).stop ≡ ends (finished e) →
        IsKept p (advance p s b) l k m d) → IsKept p s (suc l) k (suc m) c
    by_asking (ended x) g c h ih = kept-ended p s (suc l) k (suc m) c x eq g
    by_asking plain g c h ih =
        let i = ih false c (sym (ap (λ (r : Execution). r.stop) (run-plain p s l c g)) ∙ h) in
        let w = share p (advance p s false) l c in
        let t = 100 ^ k in
        let z : 100 * (w * t) ≡ (100 * w) * t = grind arith in
        record {
          same = run-plain p s m c g ∙ (ap stepped i.same ∙ sym (run-plain p s l c g));
          weighs = share-plain p s m c g
              ∙ (ap (λ n. 100 * n) i.weighs ∙ (z ∙ ap (λ n. n * t) (sym (share-plain p s l c g))));
        }
    by_asking (choice n) g [] h ih =
        let x : wants ≡ ends (finished e) = sym (ap (λ (r : Execution). r.stop) (run-wants p s l n g)) ∙ h in cc
    by_asking (choice n) g (b ∷ c) h ih =
        let i = ih b c (sym (ap (λ (r : Execution). r.stop) (run-choice p s l n b c g)) ∙ h) in
        let w = share p (advance p s b) l c in
        let t = 100 ^ k in
        let y = part n b in
        let z : y * (w * t) ≡ (y * w) * t = grind arith in
        record {
          same = run-choice p s m n b c g ∙ (ap stepped i.same ∙ sym (run-choice p s l n b c g));
          weighs = share-choice p s m n b c g
              ∙ (ap (λ v. y * v) i.weighs ∙ (z ∙ ap (λ v. v * t) (sym (share-choice p s l n b c g))));
        }

-- a run that wants a choice wants it under a greater limit too
wants-kept : (p : Program) (l k m : ℕ) (s : State) (c : List Bool) → m ≡ l + k → (run p s l c).stop ≡ wants →
    (run p s m c).stop ≡ wants
wants-kept p zero k m s c eq h = absurd (subst IsEnd h (limit-end p s c))
wants-kept p (suc l) k zero s c eq h = absurd (let x : ⊥ = omega (arith, eq) in x)
wants-kept p (suc l) k (suc m) s c eq h =
    by_asking (ask p s) refl c h (λ b d. wants-kept p l k m (advance p s b) d (omega (arith, eq)))
  where
    by_asking : (a : Asking) → ask p s ≡ a → (c : List Bool) → (run p s (suc l) c).stop ≡ wants →
        ((b : Bool) (d : List Bool) → (run p (advance p s b) l d).stop ≡ wants →
        (run p (advance p s b) m d).stop ≡ wants) → (run p s (suc m) c).stop ≡ wants
    by_asking (ended x) g c h ih =
        let z : ends (finished x) ≡ wants =
        sym (ap (λ (r : Execution). r.stop) (run-ended p s (suc l) c x g)) ∙ h in cc
    by_asking plain g c h ih =
        ap (λ (r : Execution). r.stop) (run-plain p s m c g)
        ∙ ih false c (sym (ap (λ (r : Execution). r.stop) (run-plain p s l c g)) ∙ h)
    by_asking (choice n) g [] h ih = ap (λ (r : Execution). r.stop) (run-wants p s m n g)
    by_asking (choice n) g (b ∷ c) h ih =
        ap (λ (r : Execution). r.stop) (run-choice p s m n b c g)
        ∙ ih b c (sym (ap (λ (r : Execution). r.stop) (run-choice p s l n b c g)) ∙ h)

-- the choices that a run at the limit has used are whole
record IsCut (p : Program) (s : State) (l : ℕ) : Type 0 where
  pub choices : List Bool
  pub whole : IsWhole p s l choices
  pub stop : (run p s l choices).stop ≡ ends at_limit

cut-on : (p : Program) (s t : State) (l : ℕ) (c d : List Bool) → run p s (suc l) c ≡ stepped (run p t l d) →
    IsWhole p t l d → (run p t l d).stop ≡ ends at_limit → IsCut p s (suc l)
cut-on p s t l c d e w h = record {
  choices = c;
  whole = record {
    at_end = subst (λ (r : Execution). IsEnd r.stop) (sym e) w.at_end;
    all_used = ap (λ (r : Execution). r.unused) e ∙ w.all_used;
  };
  stop = ap (λ (r : Execution). r.stop) e ∙ h;
}

cut : (p : Program) (l : ℕ) (s : State) (c : List Bool) → (run p s l c).stop ≡ ends at_limit → IsCut p s l
cut p zero s c h = by_asking (ask p s) refl
  where
    at : (a : Asking) → run p s 0 [] ≡ record { last = s; stop = ends at_limit; steps = 0; unused = [] } → IsCut p s 0
    at a e = record {
      choices = [];
      whole = record { at_end = limit-end p s []; all_used = limit-unused p s [] };
      stop = ap (λ (r : Execution). r.stop) e;
    }

    by_asking : (a : Asking) → ask p s ≡ a → IsCut p s 0
    by_asking (ended x) g =
        let z : ends (finished x) ≡ ends at_limit =
        sym (ap (λ (r : Execution). r.stop) (run-ended p s 0 c x g)) ∙ h in cc
    by_asking plain g = at plain (limit-going p s [] plain g tt)
    by_asking (choice n) g = at (choice n) (limit-going p s [] (choice n) g tt)
cut p (suc l) s c h = by_asking (ask p s) refl c h (λ b d. cut p l (advance p s b) d)
  where
    by_asking : (a : Asking) → ask p s ≡ a → (c : List Bool) → (run p s (suc l) c).stop ≡ ends at_limit →
        ((b : Bool) (d : List Bool) → (run p (advance p s b) l d).stop ≡ ends at_limit → IsCut p (advance p s b) l) →
        IsCut p s (suc l)
    by_asking (ended x) g c h ih =
        let z : ends (finished x) ≡ ends at_limit =
        sym (ap (λ (r : Execution). r.stop) (run-ended p s (suc l) c x g)) ∙ h in cc
    by_asking plain g c h ih =
        let i = ih false c (sym (ap (λ (r : Execution). r.stop) (run-plain p s l c g)) ∙ h) in
        cut-on p s (advance p s false) l i.choices i.choices (run-plain p s l i.choices g) i.whole i.stop
    by_asking (choice n) g [] h ih =
        let x : wants ≡ ends at_limit = sym (ap (λ (r : Execution). r.stop) (run-wants p s l n g)) ∙ h in cc
    by_asking (choice n) g (b ∷ c) h ih =
        let i = ih b c (sym (ap (λ (r : Execution). r.stop) (run-choice p s l n b c g)) ∙ h) in
        cut-on p s (advance p s b) l (b ∷ i.choices) i.choices (run-choice p s l n b i.choices g) i.whole i.stop

module _ (p : Program) (s : State) (l k m : ℕ) (eq : m ≡ l + k) (none : IsCut p s l → ⊥) where
  -- no run is at the limit, so whole runs are the same
  whole-kept : (c : List Bool) → IsWhole p s l c → IsKept p s l k m c
  whole-kept c w = by_stop (run p s l c).stop refl
    where
      by_stop : (t : Stop) → (run p s l c).stop ≡ t → IsKept p s l k m c
      by_stop wants h = absurd (subst IsEnd h w.at_end)
      by_stop (ends (finished e)) h = kept p l k m s c e eq h
      by_stop (ends at_limit) h = absurd (none (cut p l s c h))

  -- and no others are whole
  kept-whole : (c : List Bool) → IsWhole p s m c → run p s m c ≡ run p s l c
  kept-whole c w = by_stop (run p s l c).stop refl
    where
      by_stop : (t : Stop) → (run p s l c).stop ≡ t → run p s m c ≡ run p s l c
      by_stop wants h = absurd (subst IsEnd (wants-kept p l k m s c eq h) w.at_end)
      by_stop (ends (finished e)) h = (kept p l k m s c e eq h).same
      by_stop (ends at_limit) h = absurd (none (cut p l s c h))

  outcome-on : (a b : ℕ) (r : Row) (c : List Bool) → run p s b c ≡ run p s a c → HasOutcome p s a r c →
      HasOutcome p s b r c
  outcome-on a b r c e h = record {
    whole = record {
      at_end = subst (λ (x : Execution). IsEnd x.stop) (sym e) h.whole.at_end;
      all_used = ap (λ (x : Execution). x.unused) e ∙ h.whole.all_used;
    };
    same_output = ap (λ (x : Execution). x.last.output) e ∙ h.same_output;
    same_end = ap (λ (x : Execution). stop_text x.stop) e ∙ h.same_end;
  }

  outcome-more : (r : Row) (c : List Bool) → HasOutcome p s l r c → HasOutcome p s m r c
  outcome-more r c h = outcome-on l m r c (whole-kept c h.whole).same h

  outcome-less : (r : Row) (c : List Bool) → HasOutcome p s m r c → HasOutcome p s l r c
  outcome-less r c h = outcome-on m l r c (sym (kept-whole c h.whole)) h

  shares-kept : (r : Row) (cs : List (List Bool)) → ((c : List Bool) → Contains cs c → HasOutcome p s l r c) →
      shares p s m cs ≡ shares p s l cs * 100 ^ k
  shares-kept r [] f = let e : 0 ≡ 0 * 100 ^ k = grind arith in e
  shares-kept r (c ∷ cs) f =
      let a = (whole-kept c (f c (contains-head c cs)).whole).weighs in
      let b = shares-kept r cs (λ d n. f d (contains-tail c d cs n)) in
      let x = share p s l c in
      let y = shares p s l cs in
      let t = 100 ^ k in
      let e : x * t + y * t ≡ (x + y) * t = grind arith in
      ap (λ n. n + shares p s m cs) a ∙ (ap (λ n. x * t + n) b ∙ e)

  row-kept : (r : Row) → IsRow p s l r → IsRow p s m r
  row-kept r h =
      let cs = r.first ∷ h.others in
      let n = shares p s l cs in
      let t = 100 ^ k in
      let w = whole in
      let a : r.weight * 100 ^ m ≡ r.weight * 100 ^ l * t = by_numbers (100 ^ m) (100 ^ l) t
      (ap (λ n. 100 ^ n) eq ∙ pow-add 100 l k) in
      let b : r.weight * 100 ^ l * t ≡ w * n * t = ap (λ z. z * t) h.weighed in
      let e : w * n * t ≡ w * (n * t) = grind arith in
      record {
        others = h.others;
        runs = record {
          increasing = h.runs.increasing;
          sound = λ c i. outcome-more r c (h.runs.sound c i);
          complete = λ c o. h.runs.complete c (outcome-less r c o);
        };
        counted = h.counted;
        weighed = a ∙ (b ∙ (e ∙ ap (λ z. w * z) (sym (shares-kept r cs h.runs.sound))));
      }
    where
      by_numbers : (x y z : ℕ) → x ≡ y * z → r.weight * x ≡ r.weight * y * z
      by_numbers x y z g = let f : r.weight * (y * z) ≡ r.weight * y * z = grind arith in ap (λ v. r.weight * v) g ∙ f

pub are_lasting : (p : Program) (s : State) → AreLasting p s
are_lasting p s l m rows le h f =
    let eq : m ≡ l + (m - l) = omega (arith, le) in
    let none : IsCut p s l → ⊥ = λ cut.
    let o = h.complete cut.choices cut.whole in
    f o.0 o.1 (sym o.2.same_end ∙ ap stop_text cut.stop) in
    record {
      sound = λ r i. row-kept p s l (m - l) m eq none r (h.sound r i);
      complete = λ c w.
          let same = kept-whole p s l (m - l) m eq none c w in
          let o = h.complete c (record {
            at_end = subst (λ (x : Execution). IsEnd x.stop) same w.at_end;
            all_used = ap (λ (x : Execution). x.unused) (sym same) ∙ w.all_used;
          }) in
          (o.0, o.1, outcome-more p s l (m - l) m eq none o.0 c o.2);
      increasing = h.increasing;
    }
