-- Proves that texts are those of a summary.
use Prim.Native.Nat.{suc}
use Rattle.std.proofs.Common.{◌≡◌, ℕ, ◌+◌, ◌<◌, ◌≤◌, length, take, Bool, List, [], ◌∷◌, ◌++◌}
use Rattle.std.proofs.Common.{ap, sym, ◌∙◌, subst, append_assoc, arith, slice_index_or}
use Rattle.std.specs.Prelude.{codes}
use Rattle.ick_outcomes.specs.Buffered.{AppendsLine}
use Rattle.ick_outcomes.specs.Lines.{AreLines, no_line, one_more, IsSummaryText}
use Rattle.ick_numbers.specs.Values.{natural}
use Rattle.ick_outcomes.specs.Seen.{rows_of}
use Rattle.ick_outcomes.specs.Summaries.{count_of}
use Rattle.ick_outcomes.specs.declared.outcome.Outcome.{Outcome}
use Rattle.ick_outcomes.proofs.Lists.{take-more, take-all}

-- what is appended to a text that was appended
pub appended : (x b y r z : List ℕ) → y ≡ x ++ b → z ≡ y ++ r → z ≡ x ++ (b ++ r)
appended x b y r z e f = f ∙ (ap (λ w. w ++ r) e ∙ append_assoc x b r)

-- the lines of outcomes up to an index
pub lines_start : (exact silent : Bool) (os : List Outcome) → AreLines exact silent (take 0 os) []
lines_start exact silent os = no_line

pub lines_more : (exact silent : Bool) (os : List Outcome) (i : ℕ) (o : Outcome) (text new : List ℕ) → i < length os →
    o ≡ slice_index_or os i o → AreLines exact silent (take i os) text → AppendsLine exact silent o text new →
    AreLines exact silent (take (i + 1) os) new
lines_more exact silent os i o text new lt e h k =
    let next : i + 1 ≡ suc i = omega arith in
    let same = ap (λ z. take z os) next ∙ (take-more os i o lt ∙ ap (λ z. take i os ++ z ∷ []) (sym e)) in
    subst (λ z. AreLines exact silent z new) (sym same)
    (subst (AreLines exact silent (take i os ++ o ∷ [])) (sym k.same) (one_more (take i os) o text k.line h k.is_line))

pub lines_end : (exact silent : Bool) (os : List Outcome) (i : ℕ) (lines text : List ℕ) → length os ≤ i →
    AreLines exact silent (take i os) lines → text ≡ lines ++ codes "DONE\n" → IsSummaryText exact silent os text
lines_end exact silent os i lines text le h e = record {
  lines = lines;
  are_lines = subst (λ z. AreLines exact silent z lines) (take-all os i le) h;
  same = e;
}

-- the sum of the counts of the outcomes up to an index
count-push : (os : List Outcome) (o : Outcome) →
    count_of (rows_of (os ++ o ∷ [])) ≡ count_of (rows_of os) + natural o.count
count-push [] o = omega arith
count-push (x ∷ os) o = let h = count-push os o in omega (arith, h)

pub total_more : (os : List Outcome) (i : ℕ) (o : Outcome) (sum new : ℕ) → i < length os →
    o ≡ slice_index_or os i o → sum ≡ count_of (rows_of (take i os)) → new ≡ sum + natural o.count →
    new ≡ count_of (rows_of (take (i + 1) os))
total_more os i o sum new lt e h k =
    let next : i + 1 ≡ suc i = omega arith in
    let same = ap (λ z. take z os) next ∙ (take-more os i o lt ∙ ap (λ z. take i os ++ z ∷ []) (sym e)) in
    let push = count-push (take i os) o in
    k ∙ (ap (λ z. z + natural o.count) h ∙ (sym push ∙ ap (λ z. count_of (rows_of z)) (sym same)))

pub total_end : (os : List Outcome) (i sum : ℕ) → length os ≤ i → sum ≡ count_of (rows_of (take i os)) →
    sum ≡ count_of (rows_of os)
total_end os i sum le h = h ∙ ap (λ z. count_of (rows_of z)) (take-all os i le)

-- the lemmas that a function uses together
pub ruleset all_lines = (lines_start, lines_more, lines_end)
