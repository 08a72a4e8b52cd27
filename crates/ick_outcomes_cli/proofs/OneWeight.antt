-- Listings without a limit give an outcome one weight.
use Rattle.std.proofs.Common.{◌≡◌, ◌∙◌, ◌*◌, ℕ, List, [], ◌∷◌, ap, inl, inr, subst, sym}
use Rattle.std.specs.Prelude.{map}
use Rattle.std.specs.List.{Contains}
use Rattle.ick_code.specs.meaning.State.{State}
use Rattle.ick_outcomes.specs.Programs.{Program}
use Rattle.ick_explorer.proofs.ListingLaws.{contains-cases, contains-head, contains-nil, contains-tail}
use Rattle.ick_outcomes.specs.Tallies.{Test}
use Rattle.ick_outcomes.proofs.Ends.{test_for, test-end, test-output, test-self}
use Rattle.ick_chain.specs.Chains.{AreSame}
use Rattle.ick_chain.specs.ExactListings.{AreLines, Line}
use Rattle.ick_chain.specs.Rows.{IsTestOf, Row, SameRow}
use Rattle.ick_chain.specs.Tallied.{of_states}
use Rattle.ick_chain.proofs.Unique.{one_answer}

-- the test that an outcome alone passes
is_test : (output end : List ℕ) → IsTestOf output end (test_for output end)
is_test output end = record {
  passed = test-self output end;
  alone = λ o e h. (sym (test-output output end o e h), sym (test-end output end o e h));
}

test_of : (x r : Row) → SameRow x r → IsTestOf x.output x.end (test_for r.output r.end)
test_of x r same =
    subst (λ o. IsTestOf o x.end (test_for r.output r.end)) (sym same.same_output)
    (subst (λ e. IsTestOf r.output e (test_for r.output r.end)) (sym same.same_end) (is_test r.output r.end))

row_there : (ls : List Line) (l : Line) → Contains ls l → Contains (map (λ (x : Line). x.row) ls) l.row
row_there [] l has = absurd (contains-nil l has)
row_there (x ∷ ls) l has = elim (contains-cases x l ls has) [
  | inl e ↦
      subst (λ (z : Line). Contains (map (λ (y : Line). y.row) (x ∷ ls)) z.row) e
      (contains-head x.row (map (λ (y : Line). y.row) ls))
  | inr later ↦ contains-tail x.row l.row (map (λ (y : Line). y.row) ls) (row_there ls l later)
]

module _ (p : Program) (s : State) (parts others never forever : ℕ) (lines more : List Line)
    (g : AreLines p s parts never lines) (h : AreLines p s others forever more) where
  same : AreSame parts others g.weight h.weight never forever
  same = one_answer p s parts others g.weight h.weight never forever g.steps h.steps g.exact h.exact

  row_same : (l x : Line) → Contains lines l → Contains more x → SameRow x.row l.row →
      others * l.row.weight ≡ parts * x.row.weight
  row_same l x has there alike =
      let q : Test = test_for l.row.output l.row.end in
      let rows = g.rows in
      let columns = h.rows in
      let alone = same.weights (of_states q) in
      let one : g.weight (of_states q) ≡ l.row.weight =
      rows.each l.row (row_there lines l has) q (is_test l.row.output l.row.end) in
      let other : h.weight (of_states q) ≡ x.row.weight =
      columns.each x.row (row_there more x there) q (test_of x.row l.row alike) in
      ap (λ n. others * n) (sym one) ∙ (alone ∙ ap (λ n. parts * n) other)

pub same_weights : (p : Program) (s : State) (parts others never forever : ℕ) (lines more : List Line)
    → AreLines p s parts never lines → AreLines p s others forever more
    → (others * never ≡ parts * forever)
    × ((l x : Line) → Contains lines l → Contains more x → SameRow x.row l.row
    → others * l.row.weight ≡ parts * x.row.weight)
same_weights p s parts others never forever lines more g h =
    let all = one_answer p s parts others g.weight h.weight never forever g.steps h.steps g.exact h.exact in
    (all.forever, row_same p s parts others never forever lines more g h)
