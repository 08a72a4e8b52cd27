use Rattle.std.proofs.Common.{◌≡◌, ℕ, ◌==◌, List, arith, ap, sym, true, get_or, length, eq-eqb, subst, take, ◌∙◌}
use Rattle.std.specs.List.{before_first}
use Rattle.std.proofs.Math.Seq.{take-length}
use Rattle.std.proofs.lemmas.List.Sums.{position_or_len_is}
use Rattle.test_rows.proofs.LineLemmas.{line_once}
use Rattle.test_rows.proofs.lines.first_line.Goals as goal

once : (text line : List ℕ) → line ≡ before_first (λ b. b == 10) text → before_first (λ b. b == 10) line ≡ line
once text line is = subst (λ l. before_first (λ b. b == 10) l ≡ l) (sym is) (line_once text)

pub returns-then-byte-eq10-clause-line : goal.returns-then-byte-eq10-clause-line
returns-then-byte-eq10-clause-line c =
    let here : (get_or c.args.text.now c.loop-index.index 0 == 10) ≡ true =
    eq-eqb (get_or c.args.text.now c.loop-index.index 0) 10 c.if-byte-eq10.true in
    ap (λ n. take n c.args.text.now) (sym (position_or_len_is (λ b. b == 10) c.args.text.now c.loop-index.index 0
    (omega arith) c.loop-index.invariant (λ l. here)))

pub returns-then-byte-eq10-clause-once : goal.returns-then-byte-eq10-clause-once
returns-then-byte-eq10-clause-once c = once c.args.text.now _ (returns-then-byte-eq10-clause-line c)

pub returns-clause-line : goal.returns-clause-line
returns-clause-line c =
    sym (take-length c.args.text.now)
    ∙ ap (λ n. take n c.args.text.now) (sym (position_or_len_is (λ b. b == 10) c.args.text.now
    (length c.args.text.now) 0 (omega arith) (λ k h. c.loop-index.invariant k (omega arith))
    (λ l. absurd (omega arith))))

pub returns-clause-once : goal.returns-clause-once
returns-clause-once c = once c.args.text.now _ (returns-clause-line c)
