use Rattle.std.proofs.Common.{length, refl, sym, ◌∙◌}
use Rattle.ick_numbers.specs.Values.{natural}
use Rattle.ick_chain.proofs.TotalLaws.{total_endless, total_finite, total_stuck}
use Rattle.ick_chain.proofs.total.total_text.Goals as goal

pub returns-then-is_some : goal.returns-then-is_some
returns-then-is_some c = λ p states s full begins.
    total_stuck p s (natural c.args.never.now) c.args.lines.now (length c.args.lines.now) c.in_ok-text.text.items refl
    (c.if-is_some.ensures refl) c.in_ok-text.ensures

pub returns-in_ok-text-in-Some : goal.returns-in_ok-text-in-Some
returns-in_ok-text-in-Some c = λ p states s full begins.
    total_finite p s (natural c.args.never.now) c.args.lines.now (length c.args.lines.now) (natural c.in-Some.count)
    c.in_ok-runs-in-Some.runs.items c.in_ok-text-in-Some.text.items refl
    (c.if-not-are_equal.ensures refl ∙ c.zero.ensures) (sym (rw c.in-Some.is at c.in_ok-count.ensures))
    c.in_ok-runs-in-Some.ensures (rw c.deref.ensures.value at c.in_ok-text-in-Some.ensures)

pub returns-in_ok-text-in-None : goal.returns-in_ok-text-in-None
returns-in_ok-text-in-None c = λ p states s full begins.
    total_endless p s (natural c.args.never.now) c.args.lines.now (length c.args.lines.now)
    c.in_ok-mean-in-None.mean.items c.in_ok-text-in-None.text.items refl
    (c.if-not-are_equal.ensures refl ∙ c.zero.ensures) (sym (rw c.in-None.is at c.in_ok-count.ensures))
    (c.in_ok-mean-in-None.ensures p states s full begins)
    (rw c.deref-in-None.ensures.value at c.in_ok-text-in-None.ensures)
