use Rattle.std.proofs.Common.{refl, ap, sym, ◌∙◌, subst}
use Rattle.ick_numbers.specs.Values.{natural}
use Rattle.ick_chain.specs.ExactListings.{IsNeverText, never_parts, nothing, something}
use Rattle.ick_chain.proofs.line_text.never_text.Goals as goal

pub returns-in-None : goal.returns-in-None
returns-in-None c = λ p s silent h.
    subst (IsNeverText p s c.args.exact (natural c.args.parts.now) (natural c.args.never.now))
    (sym c.new-text.ensures.items) (nothing (rw c.in-None.is at c.requires.ends))

pub returns-in_ok-append_never-in-Some : goal.returns-in_ok-append_never-in-Some
returns-in_ok-append_never-in-Some c = λ p s silent h.
    let same = rw (c.new-text.ensures.items, c.deref.ensures.value, c.deref-in-Some.ensures.value) at
    c.in_ok-append_never-in-Some.ensures in
    subst (IsNeverText p s c.args.exact (natural c.args.parts.now) (natural c.args.never.now))
    (sym (same ∙ ap (λ z. never_parts z c.in_ok-weight-in-Some.weight.items c.in-Some.choices.items) silent))
    (something c.in-Some.choices.items c.in_ok-weight-in-Some.weight.items (c.if-not-is_some.ensures refl)
    (rw c.in-Some.is at h) c.in_ok-weight-in-Some.ensures)
