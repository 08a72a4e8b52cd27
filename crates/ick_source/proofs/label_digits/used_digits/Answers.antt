use Rattle.std.proofs.Common.{None, Some, ap, drop, sym, ◌∙◌}
use Rattle.ick_source.specs.Digits.{significant}
use Rattle.ick_source.specs.Reading.{digits_of}
use Rattle.ick_source.proofs.UsedLabelLemmas.{used_nothing, used_something, uses_spelled}
use Rattle.ick_source.proofs.label_digits.used_digits.Goals as goal

pub returns-in_default : goal.returns-in_default
returns-in_default c = λ head to tree ends same. used_nothing ends same c.in_default.ensures.uses

pub returns : goal.returns
returns c = λ head to tree ends same.
    let text = c.args.text.now in
    let spelled = c.significant_at.ensures ∙ ap (λ k. significant (digits_of (drop k text))) c.min.ensures in
    used_something c.significant_at.result ends same
    (λ none. let both = sym (c.in-Some.ensures.unrecognised none) in absurd (cc))
    (λ t has seen. uses_spelled text c.args.begin c.in-Some.before c.past.result c.skip_white-number.result
    c.significant_at.result t (c.in-Some.ensures.uses t has seen) c.past.ensures c.skip_white-number.ensures spelled)
