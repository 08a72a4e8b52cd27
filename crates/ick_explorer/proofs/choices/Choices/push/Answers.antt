use Rattle.std.proofs.Common.{◌≡◌, ◌<◌, ◌≤◌, length, slice_set, sym, subst, arith}
use Rattle.std.proofs.lemmas.Grind.{common_steps}
use Rattle.ick_explorer.specs.ChoiceTexts.{digit_of}
use Rattle.ick_explorer.specs.Choices.{KeepsText, seen_stretches}
use Rattle.ick_explorer.proofs.KeptLaws.{kept_longer, kept_with_digit}
use Rattle.ick_explorer.proofs.choices.Choices.push.Goals as goal

pub invariant_of-self-then-at-ge-MOST_PLAIN : goal.invariant_of-self-then-at-ge-MOST_PLAIN
invariant_of-self-then-at-ge-MOST_PLAIN c =
    let i = c.self.inside in
    let size : length i.digits ≡ 64 = grind (arith, common_steps) in
    let le : 64 ≤ length i.list.items = grind (arith, common_steps) in
    subst (λ x. KeepsText i.digits (seen_stretches i.stretches.items) i.grouped x) (sym c.in-Ok.ensures.items)
    (kept_longer i.digits (seen_stretches i.stretches.items) i.grouped i.list.items c.args.choice size le c.self.invariant)

pub invariant_of-self-2 : goal.invariant_of-self-2
invariant_of-self-2 c =
    let i = c.self.inside in
    let size : length i.digits ≡ 64 = grind (arith, common_steps) in
    let lt : length i.list.items < 64 = grind (arith, common_steps) in
    let at : length i.list.items ≡ c.len-at.result = grind (arith, common_steps) in
    subst (λ d. KeepsText (slice_set i.digits c.len-at.result d) (seen_stretches i.stretches.items) i.grouped c.push.new.self.items)
    (sym c.digit.ensures)
    (subst (λ k. KeepsText (slice_set i.digits k (digit_of c.args.choice)) (seen_stretches i.stretches.items) i.grouped
    c.push.new.self.items) at
    (subst (λ x. KeepsText (slice_set i.digits (length i.list.items) (digit_of c.args.choice)) (seen_stretches i.stretches.items)
    i.grouped x) (sym c.in-Ok.ensures.items)
    (kept_with_digit i.digits (seen_stretches i.stretches.items) i.grouped i.list.items c.args.choice size lt c.self.invariant)))
