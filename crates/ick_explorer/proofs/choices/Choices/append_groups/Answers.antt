use Rattle.std.proofs.Common.{◌≡◌, suc, ◌+◌, ◌<◌, ◌++◌, false, length, take, get_or, map, ap, sym, ◌∙◌, subst, append_assoc}
use Rattle.std.proofs.Common.{arith}
use Rattle.std.proofs.lemmas.List.{length-map, get_or-map, take_all}
use Rattle.ick_explorer.specs.declared.stretches.Stretch.{Stretch as KeptStretch}
use Rattle.ick_explorer.specs.ChoiceTexts.{Stretch, choices_text, group_of, group_text, groups_text, stretches}
use Rattle.ick_explorer.specs.Choices.{seen_stretch, seen_stretches}
use Rattle.ick_explorer.specs.Printing.{comma_before}
use Rattle.ick_explorer.proofs.KeptLaws.{comma, groups_more, on_ok, text_of_stretches}
use Rattle.ick_explorer.proofs.choices.Choices.append_groups.Goals as goal

pub loop-stretch-preserved : goal.loop-stretch-preserved
loop-stretch-preserved c =
    let kept = c.deref-stretch-items.result.now in
    let seen = seen_stretches kept in
    let at = c.loop-stretch.stretch-index in
    let lt : at < length kept = c.loop-stretch-test.true in
    let out = c.args.out.now.items in
    let before = comma_before c.loop-stretch.later in
    let i = c.loop-stretch.invariant in
    let size = length-map kept seen_stretch in
    let front = groups_text (map group_of (take at seen)) in
    let no_stretch : KeptStretch = record { choice = false; size = 0 } in
    let none : Stretch = seen_stretch no_stretch in
    let group = group_text (group_of (get_or seen at none)) in
    let this : group_text (group_of (seen_stretch (get_or kept at no_stretch))) ≡ group =
    ap (λ s. group_text (group_of s)) (sym (get_or-map seen_stretch kept at no_stretch none lt)) in
    let next : at + 1 ≡ suc at = omega arith in
    record {
      text =
          c.in_ok-push_group.ensures.ok
          ∙ (ap (λ x. c.loop-stretch.out.items ++ before ++ x) this
          ∙ (ap (λ x. x ++ before ++ group) i.text
          ∙ (ap (λ x. (out ++ front) ++ x ++ group) i.later
          ∙ (ap (λ x. x ++ group) (append_assoc out front (comma at))
          ∙ (append_assoc out (front ++ comma at) group
          ∙ ap (λ x. out ++ x) (groups_more seen at none (omega (arith, lt, size))))))));
      later = sym (ap comma next);
    }

pub returns-clause-text : goal.returns-clause-text
returns-clause-text c =
    let list = c.self.inside.list.items in
    let items = c.deref-stretch-items in
    let seen = seen_stretches items.result.now in
    let kept : seen ≡ stretches list =
    ap seen_stretches items.ensures.value
    ∙ (on_ok c.group.result c.is_err.result c.is_err.ensures.value c.if-is_err.false c.group.ensures
    ∙ ap stretches c.deref.ensures.value) in
    let long : 64 < length list = subst (λ x. 64 < length x) (sym c.self.view_is) c.requires in
    let all = take_all c.loop-stretch.stretch-index seen
    (let n = length-map items.result.now seen_stretch in let k = c.loop-stretch-test.false in omega (arith, n, k)) in
    c.loop-stretch.invariant.text
    ∙ ap (λ t. c.args.out.now.items ++ t) (ap (λ ss. groups_text (map group_of ss)) all
    ∙ (text_of_stretches seen list long kept ∙ ap choices_text c.self.view_is))
