use Rattle.std.proofs.Common.{◌≡◌, ◌<◌, ◌≤◌, ◌++◌, length, take, ap, ◌∙◌, arith}
use Rattle.std.proofs.lemmas.Grind.{common_steps}
use Rattle.ick_explorer.specs.ChoiceTexts.{choices_text}
use Rattle.ick_explorer.proofs.KeptLaws.{on_ok_map, text_of_none, text_of_digits}
use Rattle.ick_explorer.proofs.choices.Choices.append_text.Goals as goal
use Rattle.ick_explorer.proofs.choices.Choices.append_text.Goals.{in-Ok, in-Err}

pub returns-then-count-eq0-clause-text : goal.returns-then-count-eq0-clause-text
returns-then-count-eq0-clause-text c =
    let list = c.self.inside.list.items in
    let none : length list ≡ 0 = grind (arith, common_steps) in
    on_ok_map c.append_all.result
    (λ e. e ∙ ap (λ t. c.args.out.now.items ++ t) (text_of_none list none ∙ ap choices_text c.self.view_is))
    c.append_all.ensures.ok

pub returns-clause-text : goal.returns-clause-text
returns-clause-text c =
    let i = c.self.inside in
    let list = i.list.items in
    let count : c.len-count.result ≡ length list = grind (arith, common_steps) in
    let some : 0 < length list = grind (arith, common_steps) in
    let le : length list ≤ 64 = grind (arith, common_steps) in
    elim c.match-extend_from_slice.branch [
      | in-Ok w ↦
          rw w.result-is (w.in-Ok.ensures.items
          ∙ ap (λ t. c.args.out.now.items ++ t)
          (ap (λ n. take n i.digits) count
          ∙ (text_of_digits i.digits list some le c.self.invariant.plain ∙ ap choices_text c.self.view_is)))
      | in-Err w ↦ rw w.result-is tt
    ]
