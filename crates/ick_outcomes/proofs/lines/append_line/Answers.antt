use Rattle.std.proofs.Common.{rules, refl, ◌≡◌, ◌∙◌, ◌++◌}
use Rattle.std.specs.Prelude.{codes}
use Rattle.ick_outcomes.specs.Lines.{output_text}
use Rattle.ick_explorer.specs.ChoiceTexts.{choices_text}
use Rattle.ick_outcomes.proofs.LineLaws.{appended}
use Rattle.ick_outcomes.proofs.lines.append_line.Goals as goal

pub returns : goal.returns
returns c = λ exact h.
    let outcome = c.args.outcome.now in
    let count = c.args.texts.now.count.text.items in
    let weight = c.args.texts.now.weight.text.items in
    let choices = choices_text outcome.first.items in
    let output = output_text c.args.silent outcome.output.items in
    let x0 = c.args.out.now.items in
    let x1 = c.extend_from_slice.new.self.items in
    let x2 = c.push.new.self.items in
    let x3 = c.extend_from_slice-2.new.self.items in
    let x4 = c.push-2.new.self.items in
    let x5 = c.append_choices.new.out.items in
    let x6 = c.push-3.new.self.items in
    let x7 = c.extend_from_slice-3.new.self.items in
    let x8 = c.append_output.new.out.items in
    let x9 = c.push-4.new.self.items in
    let e1 : x1 ≡ x0 ++ count = search rules in
    let e2 : x2 ≡ x1 ++ codes " " = search rules in
    let e3 : x3 ≡ x2 ++ weight = search rules in
    let e4 : x4 ≡ x3 ++ codes " " = search rules in
    let e5 : x5 ≡ x4 ++ choices = search rules in
    let e6 : x6 ≡ x5 ++ codes " " = search rules in
    let e7 : x7 ≡ x6 ++ outcome.end.items = search rules in
    let e8 : x8 ≡ x7 ++ output =
    c.in_ok-append_output.ensures outcome.output.items (c.deref-5.ensures.value ∙ h.written) in
    let e9 : x9 ≡ x8 ++ codes "\n" = search rules in
    let s2 = appended x0 count x1 (codes " ") x2 e1 e2 in
    let s3 = appended x0 _ x2 weight x3 s2 e3 in
    let s4 = appended x0 _ x3 (codes " ") x4 s3 e4 in
    let s5 = appended x0 _ x4 choices x5 s4 e5 in
    let s6 = appended x0 _ x5 (codes " ") x6 s5 e6 in
    let s7 = appended x0 _ x6 outcome.end.items x7 s6 e7 in
    let s8 = appended x0 _ x7 output x8 s7 e8 in
    record {
      line = count ++ codes " " ++ weight ++ codes " " ++ choices ++ codes " " ++ outcome.end.items ++ output
          ++ codes "\n";
      is_line = record { count = count; weight = weight; counted = h.counted; weighed = h.weighed; same = refl };
      same = appended x0 _ x8 (codes "\n") x9 s8 e9;
    }
