use Rattle.std.proofs.Common.{rules, ◌≡◌, ◌++◌, []}
use Rattle.std.specs.Prelude.{codes}
use Rattle.ick_explorer.specs.ChoiceTexts.{choices_text}
use Rattle.ick_outcomes.specs.Lines.{output_text}
use Rattle.ick_outcomes.proofs.LineLaws.{appended}
use Rattle.ick_chain.proofs.line_text.append_never.Goals as goal

pub returns : goal.returns
returns c =
    let weight = c.args.weight.now in
    let choices = choices_text c.args.choices.now in
    let x0 = c.args.out.now.items in
    let x1 = c.extend_from_slice.new.self.items in
    let x2 = c.extend_from_slice-2.new.self.items in
    let x3 = c.push.new.self.items in
    let x4 = c.append_choices.new.out.items in
    let x5 = c.extend_from_slice-3.new.self.items in
    let x6 = c.append_output.new.out.items in
    let x7 = c.push-2.new.self.items in
    let e1 : x1 ≡ x0 ++ codes "* " = search rules in
    let e2 : x2 ≡ x1 ++ weight = search rules in
    let e3 : x3 ≡ x2 ++ codes " " = search rules in
    let e4 : x4 ≡ x3 ++ choices = search rules in
    let e5 : x5 ≡ x4 ++ codes " NEVER" = search rules in
    let e6 : x6 ≡ x5 ++ output_text c.args.silent [] = c.in_ok-append_output.ensures in
    let e7 : x7 ≡ x6 ++ codes "\n" = search rules in
    let s2 = appended x0 (codes "* ") x1 weight x2 e1 e2 in
    let s3 = appended x0 _ x2 (codes " ") x3 s2 e3 in
    let s4 = appended x0 _ x3 choices x4 s3 e4 in
    let s5 = appended x0 _ x4 (codes " NEVER") x5 s4 e5 in
    let s6 = appended x0 _ x5 (output_text c.args.silent []) x6 s5 e6 in
    appended x0 _ x6 (codes "\n") x7 s6 e7
