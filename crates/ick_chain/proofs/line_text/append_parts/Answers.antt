use Rattle.std.proofs.Common.{rules, ◌≡◌, ◌++◌}
use Rattle.std.specs.Prelude.{codes}
use Rattle.ick_explorer.specs.ChoiceTexts.{choices_text}
use Rattle.ick_outcomes.specs.Lines.{output_text}
use Rattle.ick_outcomes.proofs.LineLaws.{appended}
use Rattle.ick_chain.proofs.line_text.append_parts.Goals as goal

pub returns : goal.returns
returns c =
    let line = c.args.line.now in
    let count = c.args.count.now in
    let weight = c.args.weight.now in
    let x0 = c.args.out.now.items in
    let x1 = c.extend_from_slice.new.self.items in
    let x2 = c.push.new.self.items in
    let x3 = c.extend_from_slice-2.new.self.items in
    let x4 = c.push-2.new.self.items in
    let x5 = c.append_choices.new.out.items in
    let x6 = c.push-3.new.self.items in
    let x7 = c.extend_from_slice-3.new.self.items in
    let x8 = c.append_output.new.out.items in
    let x9 = c.push-4.new.self.items in
    let e1 : x1 ≡ x0 ++ count = search rules in
    let e2 : x2 ≡ x1 ++ codes " " = search rules in
    let e3 : x3 ≡ x2 ++ weight = search rules in
    let e4 : x4 ≡ x3 ++ codes " " = search rules in
    let e5 : x5 ≡ x4 ++ choices_text line.shown.items = search rules in
    let e6 : x6 ≡ x5 ++ codes " " = search rules in
    let e7 : x7 ≡ x6 ++ line.row.end.items = search rules in
    let e8 : x8 ≡ x7 ++ output_text c.args.silent line.row.output.items = search rules in
    let e9 : x9 ≡ x8 ++ codes "\n" = search rules in
    let s2 = appended x0 count x1 (codes " ") x2 e1 e2 in
    let s3 = appended x0 _ x2 weight x3 s2 e3 in
    let s4 = appended x0 _ x3 (codes " ") x4 s3 e4 in
    let s5 = appended x0 _ x4 (choices_text line.shown.items) x5 s4 e5 in
    let s6 = appended x0 _ x5 (codes " ") x6 s5 e6 in
    let s7 = appended x0 _ x6 line.row.end.items x7 s6 e7 in
    let s8 = appended x0 _ x7 (output_text c.args.silent line.row.output.items) x8 s7 e8 in
    appended x0 _ x8 (codes "\n") x9 s8 e9
