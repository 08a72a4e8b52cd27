use Rattle.std.proofs.Common.{rules, ◌≡◌, ◌++◌, decimal}
use Rattle.std.specs.Prelude.{codes}
use Rattle.ick_outcomes.proofs.LineLaws.{appended}
use Rattle.ick_chain.proofs.chain_text.append_edge.Goals as goal

pub returns : goal.returns
returns c =
    let word = c.args.choice.now in
    let edge = c.args.edge in
    let x0 = c.args.out.now.items in
    let x1 = c.extend_from_slice.new.self.items in
    let x2 = c.append_decimal.new.out.items in
    let x3 = c.extend_from_slice-2.new.self.items in
    let x4 = c.append_decimal-2.new.out.items in
    let x5 = c.push.new.self.items in
    let x6 = c.append_decimal-3.new.out.items in
    let x7 = c.push-2.new.self.items in
    let x8 = c.append_decimal-4.new.out.items in
    let x9 = c.push-3.new.self.items in
    let e1 : x1 ≡ x0 ++ codes "edge " = search rules in
    let e2 : x2 ≡ x1 ++ decimal c.args.from = search rules in
    let e3 : x3 ≡ x2 ++ word = search rules in
    let e4 : x4 ≡ x3 ++ decimal edge.to = search rules in
    let e5 : x5 ≡ x4 ++ codes " " = search rules in
    let e6 : x6 ≡ x5 ++ decimal c.args.chance = search rules in
    let e7 : x7 ≡ x6 ++ codes " " = search rules in
    let e8 : x8 ≡ x7 ++ decimal edge.steps = search rules in
    let e9 : x9 ≡ x8 ++ codes "\n" = search rules in
    let s2 = appended x0 (codes "edge ") x1 (decimal c.args.from) x2 e1 e2 in
    let s3 = appended x0 _ x2 word x3 s2 e3 in
    let s4 = appended x0 _ x3 (decimal edge.to) x4 s3 e4 in
    let s5 = appended x0 _ x4 (codes " ") x5 s4 e5 in
    let s6 = appended x0 _ x5 (decimal c.args.chance) x6 s5 e6 in
    let s7 = appended x0 _ x6 (codes " ") x7 s6 e7 in
    let s8 = appended x0 _ x7 (decimal edge.steps) x8 s7 e8 in
    appended x0 _ x8 (codes "\n") x9 s8 e9
