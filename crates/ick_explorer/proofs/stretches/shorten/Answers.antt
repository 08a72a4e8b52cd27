use Rattle.std.proofs.Common.{◌<◌, ◌≤◌, ap, sym, ◌∙◌, arith}
use Rattle.std.proofs.lemmas.Grind.{common_steps}
use Rattle.ick_explorer.specs.Choices.{seen_stretch, seen_stretches}
use Rattle.ick_explorer.proofs.StretchLaws.{seen_push, shortened}
use Rattle.ick_explorer.proofs.stretches.shorten.Goals as goal

pub returns-then-last-gt1 : goal.returns-then-last-gt1
returns-then-last-gt1 c = λ d b e.
    let last = c.take_last-last in
    let more : 1 < last.result.size = grind (arith, common_steps) in
    let r = shortened d b (seen_stretches last.new.self.items) (seen_stretch last.result)
    (sym (ap seen_stretches last.ensures.items ∙ seen_push last.new.self.items last.result) ∙ e) in
    ap seen_stretches c.push_reserved.ensures.items ∙ (seen_push last.new.self.items _ ∙ r.more more)

pub returns-else-last-gt1 : goal.returns-else-last-gt1
returns-else-last-gt1 c = λ d b e.
    let last = c.take_last-last in
    let one : last.result.size ≤ 1 = grind (arith, common_steps) in
    let r = shortened d b (seen_stretches last.new.self.items) (seen_stretch last.result)
    (sym (ap seen_stretches last.ensures.items ∙ seen_push last.new.self.items last.result) ∙ e) in
    r.one one
