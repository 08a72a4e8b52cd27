use Rattle.std.proofs.Common.{◌≡◌, subst, sym, arith}
use Rattle.std.proofs.lemmas.Grind.{common_steps}
use Rattle.ick_code.specs.meaning.InputOutput.{first_line}
use Rattle.test_refusals.proofs.feeds.TextFeedFeed.line.Goals as goal

pub returns-clause-one : goal.returns-clause-one
returns-clause-one c = λ _.
    let line = c.first_line-line.result.now in
    let is : c.extend_from_slice.new.self.items ≡ line = grind (arith, common_steps) in
    subst (λ t. first_line t ≡ t) (sym is) c.first_line-line.ensures.once
