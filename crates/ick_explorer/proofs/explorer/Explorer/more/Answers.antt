use Rattle.std.proofs.Common.{◌≡◌, ◌<◌, length, ap, arith}
use Rattle.std.proofs.lemmas.Grind.{common_steps}
use Rattle.ick_explorer.specs.Explorers.{explored}
use Rattle.ick_explorer.specs.Listings.{zeros_in}
use Rattle.ick_explorer.specs.Standing.{position_of}
use Rattle.ick_explorer.proofs.Nexts.{more_first, more_given, last_at}
use Rattle.ick_explorer.proofs.explorer.Explorer.more.Goals as goal

pub returns-in-Fresh-clause-further : goal.returns-in-Fresh-clause-further
returns-in-Fresh-clause-further g c = λ s h t.
    more_first (explored c.args.self.now) s (ap (λ p. position_of p c.args.self.now.path.choices) c.in-Fresh.is)

pub returns-in-Given-clause-further : goal.returns-in-Given-clause-further
returns-in-Given-clause-further g c = λ s h t.
    let some : 0 < length c.args.self.now.path.points.items = grind (arith, common_steps) in
    let counted = c.args.self.now.marked.counted in
    more_given (explored c.args.self.now) c.args.self.now.path.choices s
    (ap (λ p. position_of p c.args.self.now.path.choices) c.in-Given.is) (omega arith) h

pub returns-in-Given-clause-last : goal.returns-in-Given-clause-last
returns-in-Given-clause-last g c = λ s h t.
    let none : length c.args.self.now.path.points.items ≡ 0 = grind (arith, common_steps) in
    let counted = c.args.self.now.marked.counted in
    let zeros : zeros_in c.args.self.now.path.choices ≡ 0 = omega arith in
    last_at (explored c.args.self.now) c.args.self.now.path.choices s
    (ap (λ p. position_of p c.args.self.now.path.choices) c.in-Given.is) zeros
