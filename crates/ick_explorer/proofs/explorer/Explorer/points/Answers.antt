use Rattle.std.proofs.Common.{◌≡◌, rules, arith}
use Rattle.ick_explorer.specs.Explorers.{explored}
use Rattle.ick_explorer.specs.Standing.{zeros_of}
use Rattle.ick_explorer.proofs.Nexts.{few_points, few_of_choices}
use Rattle.ick_explorer.proofs.explorer.Explorer.points.Goals as goal

pub returns-clause-few : goal.returns-clause-few
returns-clause-few g c = λ s h.
    let zeros : c.len.result ≡ zeros_of (explored c.args.self.now).from = search rules in
    let few = few_points (explored c.args.self.now) s h in
    omega arith

pub returns-clause-of_choices : goal.returns-clause-of_choices
returns-clause-of_choices g c =
    let zeros : c.len.result ≡ zeros_of (explored c.args.self.now).from = search rules in
    few_of_choices (explored c.args.self.now).from c.len.result zeros
