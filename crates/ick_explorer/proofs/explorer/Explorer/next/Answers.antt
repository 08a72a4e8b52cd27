use Rattle.ick_backtrack.specs.Asked.{finish_of}
use Rattle.ick_explorer.specs.Explorers.{explored}
use Rattle.ick_explorer.proofs.Nexts.{gives}
use Rattle.ick_explorer.proofs.WritingLaws.{found_run}
use Rattle.ick_explorer.proofs.explorer.Explorer.next.Goals as goal

pub returns-in-Ok-clause-some : goal.returns-in-Ok-clause-some
returns-in-Ok-clause-some g c = λ s h.
    let old = explored c.args.self.now in
    let new = explored c.advance.new.self in
    let choices = c.advance.new.self.path.choices in
    let limit = c.advance.new.self.limit in
    let machine = g.M.Backtrack.seen c.advance.new.self.machine in
    let steps = c.in-Ok-Some.steps in
    let finish = finish_of c.end_here-end.result in
    let e = c.in-Ok-Some.ensures in
    let moved =
    found_run limit machine s old new choices c.in-Ok-Some.field-0 steps finish c.in-Ok-Some.field-0-is e.over e.some
    c.end_here-end.ensures h in
    let run = c.in-Ok.ensures in
    gives s old new choices steps finish c.in-Ok.run' moved run.choices run.output run.end run.steps
