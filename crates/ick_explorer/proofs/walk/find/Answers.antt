use Rattle.std.proofs.Common.{◌≡◌, ◌+◌, ◌∷◌, ◌++◌, [], ap, sym, subst, ◌∙◌}
use Rattle.std.specs.Prelude.{None}
use Rattle.std.specs.Option.{option_to_list}
use Rattle.ick_explorer.specs.Marked.{IsMarked}
use Rattle.ick_explorer.specs.Standing.{StandsFrom, position_of}
use Rattle.ick_explorer.specs.Walks.{Finds, Goes, TurnsBack}
use Rattle.ick_explorer.specs.declared.walk.Way.TheVariants.{Zeros}
use Rattle.ick_explorer.proofs.Finding.{finds_first, finds_next}
use Rattle.ick_explorer.proofs.Walking.{turned_back}
use Rattle.ick_explorer.proofs.walk.find.Goals as goal
use Rattle.ick_explorer.proofs.walk.find.Goals.{in-Fresh, in-Given+in-Ok}

pub returns-in-Ok-Some-clause-found : goal.returns-in-Ok-Some-clause-found
returns-in-Ok-Some-clause-found g c = λ finish here s.
    let seen = g.M.Backtrack.seen in
    let limit = c.args.limit in
    let old = seen c.args.machine.now in
    let new = seen c.lead.new.machine in
    let choices = c.args.path.now.choices in
    let points = c.args.path.now.points.items in
    let path = c.lead.new.path in
    let n = c.in-Ok-Some.steps in
    let m = c.match-progress.machine in
    let p = c.match-progress.path in
    let ends = rw c.in-Ok-Some.field-0-is at c.in-Ok-Some.ensures.over in
    elim c.match-progress.branch [
      | in-Fresh w ↦
          subst (λ progress. StandsFrom old.program s limit (position_of progress choices) old.state old.marks points →
          Finds s limit (position_of progress choices) old new path.choices path.points.items n finish)
          (sym w.in-Fresh.is)
          (λ from. subst (λ x. Finds x limit None old new path.choices path.points.items n finish) from.at_start
          (finds_first limit old new choices path.choices points path.points.items n finish
          (c.requires.none w.in-Fresh.is) c.requires.marked
          (subst (λ x. Goes Zeros limit (seen x) choices points 0 new path.choices path.points.items n) w.machine-is
          (subst (λ x. Goes Zeros limit (seen m) x.choices x.points.items 0 new path.choices path.points.items n)
          w.path-is (subst (λ x. Goes Zeros limit (seen m) p.choices p.points.items x new path.choices
          path.points.items n) w.start-is ends.goes)))
          here))
      | in-Given+in-Ok w ↦
          let turned = w.turn.ensures in
          let left = w.pop.new.self.items in
          let start = w.unwrap-steps.result in
          let last : points ≡ left ++ start ∷ [] =
          w.pop.ensures.items ∙ ap (λ o. left ++ option_to_list o) w.unwrap-steps.ensures in
          let turns : TurnsBack limit old choices points (seen w.step.new.self) w.turn.new.self left (start + 1) =
          turned_back limit old (seen w.back.new.self) (seen w.step.new.self) choices turned.0 w.turn.new.self points
          left start c.requires.marked turned.1 last w.back.ensures turned.2 w.in-Ok.ensures.ok in
          subst (λ progress. StandsFrom old.program s limit (position_of progress choices) old.state old.marks points →
          Finds s limit (position_of progress choices) old new path.choices path.points.items n finish)
          (sym w.in-Given.is)
          (finds_next limit old (seen w.step.new.self) new choices w.turn.new.self path.choices
          points left path.points.items (start + 1) n finish turns
          (subst (λ x. Goes Zeros limit (seen x) w.turn.new.self left (start + 1) new path.choices path.points.items n) w.machine-is
          (subst (λ x. Goes Zeros limit (seen m) x.choices x.points.items (start + 1) new path.choices path.points.items n)
          w.path-is (subst (λ x. Goes Zeros limit (seen m) p.choices p.points.items x new path.choices
          path.points.items n) w.start-is ends.goes)))
          here s)
    ]

pub returns-in-Ok-Some-clause-marked : goal.returns-in-Ok-Some-clause-marked
returns-in-Ok-Some-clause-marked g c =
    let seen = g.M.Backtrack.seen in
    let limit = c.args.limit in
    let old = seen c.args.machine.now in
    let choices = c.args.path.now.choices in
    let points = c.args.path.now.points.items in
    let m = c.match-progress.machine in
    let ends = rw c.in-Ok-Some.field-0-is at c.in-Ok-Some.ensures.over in
    let p = c.match-progress.path in
    let begun : IsMarked limit (seen m) p.choices p.points.items = elim c.match-progress.branch [
      | in-Fresh w ↦
          subst (λ x. IsMarked limit (seen m) x.choices x.points.items) (sym w.path-is)
          (subst (λ x. IsMarked limit (seen x) choices points) (sym w.machine-is) c.requires.marked)
      | in-Given+in-Ok w ↦
          let turned = w.turn.ensures in
          let left = w.pop.new.self.items in
          let start = w.unwrap-steps.result in
          let last : points ≡ left ++ start ∷ [] =
          w.pop.ensures.items ∙ ap (λ o. left ++ option_to_list o) w.unwrap-steps.ensures in
          let turns = turned_back limit old (seen w.back.new.self) (seen w.step.new.self) choices turned.0
          w.turn.new.self points left start c.requires.marked turned.1 last w.back.ensures turned.2 w.in-Ok.ensures.ok in
          subst (λ x. IsMarked limit (seen m) x.choices x.points.items) (sym w.path-is)
          (subst (λ x. IsMarked limit (seen x) w.turn.new.self left) (sym w.machine-is) turns.marked)
    ] in
    ends.goes.moves.marked begun
