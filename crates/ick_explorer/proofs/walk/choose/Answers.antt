use Rattle.std.proofs.Common.{◌≡◌, ◌+◌, false, true, ap, sym, subst, ◌∙◌, rules}
use Rattle.ick_explorer.specs.Walks.{Moves}
use Rattle.ick_explorer.proofs.KeptLaws.{on_ok_map}
use Rattle.ick_explorer.proofs.Walking.{after_step, chose_zero, chose_one}
use Rattle.ick_explorer.proofs.walk.choose.Goals as goal
use Rattle.ick_explorer.proofs.walk.choose.Goals.{then-not-done+in_ok-mark+in_ok-push-2, else-not-done}

pub returns-clause-moves : goal.returns-clause-moves
returns-clause-moves g c =
    let seen = g.M.Backtrack.seen in
    let limit = c.args.limit in
    let steps = c.args.steps in
    let done = c.args.done in
    let old = seen c.args.machine.now in
    let new = seen c.step.new.self in
    let before = seen c.if-not-done.machine in
    let choices = c.args.path.now.choices in
    let points = c.args.path.now.points.items in
    on_ok_map c.step.result (λ made. elim c.if-not-done.branch [
      | then-not-done+in_ok-mark+in_ok-push-2 w ↦
          let zero : done ≡ false = search rules in
          subst (λ p. Moves limit old choices points steps new p.choices p.points.items (steps + 1)) (sym w.path-is)
          (chose_zero limit old (seen w.mark.new.self) new choices c.push.new.self points
          w.push-then-not-done.new.self.items steps done zero c.requires.below c.requires.choosing
          w.in_ok-mark.ensures.ok (made ∙ (ap (λ b. after_step b before) zero
          ∙ ap (λ m. after_step false (seen m)) w.machine-is)) c.in_ok-push.ensures.ok w.in_ok-push-2.ensures.items)
      | else-not-done w ↦
          let one : done ≡ true = search rules in
          subst (λ p. Moves limit old choices points steps new p.choices p.points.items (steps + 1)) (sym w.path-is)
          (chose_one limit old new choices c.push.new.self points steps done one c.requires.below c.requires.choosing
          (made ∙ (ap (λ b. after_step b before) one ∙ ap (λ m. after_step true (seen m)) w.machine-is))
          c.in_ok-push.ensures.ok)
    ]) c.step.ensures.ok
