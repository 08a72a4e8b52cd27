use Rattle.std.proofs.Common.{◌≡◌, ◌+◌, [], true, length, refl, ap, sym, subst, ◌∙◌, rules}
use Rattle.std.specs.Prelude.{Some, not}
use Rattle.std.proofs.lemmas.Bool.{false≢true}
use Rattle.ick_explorer.specs.Marked.{IsMarked}
use Rattle.ick_explorer.specs.Runs.{IsWhole, run}
use Rattle.ick_explorer.specs.Standing.{StandsAfter}
use Rattle.ick_explorer.proofs.Following.{follows, leaves}
use Rattle.ick_explorer.proofs.explorer.Explorer.after.Goals as goal
use Rattle.ick_explorer.proofs.explorer.Explorer.after.Goals.{then-is_none-via-then-is_none}
use Rattle.ick_explorer.proofs.explorer.Explorer.after.Goals.{then-is_none-via-else-is_none+then-as_slice-choices}

pub returns-clause-ok : goal.returns-clause-ok
returns-clause-ok g c =
    let limit = c.args.limit in
    let old = g.M.Backtrack.seen c.args.machine in
    let new = g.M.Backtrack.seen c.lead.new.machine in
    let path = c.lead.new.path.choices in
    let points = c.lead.new.path.points.items in
    let given = c.choices-choices.result in
    let marked : IsMarked limit old c.new.result c.new-2.result.items = search rules in
    let size : length path ≡ length given.now = ap length (sym c.as_slice.ensures) ∙ c.if-as_slice-choices.false in
    let f = follows c.new.ensures marked given new path points c.in-Ok.led c.if-is_none.ensures c.in-Ok.ensures.over size in
    let whole = f.1 in
    record {
      position = ap Some (f.0 ∙ c.choices-choices.ensures);
      stands = record {
        sound = refl;
        at_position =
            subst (λ p. StandsAfter p old.state limit path new.marks points) (sym whole.program)
            (subst (λ x. StandsAfter old.program old.state limit x new.marks points) (sym f.0) whole.stands);
      };
      program = whole.program;
      limit_kept = refl;
      work = whole.work ∙ ap (λ x. old.work + (run old.program old.state limit x).steps) c.choices-choices.ensures;
      within = whole.within;
    }

pub returns-then-is_none-clause-no_such_run : goal.returns-then-is_none-clause-no_such_run
returns-then-is_none-clause-no_such_run g c = λ e.
    let old = g.M.Backtrack.seen c.args.machine in
    let marked : IsMarked c.args.limit old c.new.result c.new-2.result.items = search rules in
    subst (λ x. ¬ IsWhole old.program old.state c.args.limit x) c.choices-choices.ensures
    (leaves c.new.ensures marked c.choices-choices.result (g.M.Backtrack.seen c.lead.new.machine)
    c.lead.new.path.choices c.lead.new.path.points.items c.in-Ok.led c.in-Ok.ensures.over c.in-Ok.ensures.stranded
    (elim c.then-is_none.branch [
      | then-is_none-via-then-is_none w ↦ λ some same.
          false≢true (sym (c.is_none.ensures ∙ ap not w.if-is_none.true) ∙ some)
      | then-is_none-via-else-is_none+then-as_slice-choices w ↦ λ some same.
          w.if-as_slice-choices.true (ap length w.as_slice.ensures ∙ same)
    ]))
