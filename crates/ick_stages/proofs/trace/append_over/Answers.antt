use Rattle.std.proofs.Common.{arith, ◌-◌, subst}
use Rattle.ick_stages.specs.Traces.{over_text, spot_in}
use Rattle.ick_stages.proofs.TraceLaws.{AddsFront, front_all, front_none, over_more, over_none}
use Rattle.ick_stages.proofs.trace.append_over.Goals as goal

pub over-init : goal.over-init
over-init c = front_none _ _

pub over-preserved : goal.over-preserved
over-preserved c =
    over_more c.args.lowered.now.parts c.args.fixed.now c.args.steps (spot_in c.over.place) (spot_in c.move_over.new.self)
    c.over.place.steps c.move_over.new.self.steps c.over.invariant c.over-test.true
    c.in_ok-move_over.ensures.steps c.in_ok-move_over.ensures.spot c.append_over_line.ensures

pub returns : goal.returns
returns c = front_all (subst (λ r. AddsFront (over_text c.args.lowered.now.parts c.args.fixed.now
    (c.args.steps - c.args.place.now.steps) (spot_in c.args.place.now)) r c.args.text.now c.over.text)
    (over_none c.args.lowered.now.parts c.args.fixed.now (c.args.steps - c.over.place.steps) (spot_in c.over.place)
    (omega (arith, c.over-test.false))) c.over.invariant)
