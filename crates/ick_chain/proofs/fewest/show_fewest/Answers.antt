use Rattle.std.proofs.Common.{◌≡◌, length, arith}
use Rattle.ick_chain.specs.Places.{states_in}
use Rattle.ick_chain.proofs.FewestLaws.{are_fewest, labelled_push}
use Rattle.ick_chain.proofs.ShownLaws.{pushed_long}
use Rattle.ick_chain.proofs.fewest.show_fewest.Goals as goal

pub rows-preserved : goal.rows-preserved
rows-preserved g c =
    let p = g.P.States.text c.args.program.now in
    let old = c.rows.shown.items in
    let new = c.add_choices.new.shown.items in
    let choices = c.in_ok-choices.choices in
    record {
      long = pushed_long old new choices c.rows.at c.rows.invariant.long c.in_ok-add_choices.ensures;
      each = λ s h.
          labelled_push p s c.args.labels.now c.args.rows.now old new choices c.index-rows-at.result c.rows.at
          c.rows.invariant.long c.index-rows-at.is (c.in_ok-choices.ensures s h) c.in_ok-add_choices.ensures
          (c.rows.invariant.each s h);
    }

pub returns : goal.returns
returns g c = λ s h.
    let long = c.rows.invariant.long in
    let stop = c.rows-test.false in
    let within = c.rows.auto.at-end in
    let all : length c.rows.shown.items ≡ length c.args.rows.now = omega (arith, long, stop, within) in
    are_fewest (g.P.States.text c.args.program.now) (states_in (g.P.States.seen c.args.program.now) c.args.states.now)
    c.args.nodes.now c.requires.full c.args.labels.now c.requires.words c.requires.least s h c.args.rows.now
    c.requires.distinct c.requires.ranked c.rows.shown.items all (c.rows.invariant.each s h)
