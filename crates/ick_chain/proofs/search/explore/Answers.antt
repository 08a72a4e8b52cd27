use Rattle.std.proofs.Common.{◌≡◌, ◌<◌, ◌∙◌, Some, length, slice_get, ap, sym, subst, arith}
use Rattle.ick_chain.specs.Places.{AllTell, states_in}
use Rattle.ick_chain.proofs.Placing.{tell_more, got_on, states_long, length_more}
use Rattle.ick_chain.proofs.Leading.{counted_more, found_by, led_more, none_counted, none_told}
use Rattle.ick_chain.proofs.Progressing.{shows_more, shows_none}
use Rattle.ick_chain.proofs.Reaching.{more_states}
use Rattle.ick_chain.specs.declared.errors.ChainError.TheVariants.{TooManyStates}
use Rattle.ick_chain.proofs.search.explore.Goals as goal

pub nodes-init : goal.nodes-init
nodes-init g c =
    let none = c.new-nodes.ensures.items in
    record {
      long = ap (λ z. length z) none;
      within = omega arith;
      each = none_told (g.P.States.text c.args.program.now)
          (states_in (g.P.States.seen c.args.program.now) c.in_ok-found.found.states.items) c.new-nodes.result.items none;
      first = c.in_ok-found.ensures.first;
      found = c.in_ok-found.ensures.found;
      tools = c.requires.tools;
      led = λ i some below. let zero = c.in_ok-found.ensures.one i below in absurd (omega (arith, zero, some));
      counted = none_counted c.new-nodes.result.items none;
      shown = shows_none c.args.progress.now;
    }

pub returns-then-at-len-clause-full : goal.returns-then-at-len-clause-full
returns-then-at-len-clause-full g c =
    let all = states_long (g.P.States.seen c.args.program.now) c.nodes.found.states.items in
    record {
      long = omega (arith, all, c.nodes.invariant.long, c.nodes.invariant.within, c.if-at-len.true, c.len.ensures);
      each = c.nodes.invariant.each;
    }

pub nodes-preserved : goal.nodes-preserved
nodes-preserved g c =
    let p = g.P.States.text c.args.program.now in
    let seen = g.P.States.seen c.args.program.now in
    let old = states_in seen c.nodes.found.states.items in
    let new = states_in seen c.expand.new.found.states.items in
    let ns = c.nodes.nodes.items in
    let go = c.if-at-len.false in
    let same = c.len.ensures in
    let long = c.nodes.invariant.long in
    let more = c.in_ok-node.ensures.more in
    let all = states_long seen c.nodes.found.states.items in
    let lt : length ns < length old = omega (arith, go, same, long, all) in
    record {
      long = length_more ns c.add_node.new.nodes.items c.in_ok-node.node c.nodes.at long c.in_ok-add_node.ensures;
      within = omega (arith, go, same, more);
      each = subst (λ z. AllTell p new z) (sym c.in_ok-add_node.ensures)
          (tell_more p old new ns c.in_ok-node.node c.nodes.invariant.each c.in_ok-node.ensures.kept lt
          (λ s h. c.in_ok-node.ensures.tells s (subst (λ z. slice_get old z ≡ Some s) long h)));
      first = got_on old new 0 (seen c.args.state).state c.in_ok-node.ensures.kept c.nodes.invariant.first;
      found = c.in_ok-node.ensures.found;
      tools = c.in_ok-node.ensures.tools;
      led = led_more ns c.add_node.new.nodes.items c.in_ok-node.node _ _ c.nodes.invariant.led c.in_ok-node.ensures.new
          c.in_ok-add_node.ensures;
      counted = counted_more ns c.add_node.new.nodes.items c.in_ok-node.node _ _ _ c.nodes.invariant.counted
          c.steps_at.ensures c.saturating_add-steps.ensures c.in_ok-add_node.ensures;
      shown = shows_more c.args.progress.now c.nodes.progress c.show_states.new.progress c.nodes.invariant.shown
          c.show_states.ensures;
    }

pub returns-in-Some-clause-many : goal.returns-in-Some-clause-many
returns-in-Some-clause-many g c = λ steps e.
    let p = g.P.States.text c.args.program.now in
    let seen = g.P.States.seen c.args.program.now in
    let suits = g.P.States.suits c.args.program.now in
    let key = g.P.States.key c.args.program.now in
    let size = g.P.States.size c.args.program.now in
    let is : c.in-Some.refused ≡ TooManyStates steps = cc in
    let many = c.in-Some.ensures.states steps (ap Some is) in
    more_states p seen suits key size c.nodes.found (seen c.args.state).state c.args.most steps c.nodes.invariant.found
    c.nodes.invariant.first many.1
    (found_by p seen c.nodes.found.states.items c.nodes.nodes.items steps c.nodes.invariant.each c.nodes.invariant.led
    (many.0 ∙ c.nodes.invariant.counted))

pub returns-in-Some-refusal-clause-many : goal.returns-in-Some-refusal-clause-many
returns-in-Some-refusal-clause-many g c = λ steps e.
    let p = g.P.States.text c.args.program.now in
    let seen = g.P.States.seen c.args.program.now in
    let suits = g.P.States.suits c.args.program.now in
    let key = g.P.States.key c.args.program.now in
    let size = g.P.States.size c.args.program.now in
    let is : c.in-Some-refusal.refused ≡ TooManyStates steps = cc in
    let many = c.in-Some-refusal.ensures.states steps (ap Some is) in
    more_states p seen suits key size c.nodes.found (seen c.args.state).state c.args.most steps c.nodes.invariant.found
    c.nodes.invariant.first many.1
    (found_by p seen c.nodes.found.states.items c.nodes.nodes.items steps c.nodes.invariant.each c.nodes.invariant.led
    (many.0 ∙ c.nodes.invariant.counted))

pub returns-clause-full : goal.returns-clause-full
returns-clause-full g c =
    let seen = g.P.States.seen c.args.program.now in
    let all = states_long seen c.nodes.found.states.items in
    record {
      long =
          omega (
            arith,
            all,
            c.nodes.invariant.long,
            c.nodes.invariant.within,
            c.nodes-test.false,
            c.in_default-refusal.ensures.few,
          );
      each = c.nodes.invariant.each;
    }

pub returns-in_err-found-clause-shown : goal.returns-in_err-found-clause-shown
returns-in_err-found-clause-shown g c = shows_none c.args.progress.now
