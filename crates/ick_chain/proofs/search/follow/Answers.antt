use Rattle.std.proofs.Common.{◌≡◌, ◌+◌, ◌-◌, refl, subst, arith}
use Rattle.ick_outcomes.specs.Programs.{advance, IsPlain, RunsOn}
use Rattle.ick_chain.specs.Places.{states_in}
use Rattle.ick_chain.proofs.Placing.{got_in, got_same}
use Rattle.ick_chain.proofs.Reaching.{reached_on}
use Rattle.ick_chain.proofs.search.follow.Goals as goal

pub place-requires : goal.place-requires
place-requires g c κs =
    let p = g.P.States.text c.args.program.now in
    let seen = g.P.States.seen c.args.program.now in
    let xs = c.args.found.now.states.items in
    let x = c.index.result.now in
    let s = (seen x).state in
    let got = got_in seen xs c.args.at x c.requires.at c.index.ensures in (
      (refl, tt),
      (
        c.in_ok-state.ensures.state,
        (
          c.requires.found,
          reached_on p (states_in seen xs) c.args.at s (seen c.in_ok-state.state).state c.args.done c.in_ok-state.made
              c.requires.found.reached got (c.requires.going s got) c.in_ok-state.ensures.runs,
        ),
      ),
    )

pub returns-clause-reaches : goal.returns-clause-reaches
returns-clause-reaches g c = λ s h.
    let p = g.P.States.text c.args.program.now in
    let seen = g.P.States.seen c.args.program.now in
    let xs = c.args.found.now.states.items in
    let x = c.index.result.now in
    let to = (seen c.in_ok-state.state).state in
    let made = c.in_ok-state.made in
    let got = got_in seen xs c.args.at x c.requires.at c.index.ensures in
    let same = got_same (states_in seen xs) c.args.at (seen x).state s got h in
    let n : made ≡ made + 1 - 1 = omega arith in
    record {
      to = to;
      there = c.in_ok-to.ensures.there;
      some = omega arith;
      runs = subst (λ k. RunsOn p (advance p s c.args.done) k to) n
          (subst (λ z. RunsOn p (advance p z c.args.done) made to) same c.in_ok-state.ensures.runs);
    }
