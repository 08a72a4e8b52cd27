use Rattle.std.proofs.Common.{◌∙◌, ◌++◌, ℕ, List, Ok, ap, arith, inl, inr, subst, sym}
use Rattle.ick_outcomes_cli.proofs.Explaining.{GoesOn, counts_on, counts_on_first, explains_all, foreign_line}
use Rattle.ick_outcomes_cli.proofs.Explaining.{foreign_rest, goes_on_first, goes_on_last, goes_on_run, none_left}
use Rattle.ick_outcomes_cli.proofs.Explaining.{some_left}
use Rattle.ick_outcomes_cli.proofs.asked.lines_asked.Goals as goal

pub returns-in_default : goal.returns-in_default
returns-in_default g c =
    let start = g.P.States.seen c.args.program.now c.args.first.now in
    let p = start.program.statements in
    let s = start.state in
    let some = some_left c.loop-rest.rest.now _ c.is_empty.ensures c.loop-rest-test.true in
    c.loop-rest.invariant.counts_on 1
    (foreign_rest p s c.args.limit c.loop-rest.rest.now some (c.first_line.ensures.none c.in_default.is))

pub returns-in-None : goal.returns-in-None
returns-in-None g c =
    let start = g.P.States.seen c.args.program.now c.args.first.now in
    let p = start.program.statements in
    let s = start.state in
    let some = some_left c.loop-rest.rest.now _ c.is_empty.ensures c.loop-rest-test.true in
    c.loop-rest.invariant.counts_on 1
    (foreign_line p s c.args.limit c.loop-rest.rest.now c.in-Some.line.now c.in-Some.behind.now some
    c.in-Some.ensures.first c.in-Some.ensures.whole (c.is_last.ensures.no c.if-not-is_last.true)
    (c.line_asked.ensures.none (c.in_ok-asked.was ∙ ap (λ x. Ok x) c.in-None.is)))

pub loop-rest-init : goal.loop-rest-init
loop-rest-init g c =
    let start = g.P.States.seen c.args.program.now c.args.first.now in
    let p = start.program.statements in
    let s = start.state in
    record {
      goes_on = goes_on_first p s c.args.limit c.args.listing.now c.new-text.result.items c.new-text.ensures.items;
      counts_on = counts_on_first p s c.args.limit c.args.listing.now;
      few = omega arith;
      tools = c.requires.tools;
    }

pub loop-rest-preserved : goal.loop-rest-preserved
loop-rest-preserved g c =
    let start = g.P.States.seen c.args.program.now c.args.first.now in
    let p = start.program.statements in
    let s = start.state in
    let i = c.loop-rest.invariant in
    let last = c.is_last.ensures.yes c.if-not-is_last.false in
    let shorter = c.in-Some.ensures.shorter in
    let few = i.few in
    record {
      goes_on = goes_on_last p s c.args.limit c.args.listing.now c.loop-rest.rest.now c.in-Some.line.now
          c.in-Some.behind.now c.loop-rest.text.items i.goes_on c.in-Some.ensures.first c.in-Some.ensures.whole last;
      counts_on = counts_on p s c.args.limit c.args.listing.now c.loop-rest.rest.now c.in-Some.line.now
          c.in-Some.behind.now c.loop-rest.number i.counts_on c.in-Some.ensures.first c.in-Some.ensures.whole
          (inl last);
      few = omega (arith, shorter, few);
      tools = i.tools;
    }

pub loop-rest-preserved-in_ok-extend_from_slice-in-Some-2 : goal.loop-rest-preserved-in_ok-extend_from_slice-in-Some-2
loop-rest-preserved-in_ok-extend_from_slice-in-Some-2 g c =
    let start = g.P.States.seen c.args.program.now c.args.first.now in
    let p = start.program.statements in
    let s = start.state in
    let i = c.loop-rest.invariant in
    let other = c.is_last.ensures.no c.if-not-is_last.true in
    let run = rw c.in-Some-2.is at c.in_ok-asked.ensures.some in
    let new = c.in_ok-extend_from_slice-in-Some-2.ensures.items
    ∙ ap (λ (l : List ℕ). c.loop-rest.text.items ++ l) (c.deref.ensures.value ∙ run.2) in
    let shorter = c.in-Some.ensures.shorter in
    let few = i.few in
    record {
      goes_on = subst (λ (text : List ℕ). GoesOn p s c.args.limit c.args.listing.now c.in-Some.behind.now text)
          (sym new)
          (goes_on_run p s c.args.limit c.args.listing.now c.loop-rest.rest.now c.in-Some.line.now
          c.in-Some.behind.now c.loop-rest.text.items run.0 i.goes_on c.in-Some.ensures.first c.in-Some.ensures.whole
          other run.1);
      counts_on = counts_on p s c.args.limit c.args.listing.now c.loop-rest.rest.now c.in-Some.line.now
          c.in-Some.behind.now c.loop-rest.number i.counts_on c.in-Some.ensures.first c.in-Some.ensures.whole
          (inr (run.0, run.1));
      few = omega (arith, shorter, few);
      tools = c.in_ok-asked.ensures.tools;
    }

pub returns : goal.returns
returns g c =
    let start = g.P.States.seen c.args.program.now c.args.first.now in
    let p = start.program.statements in
    let s = start.state in
    explains_all p s c.args.limit c.args.listing.now c.loop-rest.rest.now c.loop-rest.text.items
    (none_left c.loop-rest.rest.now _ c.is_empty.ensures c.loop-rest-test.false) c.loop-rest.invariant.goes_on
