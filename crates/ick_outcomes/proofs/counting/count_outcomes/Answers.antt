use Rattle.std.proofs.Common.{[], Err, ap, refl, sym}
use Rattle.ick_outcomes.specs.declared.errors.OutcomesError.TheVariants.{TooManyStates}
use Rattle.ick_outcomes.specs.Accounts.{all_ahead}
use Rattle.ick_outcomes.specs.Seen.{nodes_of}
use Rattle.ick_outcomes.specs.Weights.{amount}
use Rattle.ick_outcomes.proofs.Many.{error_holds, more_runs}
use Rattle.ick_outcomes.proofs.Searching.{takes_filed, due_waits, due_level, due_lower, account_goes_on}
use Rattle.ick_outcomes.proofs.counting.count_outcomes.Goals as goal

pub round-requires : goal.round-requires
round-requires g c κs =
    let seen = g.P.States.seen c.args.program.now in
    let suits = g.P.States.suits c.args.program.now in
    let due = c.in-Some.due in
    let old = c.rounds.search in
    let new = c.take_due.new.self in
    let takes = c.in-Some.ensures.due in
    let filed = c.rounds.invariant.account.filed in (
      (refl, tt),
      (
        c.rounds.invariant.tools,
        (
          takes_filed seen suits due old new takes filed,
          (
            due_waits seen suits due old new takes filed,
            due_level seen suits due old new takes filed,
          ),
        ),
      ),
    )

pub rounds-smaller : goal.rounds-smaller
rounds-smaller g c =
    let seen = g.P.States.seen c.args.program.now in
    due_lower seen (g.P.States.suits c.args.program.now) c.in-Some.due c.rounds.search c.take_due.new.self
    c.round.new.search (λ q. all_ahead q (nodes_of seen c.in-Some.due.nodes.items)) c.in-Some.ensures.due
    c.rounds.invariant.account.filed c.in_ok-round.ensures.adds

pub rounds-preserved : goal.rounds-preserved
rounds-preserved g c =
    let seen = g.P.States.seen c.args.program.now in
    record {
      account = account_goes_on seen (g.P.States.suits c.args.program.now)
          (record {
            at = seen c.args.state;
            left = c.args.limit;
            count = 1;
            weight = amount 1 0 c.args.limit;
            choices = [];
          })
          c.in-Some.due c.rounds.search c.take_due.new.self c.round.new.search c.rounds.invariant.account
          c.in-Some.ensures.due c.in_ok-round.ensures.adds;
      tools = c.in_ok-round.ensures.tools;
    }

pub returns-in_err-round-clause-more : goal.returns-in_err-round-clause-more
returns-in_err-round-clause-more g c =
    let seen = g.P.States.seen c.args.program.now in
    λ e. more_runs seen (g.P.States.suits c.args.program.now) (seen c.args.state) c.args.limit c.args.most
    c.in-Some.due c.rounds.search c.take_due.new.self c.rounds.invariant.account c.in-Some.ensures.due
    (c.in_err-round.ensures.more
    (ap Err (sym (error_holds _ c.from_residual-in_err-round.result TooManyStates
    c.from_residual-in_err-round.ensures.1 e))))
