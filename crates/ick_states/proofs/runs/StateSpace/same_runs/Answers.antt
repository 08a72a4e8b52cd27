use Rattle.std.proofs.Common.{refl}
use Rattle.ick_states.proofs.SameRuns.{ends_alike, parts_alike, seen_same}
use Rattle.ick_states.proofs.runs.StateSpace.same_runs.Goals as goal

pub returns-then-same_ends-clause-equal : goal.returns-then-same_ends-clause-equal
returns-then-same_ends-clause-equal c = λ yes.
    seen_same c.args.self.now c.args.one.now c.args.other.now (c.same_ends.ensures.same c.if-same_ends.true)
    (c.same.ensures.same yes)

pub returns-then-same_ends-clause-found : goal.returns-then-same_ends-clause-found
returns-then-same_ends-clause-found c = λ mine theirs same.
    c.same.ensures.found
    (parts_alike c.args.self.now c.args.one.now c.args.other.now c.law-2.ensures c.law.ensures mine theirs same)
