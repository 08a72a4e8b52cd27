use Rattle.std.proofs.Common.{ℕ, rules}
use Rattle.ick_backtrack.specs.Steps.{HasRun}
use Rattle.ick_machine.proofs.{CopyLemmas.{copied_over, still_copied}, WholeLemmas.{if_ok, on_err}}
use Rattle.ick_machine.specs.Seen.{fixed_parts, trailed_machine}
use Rattle.ick_machine.proofs.copied.CopiedAsks.run.Goals as goal

pub invariant_of-self : goal.invariant_of-self
invariant_of-self c = search (rules, still_copied)

ran_over : (c : goal.After-self-1) (k : ℕ) →
    let old = c.args.self.now in
    let new = c.run.new.self in
    HasRun (trailed_machine old.machine) k (trailed_machine new) →
    HasRun (copied_over (trailed_machine old.machine) (fixed_parts old.machine) old.copies.items) k
    (copied_over (trailed_machine new) (fixed_parts new) old.copies.items)
ran_over c k ran = search rules

pub returns-clause-ok : goal.returns-clause-ok
returns-clause-ok c = if_ok c.run.result _ _ c.run.ensures.ok (ran_over c)

pub returns-clause-err : goal.returns-clause-err
returns-clause-err c =
    on_err c.run.result _ _ c.run.ensures.err (λ found. (found.0, found.1, ran_over c found.0 found.2))
