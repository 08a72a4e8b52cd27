use Rattle.std.proofs.Common.{arith, rules}
use Rattle.std.proofs.lemmas.Grind.{common_steps}
use Rattle.std.proofs.{lemmas.Bool.Decides.nat_tests, lemmas.Option.slice_get_past}
use Rattle.ick_machine.proofs.asking.end_of.Goals as goal
use Rattle.ick_machine.proofs.asking.end_of.Goals.{in-Faulted, in-Unknown, then-statement-gt0, else-statement-gt0}
use Rattle.ick_machine.proofs.asking.end_of.Goals.{then-is_there, else-is_there, in-Word}

pub returns : goal.returns
returns c = elim c.match-ended.branch [
  | in-Faulted w ↦ search rules
  | in-Unknown w ↦
      elim w.if-is_there.branch [
        | then-is_there t ↦ search rules
        | else-is_there t ↦
            elim w.if-statement-gt0.branch [
              | then-statement-gt0 u ↦ grind (arith, common_steps, nat_tests, slice_get_past)
              | else-statement-gt0 u ↦ search rules
            ]
      ]
  | in-Word w ↦ grind (arith, common_steps)
]
