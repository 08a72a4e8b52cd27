use Rattle.std.proofs.Common.{arith, sym}
use Rattle.ick_machine.specs.StateView.{present_program}
use Rattle.ick_inspect.specs.Statements.{listed_text}
use Rattle.ick_inspect.proofs.AddLaws.{same, then}
use Rattle.ick_inspect.proofs.TextLemmas.{list_is, list_more}
use Rattle.ick_inspect.proofs.statements.append_list.Goals as goal

pub append_listed-requires-clause-positions : goal.append_listed-requires-clause-positions
unfolding present_program
append_listed-requires-clause-positions c = c.requires

pub loop-n-preserved : goal.loop-n-preserved
unfolding present_program
loop-n-preserved c = record {
  low = omega arith;
  high = omega arith;
  adds =
      same (sym (list_more (listed_text (present_program c.args.present.now) c.args.positions.now c.place-place.result)
      c.max-first.result c.loop-n.n c.loop-n.invariant.low))
      (then c.loop-n.invariant.adds c.append_listed.ensures);
}

pub returns : goal.returns
unfolding present_program
returns c =
    rw (c.place-place.ensures) (same (list_is (present_program c.args.present.now) c.args.positions.now c.place-place.result c.args.around
    c.max-first.result _ (omega arith) (omega arith))
    c.loop-n.invariant.adds)
