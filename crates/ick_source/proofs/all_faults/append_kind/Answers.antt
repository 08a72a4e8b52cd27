use Rattle.std.proofs.Common.{List, [], ◌∷◌, ◌++◌, ◌+◌, ap, arith, refl, subst, sym, ◌∙◌}
use Rattle.std.proofs.lemmas.Option.{slice_get_read}
use Rattle.ick_source.specs.AllFaults.{AreFaultsUpTo, fault_at}
use Rattle.ick_source.specs.Seen.{Sees}
use Rattle.ick_syntax.specs.ProgramFaults.{rank}
use Rattle.ick_source.proofs.AllFaultLemmas.{upto_more, upto_next, upto_same}
use Rattle.ick_source.proofs.SeenLemmas.{found_at, zip_long}
use Rattle.ick_source.proofs.SurveyLemmas.{tells_false, tells_true}
use Rattle.ick_source.proofs.all_faults.append_kind.Goals as goal
use Rattle.ick_source.proofs.all_faults.append_kind.Goals.{then-has+in_ok-push, else-has}

pub loop-one-preserved : goal.loop-one-preserved
loop-one-preserved c = λ trees s before.
    let i = c.loop-one.one-index in
    let one = c.one-item.result in
    let kind = c.args.kind in
    let there = slice_get_read c.args.survey.now.seen.now _ i one refl c.loop-one-test.true c.one-item.is in
    let found = found_at i one s.sees there in
    let told = c.has.ensures trees i s there in
    let so_far = c.loop-one.invariant trees s before in
    elim c.if-has.branch [
      | then-has+in_ok-push w ↦
          let items = ap (λ z. z.items) w.faults-is ∙ w.in_ok-push.ensures.items
          ∙ ap (λ n. c.loop-one.faults.items ++ fault_at kind n ∷ []) found.number in
          subst (AreFaultsUpTo trees (rank kind) (i + 1)) (sym items)
          (upto_more kind so_far (tells_true c.has.result w.if-has.true told))
      | else-has w ↦
          subst (AreFaultsUpTo trees (rank kind) (i + 1)) (sym (ap (λ z. z.items) w.faults-is))
          (upto_same kind so_far (tells_false c.has.result w.if-has.false told))
    ]

pub returns : goal.returns
returns c = λ trees s before.
    let long = zip_long Sees _ _ s.sees.each in
    let end = c.loop-one-test.false in
    upto_next (omega (arith, long, end)) (c.loop-one.invariant trees s before)
