use Rattle.std.proofs.Common.{◌≡◌, length, ◌+◌, ◌++◌, ◌∙◌, ap, arith, refl, sym}
use Rattle.std.specs.Prelude.{codes, decimal, filter}
use Rattle.std.specs.List.{range_with_len}
use Rattle.ick_machine.specs.StateView.{present_program, present_state}
use Rattle.ick_inspect.specs.Text.{numbers_text}
use Rattle.ick_inspect.proofs.AddLaws.{nothing, same, then}
use Rattle.ick_inspect.proofs.TextLemmas.{are_none, are_none-more, filter_no, filter_yes, none_left}
use Rattle.ick_inspect.proofs.TextLemmas.{numbers_push}
use Rattle.ick_inspect.proofs.TextLemmas.{some_left}
use Rattle.ick_inspect.proofs.summary.append_numbers.Goals.{then-is_abstained_from, else-is_abstained_from}
use Rattle.ick_inspect.proofs.summary.append_numbers.Goals as goal

pub loop-index-init : goal.loop-index-init
unfolding numbers_text
loop-index-init c = record { adds = nothing c.args.text.now; none = refl }

pub is_abstained_from-requires : goal.is_abstained_from-requires
unfolding present_program
is_abstained_from-requires c = omega arith

pub loop-index-preserved : goal.loop-index-preserved
loop-index-preserved c =
    let test = (present_state c.args.present.now).abstained in
    let index = c.loop-index.index in
    let found = filter test (range_with_len 1 index) in
    elim c.if-is_abstained_from.branch [
      | then-is_abstained_from w ↦
          let yes = filter_yes test index (c.is_abstained_from.ensures ∙ w.if-is_abstained_from.true) in
          record {
            adds =
                rw w.text-is (same (ap (λ n. numbers_text (codes " ") found ++ (codes " " ++ decimal n)) w.from.ensures
                ∙ (sym (numbers_push (codes " ") found (index + 1)) ∙ ap (numbers_text (codes " ")) (sym yes)))
                (then c.loop-index.invariant.adds (then w.push.ensures w.push_decimal.ensures)));
            none = w.none-is ∙ (sym (are_none-more found (index + 1)) ∙ ap are_none (sym yes));
          }
      | else-is_abstained_from w ↦
          let no_more = filter_no test index (c.is_abstained_from.ensures ∙ w.if-is_abstained_from.false) in
          record {
            adds = rw w.text-is (same (ap (numbers_text (codes " ")) (sym no_more)) c.loop-index.invariant.adds);
            none = w.none-is ∙ (c.loop-index.invariant.none ∙ ap are_none (sym no_more));
          }
    ]

pub returns-then-none : goal.returns-then-none
unfolding present_program
returns-then-none c =
    let found = filter (present_state c.args.present.now).abstained (range_with_len 1 c.loop-index.index) in
    let all : c.loop-index.index ≡ length (present_program c.args.present.now) = omega arith in
    rw (← all) (same (none_left found (sym c.loop-index.invariant.none ∙ c.if-none.true))
    (then c.loop-index.invariant.adds c.push-then-none.ensures))

pub returns-else-none : goal.returns-else-none
unfolding present_program
returns-else-none c =
    let found = filter (present_state c.args.present.now).abstained (range_with_len 1 c.loop-index.index) in
    let all : c.loop-index.index ≡ length (present_program c.args.present.now) = omega arith in
    rw (← all) (same (some_left found (sym c.loop-index.invariant.none ∙ c.if-none.false))
    c.loop-index.invariant.adds)
