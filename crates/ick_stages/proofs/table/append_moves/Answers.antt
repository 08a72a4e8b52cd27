use Rattle.std.proofs.Common.{◌≡◌, ◌∙◌, ap, arith, ◌++◌, refl}
use Rattle.std.specs.Prelude.{codes, ◌||◌}
use Rattle.ick_inspect.proofs.AddLaws.{same, then}
use Rattle.ick_stages.specs.Tables.{is_pair, moves_text, one_text}
use Rattle.ick_stages.proofs.PairLaws.{pairs_more, pairs_text, some_more}
use Rattle.ick_stages.proofs.table.append_moves.Goals as goal

pub loop-pair-init : goal.loop-pair-init
loop-pair-init c = record { added = c.push.ensures; some = refl }

pub loop-pair-preserved : goal.loop-pair-preserved
loop-pair-preserved c =
    let table = c.args.table.now in
    let pair = c.loop-pair.pair in
    let before = c.loop-pair.invariant in
    record {
      added = same (pairs_more table pair)
          (then before.added (same (ap (λ b. one_text table b pair) before.some) c.append_pair-some.ensures.added));
      some = c.append_pair-some.ensures.some ∙ (ap (λ b. b || is_pair table pair) before.some ∙ some_more table pair);
    }

pub returns : goal.returns
unfolding moves_text
returns c =
    let is : c.loop-pair.pair ≡ 1024 = omega (arith, c.loop-pair-test.false, c.loop-pair.auto.pair-end) in
    then (same (ap (λ n. codes "[" ++ pairs_text c.args.table.now n) is) c.loop-pair.invariant.added) c.push-2.ensures
