use Rattle.std.proofs.{Common.{◌==◌, arith, rules}, lemmas.{Grind.common_steps, List.Sums.prefix_len-le-length}}
use Rattle.std.proofs.lemmas.Iterator.{YieldsList-from_slice, Search.position_from_yields_List}
use Rattle.ick_engine.proofs.text_reader.line_length.Goals as goal
use borrow.Author.Tests.{tests}

pub returns-clause-place : goal.returns-clause-place
returns-clause-place c =
    let found = position_from_yields_List (λ b. b == 10) _ _ c.position.result c.position.ensures.ran
    (YieldsList-from_slice c.args.rest.now cc) (λ x b q k. search (rules, tests)) in
    grind (arith, common_steps, found, prefix_len-le-length)
