use Rattle.std.proofs.Common.{◌<◌, ◌≤◌, ◌^◌, length, refl, arith, subst}
use Rattle.std.proofs.lemmas.Grind.{common_steps}
use Rattle.ick_explorer.proofs.TextLaws.{if_ok}
use Rattle.ick_explorer.proofs.GroupLaws.{grouped_one}
use Rattle.ick_explorer.proofs.ReadingLaws.{small_size}
use Rattle.ick_explorer.proofs.groups.read_groups.Goals as goal

pub returns-in_default-clause-bad_cursor : goal.returns-in_default-clause-bad_cursor
returns-in_default-clause-bad_cursor c = λ e. c.in_default.ensures.none refl

pub returns-clause-ok : goal.returns-clause-ok
returns-clause-ok c =
    let found = c.in-Some.ensures.some in
    let le : c.in-Some.size ≤ c.args.limit = grind (arith, common_steps) in
    let cap : c.args.limit < 2 ^ 32 = grind (arith, common_steps) in
    let within = small_size c.in-Some.size (length found.0) c.args.limit found.2 le cap in
    if_ok c.fill.result (λ v h. (
      h,
      subst (λ x. length x ≤ c.args.limit)
          (grouped_one c.args.text.now found.0 v.items found.1 h) within,
    )) c.fill.ensures.ok
