use Rattle.std.proofs.Common.{arith, refl}
use Rattle.ick_code.specs.Compiled.{code_program}
use Rattle.ick_outcomes_cli.specs.Tool.{listing_too_long, longest_listing}
use Rattle.ick_outcomes_cli.specs.declared.outcomes_end.OutcomesEnd.TheVariants.{By}
use Rattle.ick_outcomes_cli.proofs.Giving.{gives_so, listing_told, no_line}
use Rattle.ick_outcomes_cli.proofs.dispatch.answer_lines.Goals as goal

pub returns-then-listing-gt-LONGEST_LISTING-clause-gives : goal.returns-then-listing-gt-LONGEST_LISTING-clause-gives
unfolding longest_listing
returns-then-listing-gt-LONGEST_LISTING-clause-gives g c = λ told.
    let long = c.if-listing-gt-LONGEST_LISTING.true in
    (_, listing_too_long c.args.listing.now (omega (arith, long)), (refl, refl))

pub returns-in-Ok-clause-gives : goal.returns-in-Ok-clause-gives
unfolding longest_listing
returns-in-Ok-clause-gives g c = λ told.
    let few = c.if-listing-gt-LONGEST_LISTING.false in
    gives_so {M = no_line} {N = no_line} (By c.tell.result) _ _
    (λ answer h. listing_told (code_program c.args.code.now) c.args.input.now c.args.limit c.args.listing.now
    c.in-Ok.asked answer (omega (arith, few)) c.in-Ok.ensures h)
    (λ line h. h) (c.tell.ensures.gives told)
