use Rattle.std.proofs.Common.{◌∙◌, arith}
use Rattle.ick_code.specs.Compiled.{code_program}
use Rattle.ick_outcomes_cli.specs.Tool.{IsExplained, listing_not_read, longest_listing}
use Rattle.ick_outcomes_cli.proofs.Giving.{gives_so, gives_unopened, leaves_all_as, no_line, read_listing}
use Rattle.ick_outcomes_cli.proofs.dispatch.answer_listing.Goals as goal

pub returns-in-Ok-clause-leaves : goal.returns-in-Ok-clause-leaves
returns-in-Ok-clause-leaves g c =
    leaves_all_as c.answer_lines.result 0 0 0 0 _ _ _ _ _ _ _ _ c.answer_lines.ensures.leaves
    (omega (arith, c.in-Ok.ensures.count)) (omega arith) (omega arith)

pub returns-in-Ok-clause-gives : goal.returns-in-Ok-clause-gives
unfolding longest_listing
returns-in-Ok-clause-gives g c = λ listings_told writer_told.
    gives_so {M = no_line} {N = no_line} c.answer_lines.result _ _
    (λ answer h. read_listing (code_program c.args.code.now) _ _ c.args.name.now _ (g.L.Files.named c.args.listings.now)
    _ _ answer c.in-Ok.ensures.count (c.as_slice.ensures.value ∙ c.in-Ok.ensures.front listings_told) h)
    (λ line h. absurd h) (c.answer_lines.ensures.gives writer_told)

pub returns-in-Err-clause-gives : goal.returns-in-Err-clause-gives
returns-in-Err-clause-gives g c = λ listings_told writer_told.
    gives_unopened (IsExplained (code_program c.args.code.now) c.args.input.now c.args.limit)
    (g.L.Files.named c.args.listings.now c.args.name.now) _ _ c.in-Err.job_end _ c.in-Err.ensures.unopened
    c.in-Err.ensures.leaves.opened listing_not_read
