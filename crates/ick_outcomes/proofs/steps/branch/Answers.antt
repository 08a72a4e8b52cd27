use Rattle.std.proofs.Common.{refl}
use Rattle.ick_outcomes.specs.Seen.{pending_of}
use Rattle.ick_outcomes.proofs.Searching.{adds_choice, on_ok, waits_choice, waits_going, waits_within}
use Rattle.ick_outcomes.proofs.steps.branch.Goals as goal

pub choose_from-requires : goal.choose_from-requires
choose_from-requires g c κs =
    let seen = g.P.States.seen c.args.program.now in
    let suits = g.P.States.suits c.args.program.now in
    let node = c.args.node in
    let waits = c.requires.node in (
      (refl, tt),
      (
        c.requires.tools,
        (
          waits.suited,
          (
            waits_going seen suits node waits,
            (
              waits_within seen suits node c.args.chance waits c.requires.chance,
              waits.some,
            ),
          ),
        ),
      ),
    )

pub choose-requires : goal.choose-requires
choose-requires g c κs =
    let seen = g.P.States.seen c.args.program.now in
    let suits = g.P.States.suits c.args.program.now in
    let node = c.args.node in
    let waits = c.requires.node in (
      (refl, tt),
      (
        c.in_ok-zero.ensures.tools,
        (
          waits.suited,
          (
            waits_going seen suits node waits,
            (
              waits_within seen suits node c.args.chance waits c.requires.chance,
              waits.some,
            ),
          ),
        ),
      ),
    )

pub returns-clause-adds : goal.returns-clause-adds
returns-clause-adds g c =
    let seen = g.P.States.seen c.args.program.now in
    let suits = g.P.States.suits c.args.program.now in
    on_ok c.settle-2.result
    (λ adds. adds_choice seen suits (pending_of seen c.args.node) (pending_of seen c.in_ok-zero.zero)
    (pending_of seen c.in_ok-one.one) c.args.chance c.args.search.now c.settle.new.search c.settle-2.new.search
    (waits_choice seen suits c.args.node c.args.chance c.requires.node c.requires.chance) c.requires.node.some
    c.in_ok-zero.ensures.goes_on c.in_ok-one.ensures.goes_on c.in_ok-settle.ensures adds)
    c.settle-2.ensures
