use Rattle.std.proofs.Common.{◌∙◌, ap, length, refl, sym}
use Rattle.ick_session.specs.Breakpoints.{has_statement, set_text}
use Rattle.ick_inspect.proofs.AddLaws.{same}
use Rattle.ick_session.proofs.session.Session.set_at.Goals as goal

pub append_set-requires-clause-there : goal.append_set-requires-clause-there
append_set-requires-clause-there c =
    let program = c.present.ensures.program ∙ c.machine.ensures.program in
    ap (λ p. has_statement p c.args.statement) program ∙ c.requires.there

pub append_set-requires-clause-positions : goal.append_set-requires-clause-positions
append_set-requires-clause-positions c =
    c.requires.positions ∙ sym (ap length (c.present.ensures.program ∙ c.machine.ensures.program))

pub returns-clause-sets : goal.returns-clause-sets
returns-clause-sets c =
    let set = c.in_ok-set.ensures in
    record { same = refl; there = set.there; others = set.others }

pub returns-clause-text : goal.returns-clause-text
returns-clause-text c =
    let program = c.present.ensures.program ∙ c.machine.ensures.program in
    same (ap (λ p. set_text p c.args.positions.now c.args.statement) program) c.append_set.ensures
