use Rattle.ick_chain.proofs.LongNumbers.{ok_of}
use Rattle.ick_chain.proofs.listing.exact_listing.Goals as goal

pub returns-clause-text : goal.returns-clause-text
returns-clause-text g c =
    let s = (g.P.States.seen c.args.program.now c.args.state).state in
    let e = c.in_ok-answer.ensures in
    ok_of _ _ c.unsearched.result c.answer_text.result c.unsearched.ensures.text c.answer_text.ensures
    (λ text f. f s e.first e.exact)

pub returns-clause-many : goal.returns-clause-many
returns-clause-many g c = λ steps h. absurd (c.unsearched.ensures.many steps h)

pub returns-clause-much : goal.returns-clause-much
returns-clause-much g c = λ h. absurd (c.unsearched.ensures.much h)
