use Rattle.ick_numbers.specs.Values.{natural, naturals}
use Rattle.ick_chain.specs.Places.{states_in}
use Rattle.ick_chain.proofs.LongNumbers.{ok_of}
use Rattle.ick_chain.proofs.WholeLaws.{whole}
use Rattle.ick_chain.proofs.chain_text.states_text.Goals as goal

pub returns-clause-text : goal.returns-clause-text
returns-clause-text g c =
    let p = g.P.States.text c.args.program.now in
    let seen = g.P.States.seen c.args.program.now in
    let s = (seen c.args.state).state in
    let answer = c.in_ok-answer.answer in
    let e = c.in_ok-answer.ensures in
    let ss = states_in seen answer.chain.states.items in
    ok_of _ _ c.unsearched.result c.numbered_text.result c.unsearched.ensures.text c.numbered_text.ensures
    (λ text f. record {
      states = ss;
      nodes = answer.chain.nodes.items;
      parts = natural answer.parts;
      visits = naturals answer.visits.items;
      is_chain = record {
        first = e.first;
        full = e.answer.full;
        different = e.different;
        reached = e.reached;
        whole = whole p ss answer.chain.nodes.items s e.answer.full e.first;
        solution = e.answer.solution;
        exact = e.exact;
      };
      text_is = f;
    })

pub returns-clause-many : goal.returns-clause-many
returns-clause-many g c = λ steps h. absurd (c.unsearched.ensures.many steps h)

pub returns-clause-much : goal.returns-clause-much
returns-clause-much g c = λ h. absurd (c.unsearched.ensures.much h)
