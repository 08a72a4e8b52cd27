use Rattle.std.proofs.Common.{◌≡◌, ◌+◌, [], refl, subst, sym}
use Rattle.ick_code.specs.meaning.Move.{first_state}
use Rattle.ick_numbers.specs.Values.{natural, naturals}
use Rattle.ick_chain.specs.Chains.{never}
use Rattle.ick_chain.specs.declared.chain.Node.TheVariants.{Ends}
use Rattle.ick_chain.specs.Places.{AllSuit, IsFull, state_or, states_in}
use Rattle.ick_chain.specs.Ranks.{AreNumbered}
use Rattle.ick_chain.specs.Rows.{AreDistinct, any_outcome, rows_of, weight_of}
use Rattle.ick_chain.specs.Shown.{NeverEnds}
use Rattle.ick_chain.specs.Words.{AreLeast}
use Rattle.ick_chain.proofs.Answers.{exact}
use Rattle.ick_chain.proofs.LongNumbers.{if_some}
use Rattle.ick_chain.proofs.Placing.{chain_of, first_is}
use Rattle.ick_chain.proofs.RowLaws.{rows_whole}
use Rattle.ick_chain.proofs.outcomes.list_outcomes.Goals as goal

pub show_fewest-requires : goal.show_fewest-requires
show_fewest-requires g c κs =
    let p = g.P.States.text c.args.program.now in
    let seen = g.P.States.seen c.args.program.now in
    let suits = g.P.States.suits c.args.program.now in
    let answer = c.args.answer.now in
    let states = c.deref-6.ensures.value in
    let nodes = c.deref-7.ensures.value in
    let rows = c.deref-8.ensures.value in
    let labels = c.in_ok-labels.labels in
    let least = rw c.deref-3.ensures.value at c.in_ok-labels.ensures.least in (
      (refl, tt),
      (
        subst (AllSuit suits) (sym states) c.requires.states,
        (
          subst (λ z. IsFull p (states_in seen z) c.deref-7.result.now) (sym states)
              (subst (λ z. IsFull p (states_in seen answer.chain.states.items) z) (sym nodes) c.requires.full),
          (
            c.in_ok-labels.ensures.words,
            (
              subst (λ z. AreLeast z labels) (sym nodes) least,
              (
                subst (λ z. AreDistinct (rows_of z)) (sym rows) (c.in_ok-rows.ensures.rows (first_state [] [])).distinct,
                subst (λ z. AreNumbered p (states_in seen z) c.deref-7.result.now labels.of.items c.deref-8.result.now)
                    (sym states)
                    (subst (λ z. AreNumbered p (states_in seen answer.chain.states.items) z labels.of.items
                    c.deref-8.result.now) (sym nodes)
                    (subst (λ z. AreNumbered p (states_in seen answer.chain.states.items) answer.chain.nodes.items
                    labels.of.items z) (sym rows) c.in_ok-rows.ensures.ranked)),
              ),
            ),
          ),
        ),
      ),
    )

pub returns-clause-whole : goal.returns-clause-whole
returns-clause-whole g c =
    let p = g.P.States.text c.args.program.now in
    let answer = c.args.answer.now in
    let ss = states_in (g.P.States.seen c.args.program.now) answer.chain.states.items in
    let nodes = answer.chain.nodes.items in
    let visits = naturals answer.visits.items in
    let d = first_state [] [] in
    let chain = chain_of p ss nodes d c.requires.full in
    let h = c.requires.solution in
    let x = exact p (state_or d ss) nodes chain h.closed 0 (natural answer.parts) visits h.some h.are_visits in
    let n : natural c.in_ok-never.never ≡ never nodes visits =
    rw (c.deref-4.ensures.value, c.deref-5.ensures.value) at c.in_ok-never.ensures in
    subst (λ z. weight_of any_outcome (rows_of c.in_ok-rows.rows.items) + z ≡ natural answer.parts) (sym n)
    (rows_whole p (state_or d ss) nodes visits (rows_of c.in_ok-rows.rows.items) (never nodes visits)
    (natural answer.parts) (λ i e. chain i Ends e) (c.in_ok-rows.ensures.rows d) x.whole)

pub returns-clause-stuck : goal.returns-clause-stuck
returns-clause-stuck g c =
    let p = g.P.States.text c.args.program.now in
    let answer = c.args.answer.now in
    let ss = states_in (g.P.States.seen c.args.program.now) answer.chain.states.items in
    if_some _ _ c.in_ok-stuck.stuck
    (λ choices f s begins. subst (λ z. NeverEnds p z choices.items) (first_is ss s s begins)
    (f p (state_or s ss) (chain_of p ss answer.chain.nodes.items s c.requires.full)))
    (rw c.deref-9.ensures.value at c.in_ok-stuck.ensures.some)
