use Rattle.std.proofs.Common.{subst, arith}
use Rattle.ick_outcomes.specs.Keys.{Lacks}
use Rattle.ick_chain.proofs.Reaching.{found_more}
use Rattle.ick_chain.proofs.search.add_state.Goals as goal

pub returns-clause-found : goal.returns-clause-found
returns-clause-found g c =
    let p = g.P.States.text c.args.program.now in
    let seen = g.P.States.seen c.args.program.now in
    let suits = g.P.States.suits c.args.program.now in
    let key = g.P.States.key c.args.program.now in
    let size = g.P.States.size c.args.program.now in
    found_more p seen suits key size c.args.found.now (record {
      states = c.push.new.self;
      index = c.note.new.self;
      bytes = c.saturating_add-found.result;
    }) c.args.state c.requires.found c.requires.state c.requires.new c.requires.reached c.in_ok-note.ensures.stays
    (subst (λ z. Lacks c.note.new.self.rows z → ⊥) c.requires.key c.in_ok-note.ensures.noted)
    c.in_ok-push.ensures.items
    (omega (arith, c.saturating_add-found.ensures, c.saturating_add-bytes.ensures, c.bytes.ensures))
