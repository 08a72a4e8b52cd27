use Rattle.std.proofs.Common.{◌≡◌, ◌++◌, ◌∷◌, [], ◌-◌, ap, sym, ◌∙◌, append_assoc, refl, subst}
use Rattle.std.proofs.lemmas.List.{append-nil, nil_from_length}
use Rattle.ick_outcomes.specs.Accounts.{all_ahead}
use Rattle.ick_outcomes.specs.Searches.{Adds, Waits}
use Rattle.ick_outcomes.specs.Seen.{nodes_of}
use Rattle.ick_outcomes.proofs.Many.{too_many}
use Rattle.ick_outcomes.proofs.Buckets.{all-at}
use Rattle.ick_outcomes.proofs.Searching.{adds_more}
use Rattle.ick_outcomes.proofs.counting.round.Goals as goal

pub advance-requires : goal.advance-requires
advance-requires g c κs = (
  (refl, tt),
  (
    c.nodes.invariant.tools,
    (
      c.nodes.invariant.adds.filed,
      all-at (Waits (g.P.States.seen c.args.program.now) (g.P.States.suits c.args.program.now)) c.args.due.nodes.items
          c.nodes.yielded c.next.new.self.rest.items c.in-Some.node
          (c.nodes.invariant.parts ∙ ap (λ ns. c.nodes.yielded ++ ns) c.in-Some.ensures.steps.0) c.requires.due,
    ),
  ),
)

pub nodes-preserved : goal.nodes-preserved
nodes-preserved g c =
    let made = c.nodes.yielded in
    let node = c.in-Some.node in
    let due = c.args.due in
    let rest = c.next.new.self.rest.items in
    let parts = c.nodes.invariant.parts ∙ ap (λ ns. made ++ ns) c.in-Some.ensures.steps.0 in
    record {
      adds = adds_more (g.P.States.seen c.args.program.now) (g.P.States.suits c.args.program.now) made node due.left
          c.args.search.now c.nodes.search c.advance.new.search
          (all-at (λ n. n.left ≡ due.left) due.nodes.items made rest node parts c.requires.level)
          c.nodes.invariant.adds c.in_ok-advance.ensures.adds;
      parts = parts ∙ sym (append_assoc made (node ∷ []) rest);
      tools = c.in_ok-advance.ensures.tools;
    }

pub returns-then-search-most-clause-more : goal.returns-then-search-most-clause-more
returns-then-search-most-clause-more g c =
    let made = c.nodes.yielded in
    let node = c.in-Some.node in
    let due = c.args.due in
    let rest = c.next.new.self.rest.items in
    let seen = g.P.States.seen c.args.program.now in
    let suits = g.P.States.suits c.args.program.now in
    let parts = c.nodes.invariant.parts ∙ ap (λ ns. made ++ ns) c.in-Some.ensures.steps.0 in
    λ e. too_many seen suits due.nodes.items made rest node (due.left - 1) c.args.most c.args.search.now
    c.advance.new.search parts
    (adds_more seen suits made node due.left c.args.search.now c.nodes.search c.advance.new.search
    (all-at (λ n. n.left ≡ due.left) due.nodes.items made rest node parts c.requires.level) c.nodes.invariant.adds
    c.in_ok-advance.ensures.adds) c.if-search-most.true

pub returns-clause-adds : goal.returns-clause-adds
returns-clause-adds g c =
    let seen = g.P.States.seen c.args.program.now in
    let made = c.nodes.yielded in
    let rest = c.nodes.node-iterator.rest in
    let none : rest.items ≡ [] = nil_from_length rest.items (sym rest.ok.0 ∙ c.in-None.ensures.steps.0) in
    let all = c.nodes.invariant.parts ∙ (ap (λ ns. made ++ ns) none ∙ append-nil made) in
    subst (λ ns. Adds seen (g.P.States.suits c.args.program.now) (λ q. all_ahead q (nodes_of seen ns))
    (c.args.due.left - 1) c.args.search.now c.nodes.search) (sym all) c.nodes.invariant.adds
