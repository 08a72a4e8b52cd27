use Rattle.std.proofs.Common.{true, false, sym, ap, ◌∙◌}
use Rattle.std.specs.Prelude.{codes}
use Rattle.ick_source.specs.BodyGrammar.{worded_by}
use Rattle.ick_places.specs.Bodies.{worded_marks}
use Rattle.ick_places.specs.Walks.{left}
use Rattle.ick_places.proofs.BodyWalks.{walks_looked, walks_verb, walks_unfound}
use Rattle.ick_places.proofs.WalkLemmas.{walks_as}
use Rattle.ick_places.proofs.walker.Walker.worded.Goals as goal

pub returns-then-sees : goal.returns-then-sees
returns-then-sees c =
    let old = c.args.self.now in
    let e = sym c.if-sees.true ∙ c.sees.ensures in
    walks_as _ _ _ _ _ (ap (λ z. worded_marks old.text.now z (left old)) e)
    (walks_looked (codes "(") worded_by _ _ true _ e c.call.ensures)

pub returns-in-Some : goal.returns-in-Some
returns-in-Some c =
    let old = c.args.self.now in
    let e = sym c.if-sees.false ∙ c.sees.ensures in
    let v = c.in-Some.ensures in
    walks_as _ _ _ _ _ (ap (λ z. worded_marks old.text.now z (left old)) e)
    (walks_looked (codes "(") worded_by _ _ false _ e
    (walks_verb old c.verb.new.self _ c.in-Some.verb v.keeps v.same v.finds c.action.ensures))

pub returns-in_default : goal.returns-in_default
returns-in_default c =
    let old = c.args.self.now in
    let e = sym c.if-sees.false ∙ c.sees.ensures in
    let v = c.in_default.ensures in
    walks_as _ _ _ _ _ (ap (λ z. worded_marks old.text.now z (left old)) e)
    (walks_looked (codes "(") worded_by _ _ false _ e (walks_unfound _ _ _ _ _ v.keeps v.finds))
