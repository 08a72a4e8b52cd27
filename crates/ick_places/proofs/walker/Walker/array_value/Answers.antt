use Rattle.std.proofs.Common.{true, false, sym, ap, ◌∙◌}
use Rattle.std.specs.Prelude.{codes}
use Rattle.ick_source.specs.BodyGrammar.{array_by}
use Rattle.ick_syntax.specs.BodyTree.{calculate}
use Rattle.ick_syntax.specs.Tree.{element}
use Rattle.ick_places.specs.declared.body.Member.TheVariants.{Expression}
use Rattle.ick_places.specs.Bodies.{target_marks, list_marks}
use Rattle.ick_places.specs.Walks.{left}
use Rattle.ick_places.proofs.BodyWalks.{walks_looked, walks_worded}
use Rattle.ick_places.proofs.WalkLemmas.{walks_as, walks_made}
use Rattle.ick_places.proofs.walker.Walker.array_value.Goals as goal

pub returns-then-sees : goal.returns-then-sees
returns-then-sees c x =
    let old = c.args.self.now in
    let e = sym c.if-sees.true ∙ c.sees.ensures in
    walks_as _ _ _ _ _ (ap (λ z. target_marks old.text.now z (left old)) e)
    (walks_looked (codes "SUB") (array_by x) _ _ true _ e
    (c.element_value.ensures (λ ts t. calculate (element x ts) t)))

pub returns : goal.returns
returns c x =
    let old = c.args.self.now in
    let e = sym c.if-sees.false ∙ c.sees.ensures in
    walks_as _ _ _ _ _ (ap (λ z. target_marks old.text.now z (left old)) e)
    (walks_looked (codes "SUB") (array_by x) _ _ false _ e
    (walks_worded _ _ _ _ _ (λ text from. list_marks text Expression (codes "BY") from) c.passes.ensures.walks
    (walks_made _ _ _ _ _ c.list.ensures)))
