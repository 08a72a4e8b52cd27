use Rattle.ick_syntax.proofs.TreeLemmas.{tree_of-element}
use Rattle.ick_syntax.proofs.tree.Expr.into_element.Goals as goal

pub returns-in-Element : goal.returns-in-Element
returns-in-Element c = rw c.in-Element.is (tree_of-element c.in-Element.element)
