use Rattle.std.proofs.Common.{◌+◌, take}
use Rattle.ick_syntax.specs.Tree.{tree_of, trees_in}
use Rattle.ick_stages.specs.Trees.{subs_text}
use Rattle.ick_inspect.specs.Text.{Adds}
use Rattle.ick_stages.proofs.TreeTexts.{size_of, sizes_of}
use Rattle.ick_stages.proofs.tree.+expression.Given as goal

abbrev pub decreases-append_tree : goal.decreases-append_tree
decreases-append_tree l = size_of (tree_of l.e.now)

abbrev pub decreases-append_element : goal.decreases-append_element
decreases-append_element l = 2 + sizes_of (trees_in l.element.now.subs.items)

abbrev pub decreases-append_subscripts : goal.decreases-append_subscripts
decreases-append_subscripts l = 1 + sizes_of (trees_in l.subs.now.items)

abbrev pub invariant-append_subscripts-loop-e : goal.invariant-append_subscripts-loop-e
invariant-append_subscripts-loop-e l =
    Adds l.initial.text l.text (subs_text (trees_in (take l.e-index l.e-items)))
