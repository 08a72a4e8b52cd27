-- Trees of expressions and of lists of them. The crates above cite these too.
use Rattle.std.proofs.Common.{◌≡◌, List, [], ◌∷◌, ◌++◌, refl, ap, ◌∙◌}
use Rattle.ick_syntax.specs.declared.tree.Expr.{Expr, Element', Row_of-Expr, end_of-Expr, more_of-Expr}
use Rattle.ick_syntax.specs.declared.tree.Expr.{items-the_row-Expr, items_hidden-the_row-Expr-0, Element as Element_of}
use Rattle.ick_syntax.specs.declared.tree.Element.{Element}
use Rattle.ick_syntax.specs.Tree.{element, Trees, none, more, join, tree_of, trees_of, trees_in}

pub join_assoc : (a b c : Trees) → join (join a b) c ≡ join a (join b c)
join_assoc none b c = refl
join_assoc (more t a) b c = ap (more t) (join_assoc a b c)

pub join-none : (a : Trees) → join a none ≡ a
join-none none = refl
join-none (more t a) = ap (more t) (join-none a)

pub trees_in-append : (a b : List Expr) → trees_in (a ++ b) ≡ join (trees_in a) (trees_in b)
trees_in-append [] b = refl
trees_in-append (e ∷ a) b = ap (more (tree_of e)) (trees_in-append a b)

pub trees_of-row : {n : _} (row : Row_of-Expr n) → trees_of row ≡ trees_in (items-the_row-Expr n row)
trees_of-row end_of-Expr = refl
trees_of-row (more_of-Expr e row) = ap (more (tree_of e)) (trees_of-row row)

-- the subscripts of an element
abbrev row_of : Expr → (n : _) × Row_of-Expr n
row_of (Element' x shape row) = (_, row)
row_of _ = (_, end_of-Expr)

pub tree_of-element : (x : Element) → tree_of (Element_of x) ≡ element x.array (trees_in x.subs.items)
tree_of-element x = let row = row_of (Element_of x) in
    ap (element x.array) (trees_of-row row.1 ∙ ap trees_in (items_hidden-the_row-Expr-0 x.subs))
