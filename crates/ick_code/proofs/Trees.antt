-- Trees of the members of lists: their kinds, their names and their number.
use Rattle.std.proofs.Common.{◌≡◌, ℕ, zero, suc, ◌<◌, true, ◌&&◌, nat_lt, List, [], ◌∷◌, ◌++◌}
use Rattle.std.proofs.Common.{length, map, get_or, Vec, Global, refl, sym, ap, ◌∙◌, arith, ltb-true}
use Rattle.std.specs.List.{flat_map, list_all}
use Rattle.ick_syntax.specs.declared.tree.Element.{Element as ElementRecord}
use Rattle.ick_syntax.specs.declared.tree.Expr.{Expr}
use Rattle.ick_syntax.specs.declared.tree.Expr.TheVariants.{Element}
use Rattle.std.proofs.lemmas.List.{length-map}
use Rattle.std.proofs.lemmas.List.Folds.{list_all-map}
use Rattle.ick_syntax.specs.declared.tree.Name.{Name}
use Rattle.ick_syntax.specs.declared.body.Place.{Place}
use Rattle.ick_syntax.specs.declared.body.Item.{Item}
use Rattle.ick_syntax.specs.declared.body.Body.{Body}
use Rattle.ick_syntax.specs.declared.body.Body.TheVariants.{Dimension, WriteIn, ReadOut}
use Rattle.ick_syntax.specs.declared.statements.Statement.{Statement}
use Rattle.ick_syntax.specs.BodyTree.{place_tree, item_tree, body_tree_of}
use Rattle.ick_syntax.specs.StatementTree.{statement_tree_of}
use Rattle.ick_syntax.specs.NameKinds.{is_array, count_in, are_few, is_kinded, are_kinded, is_item_kinded}
use Rattle.ick_syntax.specs.NameKinds.{is_body_kinded, is_statement_kinded}
use Rattle.ick_code.specs.meaning.Do.{trees_from}
use Rattle.ick_code.specs.Names.{names_of_tree, names_of_trees}
use Rattle.ick_code.proofs.Bools.{both_left, both_right, second_of, third_of}
use Rattle.ick_syntax.specs.Tree.{more, tree_of, trees_in}
use Rattle.ick_syntax.proofs.TreeLemmas.{tree_of-element}

-- the trees of a list of expressions
pub trees-listed : (es : List Expr) → trees_from (map tree_of es) ≡ trees_in es
trees-listed [] = refl
trees-listed (e ∷ es) = ap (more (tree_of e)) (trees-listed es)

pub kinded-listed : (es : List Expr) → list_all is_kinded (map tree_of es) ≡ true →
    are_kinded (trees_in es) ≡ true
kinded-listed [] h = refl
kinded-listed (e ∷ es) h =
    ap (λ b. b && are_kinded (trees_in es)) (both_left (is_kinded (tree_of e)) (list_all is_kinded (map tree_of es)) h)
    ∙ kinded-listed es (both_right (is_kinded (tree_of e)) (list_all is_kinded (map tree_of es)) h)

pub names-listed : (es : List Expr) → flat_map names_of_tree (map tree_of es) ≡ names_of_trees (trees_in es)
names-listed [] = refl
names-listed (e ∷ es) = ap (λ ns. names_of_tree (tree_of e) ++ ns) (names-listed es)

kinded_member : (es : List Expr) (i : ℕ) (e d : Expr) → are_kinded (trees_in es) ≡ true → i < length es →
    e ≡ get_or es i d → is_kinded (tree_of e) ≡ true
kinded_member [] i e d h within is = absurd (omega arith)
kinded_member (x ∷ es) zero e d h within is =
    ap (λ e. is_kinded (tree_of e)) is ∙ both_left (is_kinded (tree_of x)) (are_kinded (trees_in es)) h
kinded_member (x ∷ es) (suc i) e d h within is =
    kinded_member es i e d (both_right (is_kinded (tree_of x)) (are_kinded (trees_in es)) h) (omega arith) is

-- each expression of a list
pub kinded_at : (es : List Expr) (i : ℕ) (e : Expr) → are_kinded (trees_in es) ≡ true → i < length es →
    e ≡ get_or es i e → is_kinded (tree_of e) ≡ true
kinded_at es i e h within is = kinded_member es i e e h within is

count_in-listed : (es : List Expr) → count_in (trees_in es) ≡ length es
count_in-listed [] = refl
count_in-listed (e ∷ es) = ap suc (count_in-listed es)

pub count_is : (es : List Expr) (n : ℕ) → n ≡ length es → n ≡ count_in (trees_in es)
count_is es n e = e ∙ sym (count_in-listed es)

pub few_fits : (es : List Expr) (n : ℕ) → n ≡ length es → are_few (trees_in es) ≡ true → n < 4294967296
few_fits es n e few =
    let low = ltb-true (count_in (trees_in es)) 4294967296 few in
    omega (arith, low, count_in-listed es)

-- of an element and of dimensions
pub kinded_element : (x : ElementRecord) (e : Expr) → e ≡ Element x →
    is_kinded (tree_of e) ≡ true →
    (are_few (trees_in x.subs.items) ≡ true) × (are_kinded (trees_in x.subs.items) ≡ true)
kinded_element x e is h =
    let ts = trees_in x.subs.items in
    let all = sym (ap (λ e. is_kinded (tree_of e)) is ∙ ap is_kinded (tree_of-element x)) ∙ h in (
      second_of (is_array x.array.kind) (are_few ts) (are_kinded ts) all,
      third_of (is_array x.array.kind) (are_few ts) (are_kinded ts) all,
    )

pub kinded_dimensions : (array : Name) (es : Vec Expr Global) (b : Body) → b ≡ Dimension array es →
    is_body_kinded (body_tree_of b) ≡ true →
    (are_few (trees_in es.items) ≡ true) × (are_kinded (trees_in es.items) ≡ true)
kinded_dimensions array es b is h =
    let few = nat_lt (length (map tree_of es.items)) 4294967296 in
    let all = list_all is_kinded (map tree_of es.items) in
    let whole = ap (λ b. is_body_kinded (body_tree_of b)) (sym is) ∙ h in (
      ap (λ n. nat_lt n 4294967296) (count_in-listed es.items ∙ sym (length-map es.items tree_of))
          ∙ second_of (is_array array.kind) few all whole,
      kinded-listed es.items (third_of (is_array array.kind) few all whole),
    )

pub kinded_places : (places : Vec Place Global) (b : Body) →
    b ≡ WriteIn places →
    is_body_kinded (body_tree_of b) ≡ true →
    list_all (λ place. is_item_kinded (place_tree place)) places.items ≡ true
kinded_places places b is h =
    sym (list_all-map is_item_kinded place_tree places.items) ∙ ap (λ b. is_body_kinded (body_tree_of b)) (sym is)
    ∙ h

pub kinded_items : (items : Vec Item Global) (b : Body) →
    b ≡ ReadOut items →
    is_body_kinded (body_tree_of b) ≡ true →
    list_all (λ item. is_item_kinded (item_tree item)) items.items ≡ true
kinded_items items b is h =
    sym (list_all-map is_item_kinded item_tree items.items) ∙ ap (λ b. is_body_kinded (body_tree_of b)) (sym is)
    ∙ h

kinded_body : (statements : List Statement) (i : ℕ) (s d : Statement) →
    list_all is_statement_kinded (map statement_tree_of statements) ≡ true → i < length statements →
    s ≡ get_or statements i d → is_body_kinded (body_tree_of s.body) ≡ true
kinded_body [] i s d h within is = absurd (omega arith)
kinded_body (x ∷ rest) zero s d h within is =
    ap (λ s. is_body_kinded (body_tree_of s.body)) is
    ∙ both_left (is_body_kinded (body_tree_of x.body)) (list_all is_statement_kinded (map statement_tree_of rest)) h
kinded_body (x ∷ rest) (suc i) s d h within is =
    kinded_body rest i s d (both_right (is_body_kinded (body_tree_of x.body))
    (list_all is_statement_kinded (map statement_tree_of rest)) h) (omega arith) is

-- the body of each statement
pub kinded_statement : (statements : List Statement) (i : ℕ) (s : Statement) →
    list_all is_statement_kinded (map statement_tree_of statements) ≡ true → i < length statements →
    s ≡ get_or statements i s → is_body_kinded (body_tree_of s.body) ≡ true
kinded_statement statements i s h within is = kinded_body statements i s s h within is

pub kinded_few : (x : ElementRecord) (e : Expr) → e ≡ Element x → is_kinded (tree_of e) ≡ true →
    are_few (trees_in x.subs.items) ≡ true
kinded_few x e is h = (kinded_element x e is h).0

pub kinded_subs : (x : ElementRecord) (e : Expr) → e ≡ Element x → is_kinded (tree_of e) ≡ true →
    are_kinded (trees_in x.subs.items) ≡ true
kinded_subs x e is h = (kinded_element x e is h).1
