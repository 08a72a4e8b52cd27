-- Slots that names get, one after another.
use Rattle.std.proofs.Common.{◌≡◌, ℕ, ◌+◌, ◌<◌, List, [], ◌∷◌, ◌++◌, length, map, take}
use Rattle.std.proofs.Common.{get_or, refl, sym, ap, ◌∙◌, append_assoc, append-nil}
use Rattle.std.specs.List.{flat_map}
use Rattle.std.proofs.lemmas.List.{take_more}
use Rattle.ick_syntax.specs.declared.tree.Expr.{Expr}
use Rattle.ick_syntax.specs.Tree.{tree_of, trees_in}
use Rattle.ick_code.specs.Names.{names_of_tree, names_of_trees}
use Rattle.ick_syntax.specs.declared.tree.Name.{Name}
use Rattle.ick_code.specs.declared.table.Table.{Table}
use Rattle.ick_code.specs.Effects.{Slots}
use Rattle.ick_code.specs.Tables.{table_slots, with_slot, with_names, Adds}

pub names_none : (slots : Slots) → with_names slots [] ≡ slots
unfolding with_names
names_none slots = refl

pub names_one : (slots : Slots) (name : Name) → with_names slots (name ∷ []) ≡ with_slot slots name
unfolding with_names
names_one slots name = refl

pub names_append : (slots : Slots) (xs ys : List Name) →
    with_names slots (xs ++ ys) ≡ with_names (with_names slots xs) ys
unfolding with_names
names_append slots [] ys = refl
names_append slots (x ∷ xs) ys = names_append (with_slot slots x) xs ys

pub names_cons : (slots : Slots) (x : Name) (xs : List Name) →
    with_names slots (x ∷ xs) ≡ with_names (with_names slots (x ∷ [])) xs
names_cons slots x xs = names_append slots (x ∷ []) xs

-- what names do one after another
pub ruleset names_steps = (names_none, names_append, names_cons)

-- a list's names, where one more member came
pub came_more : {A : Type 0} (names : List A → List Name) (own : A → List Name) →
    ((xs : List A) (x : A) → names (xs ++ x ∷ []) ≡ names xs ++ own x) → (old so_far new : Table) (xs : List A) (i : ℕ)
    (x d : A) → Adds (names (take i xs)) old so_far → Adds (own x) so_far new → i < length xs →
    x ≡ get_or xs i d → Adds (names (take (i + 1) xs)) old new
came_more names own step old so_far new xs i x d before now within is held =
    let last = now held in
    let others = before last.0 in (
      others.0,
      last.1
          ∙ ap (λ s. with_names s (own x)) others.1
          ∙ sym (names_append (table_slots old) (names (take i xs)) (own x))
          ∙ ap (with_names (table_slots old))
          (sym (ap names (take_more xs i d within ∙ ap (λ y. take i xs ++ y ∷ []) (sym is)) ∙ step (take i xs) x)),
    )

pub trees-step : (xs : List Expr) (x : Expr) →
    names_of_trees (trees_in (xs ++ x ∷ [])) ≡ names_of_trees (trees_in xs) ++ names_of_tree (tree_of x)
trees-step [] x = append-nil (names_of_tree (tree_of x))
trees-step (e ∷ xs) x =
    ap (λ l. names_of_tree (tree_of e) ++ l) (trees-step xs x)
    ∙ sym (append_assoc (names_of_tree (tree_of e)) (names_of_trees (trees_in xs)) (names_of_tree (tree_of x)))

pub mapped-step : {A B : Type 0} (names : B → List Name) (part : A → B) (xs : List A) (x : A) →
    flat_map names (map part (xs ++ x ∷ [])) ≡ flat_map names (map part xs) ++ names (part x)
mapped-step names part [] x = append-nil (names (part x))
mapped-step names part (e ∷ xs) x =
    ap (λ l. names (part e) ++ l) (mapped-step names part xs x)
    ∙ sym (append_assoc (names (part e)) (flat_map names (map part xs)) (names (part x)))

-- an array's name, then its subscripts' or dimensions'
pub came_array : (old so_far new : Table) (array : Name) (ts names : List Name) → Adds (array ∷ []) old so_far →
    Adds ts so_far new → names ≡ array ∷ ts → Adds names old new
came_array old so_far new array ts names before now are held =
    let last = now held in
    let first = before last.0 in (
      first.0,
      last.1
          ∙ ap (λ s. with_names s ts) first.1
          ∙ sym (names_cons (table_slots old) array ts)
          ∙ ap (with_names (table_slots old)) (sym are),
    )
