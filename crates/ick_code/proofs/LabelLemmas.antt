-- Labels of statements, one after another.
use Rattle.std.proofs.Common.{◌≡◌, ℕ, suc, ◌+◌, ◌<◌, ◌≤◌, Bool, true, false, List, [], ◌∷◌}
use Rattle.std.proofs.Common.{◌++◌, length, map, take, take_all, length-take-le, get_or, Option, Some, None, refl}
use Rattle.std.proofs.Common.{sym, ap, ◌∙◌, arith, if◌then◌else◌}
use Rattle.std.specs.Prelude.{unwrap_or, option_map}
use Rattle.std.proofs.lemmas.List.{length-map, map-append}
use Rattle.ick_syntax.specs.declared.statements.Statement.{Statement}
use Rattle.ick_syntax.specs.StatementTree.{statement_tree_of, StatementTree}
use Rattle.ick_code.specs.meaning.Control.{is_label, place_of}
use Rattle.ick_code.specs.Labels.{first_place, with_place}
use Rattle.ick_code.proofs.TakeLemmas.{take_with}

place_cases : (b : Bool) (o : Option ℕ) (n : ℕ) → (if b then 1 else (unwrap_or o n + 1))
    ≡ unwrap_or (if b then Some 1 else option_map suc o) (n + 1)
place_cases true o n = refl
place_cases false None n = refl
place_cases false (Some p) n = omega arith

pub place_of-first : (label : ℕ) (program : List StatementTree) →
    place_of label program ≡ unwrap_or (first_place label program) (length program + 1)
place_of-first label [] = refl
place_of-first label (statement ∷ rest) =
    ap (λ n. if is_label label statement.label then 1 else (n + 1)) (place_of-first label rest)
    ∙ place_cases (is_label label statement.label) (first_place label rest) (length rest + 1)
    ∙ ap (unwrap_or (first_place label (statement ∷ rest))) (omega arith)

more_cases : (b c : Bool) (o : Option ℕ) (n : ℕ) → (if b then Some 1 else option_map suc (with_place o c n))
    ≡ with_place (if b then Some 1 else option_map suc o) c (suc n)
more_cases true c o n = refl
more_cases false true None n = refl
more_cases false false None n = refl
more_cases false c (Some p) n = refl

pub first_place-more : (label : ℕ) (program : List StatementTree) (last : StatementTree) →
    first_place label (program ++ last ∷ [])
    ≡ with_place (first_place label program) (is_label label last.label) (suc (length program))
first_place-more label [] last = cases (is_label label last.label)
  where
    cases : (b : Bool) → (if b then Some 1 else None) ≡ with_place None b 1
    cases true = refl
    cases false = refl
first_place-more label (statement ∷ rest) last =
    ap (λ o. if is_label label statement.label then Some 1 else option_map suc o) (first_place-more label rest last)
    ∙ more_cases (is_label label statement.label) (is_label label last.label) (first_place label rest)
    (suc (length rest))

-- the places of the labels of the first statements, and of one more
pub noted_more : (statements : List Statement) (i : ℕ) (statement : Statement) → i < length statements →
    statement ≡ get_or statements i statement → (label : ℕ) →
    first_place label (map statement_tree_of (take (i + 1) statements))
    ≡ with_place (first_place label (map statement_tree_of (take i statements))) (is_label label statement.label)
    (i + 1)
noted_more statements i statement within is label =
    let low : i ≤ length statements = omega arith in
    let long : suc (length (map statement_tree_of (take i statements))) ≡ i + 1 =
    omega (arith, length-map (take i statements) statement_tree_of, length-take-le i statements low) in
    ap (λ l. first_place label (map statement_tree_of l)) (take_with statements i statement within is)
    ∙ ap (first_place label) (map-append statement_tree_of (take i statements) (statement ∷ []))
    ∙ first_place-more label (map statement_tree_of (take i statements)) (statement_tree_of statement)
    ∙ ap (with_place (first_place label (map statement_tree_of (take i statements))) (is_label label statement.label))
    long

-- the places of all labels
pub noted_all : (statements : List Statement) (i past : ℕ) (o : Option ℕ) (label : ℕ) →
    i ≤ length statements → length statements ≤ i → past ≡ i + 1 →
    o ≡ first_place label (map statement_tree_of (take i statements)) →
    unwrap_or o past ≡ place_of label (map statement_tree_of statements)
noted_all statements i past o label low high counted noted =
    let all : take i statements ≡ statements = take_all i statements high in
    let long : past ≡ length (map statement_tree_of statements) + 1 =
    omega (arith, length-map statements statement_tree_of) in
    ap (λ o. unwrap_or o past) (noted ∙ ap (λ l. first_place label (map statement_tree_of l)) all)
    ∙ ap (unwrap_or (first_place label (map statement_tree_of statements))) long
    ∙ sym (place_of-first label (map statement_tree_of statements))
