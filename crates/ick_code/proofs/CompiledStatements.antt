-- The statements of a program, compiled one after another.
use Rattle.std.proofs.Common.{◌≡◌, ℕ, suc, ◌+◌, ◌-◌, ◌<◌, ◌≤◌, max, true, List, [], ◌∷◌}
use Rattle.std.proofs.Common.{◌++◌, length, map, take}
use Rattle.std.proofs.Common.{drop, get_or, Option, Some, None, refl, sym, ap, ◌∙◌, ⊎_elim, subst, arith}
use Rattle.std.proofs.Common.{length-append, le_trans, take_all}
use Rattle.std.specs.Prelude.{slice_get, slice_range, option_map}
use Rattle.std.specs.List.{list_all}
use Rattle.std.proofs.lemmas.List.{take-append-le, drop-append-le, length-map, length-drop, map-append}
use Rattle.std.proofs.Math.Seq.{drop-append_seam, take-length}
use Rattle.std.proofs.lemmas.List.Elements.{All-same}
use Rattle.std.proofs.lemmas.Option.{slice_get-map, slice_get-get_or, slice_get_within}
use Rattle.ick_syntax.specs.declared.statements.Statement.{Statement}
use Rattle.ick_syntax.specs.declared.body.Body.{Body}
use Rattle.ick_syntax.specs.declared.body.Body.TheVariants as body
use Rattle.ick_syntax.specs.declared.kinds.Kind.{Kind}
use Rattle.ick_syntax.specs.StatementTree.{StatementTree}
use Rattle.ick_syntax.specs.NameKinds.{is_statement_kinded}
use Rattle.ick_syntax.specs.StatementTree.{statement_tree_of}
use Rattle.ick_syntax.specs.ProgramFaults.{IsSound}
use Rattle.ick_code.specs.declared.op.Op.{Op}
use Rattle.ick_code.specs.declared.op.Op.TheVariants.{Call, AbstainOne, ReinstateOne}
use Rattle.ick_code.specs.declared.code.CompiledStatement.{CompiledStatement}
use Rattle.ick_code.specs.meaning.Control.{place_of}
use Rattle.ick_code.specs.Effects.{Slots, effects}
use Rattle.ick_code.specs.Names.{slots_of}
use Rattle.ick_code.specs.Counts.{peak}
use Rattle.ick_code.specs.Operations.{ops_of_body}
use Rattle.ick_code.specs.Emitted.{IsEmitted}
use Rattle.ick_code.specs.Code.{kinds_of, names_existing, LeadsLast, FindOperands, IsCompiledStatement, IsCode}
use Rattle.ick_code.proofs.Finds.{body_finds}
use Rattle.ick_code.proofs.Members.{some_is, some_member, push_cases, mapped_from}
use Rattle.ick_code.proofs.TakeLemmas.{take_with}
use Rattle.ick_code.proofs.CountLemmas.{within_peak}
use Rattle.ick_code.proofs.Slotted.{covers_all, covers_part, kinded_part}
use Rattle.ick_code.proofs.Runs.{body_runs}
use Rattle.ick_code.proofs.NamedOps.{used_exists, body_settled}

-- a range of a list stays where the list grows
range-append : {A : Type 0} (xs ys : List A) (i j : ℕ) → i ≤ j → j ≤ length xs →
    slice_range (xs ++ ys) i j ≡ slice_range xs i j
range-append xs ys i j order within =
    let low : i ≤ length xs = omega arith in
    let short : j - i ≤ length (drop i xs) = omega (arith, length-drop i xs) in
    ap (take (j - i)) (drop-append-le i xs ys low) ∙ take-append-le (j - i) (drop i xs) ys short

pub range-seam : {A : Type 0} (xs ys zs : List A) (i j : ℕ) → zs ≡ xs ++ ys → i ≡ length xs →
    j ≡ length zs → slice_range zs i j ≡ ys
range-seam xs ys zs i j grown from to =
    let size : j - i ≡ length ys = omega (arith, ap length grown, length-append xs ys) in
    ap (λ l. slice_range l i j) grown
    ∙ ap (λ i'. take (j - i) (drop i' (xs ++ ys))) from
    ∙ ap (take (j - i)) (drop-append_seam xs ys)
    ∙ ap (λ n. take n ys) size
    ∙ take-length ys

-- the greatest of some numbers
pub most_of : List ℕ → ℕ
most_of [] = 0
most_of (n ∷ ns) = max n (most_of ns)

most_of-push : (ns : List ℕ) (n : ℕ) → most_of (ns ++ n ∷ []) ≡ max (most_of ns) n
unfolding most_of
most_of-push [] n = omega arith
most_of-push (m ∷ ns) n = ap (max m) (most_of-push ns n) ∙ omega arith

most_of-least : (ns : List ℕ) (m : ℕ) → ((i n : ℕ) → slice_get ns i ≡ Some n → n ≤ m) →
    most_of ns ≤ m
unfolding most_of
most_of-least [] m all = omega arith
most_of-least (n ∷ ns) m all =
    let first = all 0 n refl in
    let rest = most_of-least ns m (λ i n e. all (suc i) n e) in
    omega arith

-- those compiled so far are those of the first statements
pub record CompiledSoFar (place : ℕ → ℕ) (slots : Slots) (statements : List Statement) (ops : List Op)
    (list : List CompiledStatement) (most i : ℕ) : Type 0 where
  pub count : length list ≡ i
  pub each : (n : ℕ) (compiled : CompiledStatement) (statement : Statement) → slice_get list n ≡ Some compiled →
      slice_get statements n ≡ Some statement →
      IsEmitted place slots ops compiled statement × (peak (slice_range ops compiled.from compiled.to) 0 ≤ most)
  pub greatest : most
      ≡ most_of (map (λ statement. peak (ops_of_body place slots statement.body) 0) (take i statements))

pub none_compiled : (place : ℕ → ℕ) (slots : Slots) (statements : List Statement) (ops : List Op)
    (list : List CompiledStatement) → list ≡ [] → CompiledSoFar place slots statements ops list 0 0
unfolding most_of
none_compiled place slots statements ops list none = record {
  count = ap length none;
  each = λ n compiled statement e f. absurd (nothing (slice_get list n) compiled e (ap (λ l. slice_get l n) none));
  greatest = refl;
}
  where
    nothing : (o : Option CompiledStatement) (compiled : CompiledStatement) → o ≡ Some compiled → o ≡ None →
        ⊥
    nothing o compiled e f = cc

emitted_grows : (place : ℕ → ℕ) (slots : Slots) (ops more : List Op) (compiled : CompiledStatement)
    (statement : Statement) → IsEmitted place slots ops compiled statement →
    IsEmitted place slots (ops ++ more) compiled statement
emitted_grows place slots ops more compiled statement h = record {
  order = h.order;
  within = let w = h.within in omega (arith, length-append ops more);
  is = range-append ops more compiled.from compiled.to h.order h.within ∙ h.is;
  chance = h.chance;
  abstained = h.abstained;
  text = h.text;
}

-- one more
pub more_compiled : (place : ℕ → ℕ) (slots : Slots) (statements : List Statement) (ops more ops' : List Op)
    (list list' : List CompiledStatement) (most most' i : ℕ) (compiled : CompiledStatement)
    (statement : Statement) → CompiledSoFar place slots statements ops list most i →
    IsEmitted place slots ops' compiled statement → ops' ≡ ops ++ more → list' ≡ list ++ compiled ∷ [] →
    most' ≡ max most (peak (slice_range ops' compiled.from compiled.to) 0) → i < length statements →
    statement ≡ get_or statements i statement →
    CompiledSoFar place slots statements ops' list' most' (i + 1)
more_compiled place slots statements ops more ops' list list' most most' i compiled statement so_far new grown pushed
    is_most within is = record {
      count = ap length pushed ∙ length-append list (compiled ∷ []) ∙ ap (λ n. n + 1) so_far.count;
      each = λ n l s e f.
          ⊎_elim
          (λ old.
          let before = so_far.each n l s old f in
          let fits = before.1 in
          let same : slice_range ops' l.from l.to ≡ slice_range ops l.from l.to =
          ap (λ o. slice_range o l.from l.to) grown
          ∙ range-append ops more l.from l.to before.0.order before.0.within in (
            subst (λ o. IsEmitted place slots o l s) (sym grown) (emitted_grows place slots ops more l s before.0),
            omega (arith, ap (λ o. peak o 0) same),
          ))
          (λ last.
          let at : slice_get statements i ≡ Some statement =
          slice_get-get_or statements i statement within ∙ ap (λ x. Some x) (sym is) in
          let spot : n ≡ i = last.0 ∙ so_far.count in
          let same : s ≡ statement = some_is s statement (sym f ∙ ap (slice_get statements) spot ∙ at) in
          let whole : IsEmitted place slots ops' compiled statement
          × (peak (slice_range ops' compiled.from compiled.to) 0 ≤ most') = (new, omega arith) in
          subst (λ l. IsEmitted place slots ops' l s × (peak (slice_range ops' l.from l.to) 0 ≤ most')) last.1
          (subst (λ s. IsEmitted place slots ops' compiled s
          × (peak (slice_range ops' compiled.from compiled.to) 0 ≤ most')) (sym same) whole))
          (push_cases list compiled n l (subst (λ ls. slice_get ls n ≡ Some l) pushed e));
      greatest =
          is_most
          ∙ ap (λ n. max n (peak (slice_range ops' compiled.from compiled.to) 0)) so_far.greatest
          ∙ ap (λ o. max (most_of (map peaks (take i statements))) (peak o 0)) new.is
          ∙ sym (most_of-push (map peaks (take i statements)) (peaks statement))
          ∙ ap most_of (sym (ap (map peaks) (take_with statements i statement within is)
          ∙ map-append peaks (take i statements) (statement ∷ [])));
    }
  where
    peaks : Statement → ℕ
    peaks s = peak (ops_of_body place slots s.body) 0

-- a label's place may be had otherwise
ops_placed : (place place' : ℕ → ℕ) (slots : Slots) → ((label : ℕ) →
    place label ≡ place' label) → (b : Body) → ops_of_body place slots b ≡ ops_of_body place' slots b
ops_placed place place' slots same (body.Calculate target e) = refl
ops_placed place place' slots same (body.Dimension array es) = refl
ops_placed place place' slots same (body.Next label) = ap (λ n. Call n ∷ []) (same label)
ops_placed place place' slots same (body.Forget e) = refl
ops_placed place place' slots same (body.Resume e) = refl
ops_placed place place' slots same (body.Stash names) = refl
ops_placed place place' slots same (body.Retrieve names) = refl
ops_placed place place' slots same (body.Ignore names) = refl
ops_placed place place' slots same (body.Remember names) = refl
ops_placed place place' slots same (body.AbstainLabel label) = ap (λ n. AbstainOne n ∷ []) (same label)
ops_placed place place' slots same (body.AbstainKinds gerunds) = refl
ops_placed place place' slots same (body.ReinstateLabel label) = ap (λ n. ReinstateOne n ∷ []) (same label)
ops_placed place place' slots same (body.ReinstateKinds gerunds) = refl
ops_placed place place' slots same body.GiveUp = refl
ops_placed place place' slots same (body.WriteIn targets) = refl
ops_placed place place' slots same (body.ReadOut items) = refl
ops_placed place place' slots same body.Unrecognised = refl

emitted_means : (program : List StatementTree) (statements : List Statement) (place : ℕ → ℕ) (most : ℕ)
    (ops : List Op) (compiled : CompiledStatement) (n : ℕ) (statement : Statement) →
    program ≡ map statement_tree_of statements → ((label : ℕ) → place label ≡ place_of label program) →
    list_all is_statement_kinded program ≡ true → IsSound program →
    slice_get statements n ≡ Some statement → IsEmitted place (slots_of program) ops compiled statement →
    peak (slice_range ops compiled.from compiled.to) 0 ≤ most →
    IsCompiledStatement program (slots_of program) most ops compiled (statement_tree_of statement)
emitted_means program statements place most ops compiled n statement trees places kinded sound at h low =
    let tree = statement_tree_of statement in
    let slots = slots_of program in
    let at_tree : slice_get program n ≡ Some tree =
    ap (λ p. slice_get p n) trees ∙ slice_get-map statement_tree_of statements n
    ∙ ap (option_map statement_tree_of) at in
    let are = h.is ∙ ops_placed place (λ label. place_of label program) slots places statement.body in
    let kinded_body = kinded_part program n tree at_tree kinded in
    let covered = covers_part slots program n tree at_tree (covers_all program) in
    let settled =
    body_settled (length program) slots (λ label. place_of label program) statement.body kinded_body covered
    (λ how label uses. used_exists program n tree how label sound at_tree uses) in
    record {
      order = h.order;
      within = h.within;
      means = record {
        does = λ s.
            ap (λ o. effects program slots statement.text.now o [] s) are
            ∙ body_runs program slots statement.text.now statement.body kinded_body covered s;
        keeps =
            λ s k.
            le_trans (within_peak program slots statement.text.now (slice_range ops compiled.from compiled.to) k [] s)
            low;
      };
      low = low;
      named = All-same (λ op. names_existing (length program) slots op ≡ true) _ _ are settled.named;
      leads = subst LeadsLast (sym are) settled.leads;
      finds = subst FindOperands (sym are) (body_finds slots (λ label. place_of label program) statement.body);
      chance = h.chance;
      abstained = h.abstained;
      text = h.text;
    }

-- all of them
pub whole_code : (program : List StatementTree) (statements : List Statement) (place : ℕ → ℕ) (slots : Slots)
    (ops : List Op) (list : List CompiledStatement) (kinds : List Kind) (most i : ℕ) →
    CompiledSoFar place slots statements ops list most i → i ≤ length statements → length statements ≤ i →
    program ≡ map statement_tree_of statements → ((label : ℕ) → place label ≡ place_of label program) →
    list_all is_statement_kinded program ≡ true → IsSound program →
    slots ≡ slots_of program → kinds ≡ kinds_of program →
    IsCode program slots.scalars slots.arrays most ops list kinds
whole_code program statements place slots ops list kinds most i so_far low high trees places kinded sound are_slots
    are_kinds = record {
      count = so_far.count ∙ whole ∙ sym (ap length trees ∙ length-map statements statement_tree_of);
      each = λ n compiled tree e f.
          let from =
          mapped_from statement_tree_of statements n tree (subst (λ p. slice_get p n ≡ Some tree) trees f) in
          let here = so_far.each n compiled from.0 e from.1 in
          subst (IsCompiledStatement program (slots_of program) most ops compiled) (sym from.2)
          (emitted_means program statements place most ops compiled n from.0 trees places kinded sound from.1
          (subst (λ sl. IsEmitted place sl ops compiled from.0) are_slots here.0) here.1);
      scalars_are = ap (λ sl. sl.scalars) are_slots;
      arrays_are = ap (λ sl. sl.arrays) are_slots;
      kinds_are = are_kinds;
      least = λ m all.
          subst (λ k. k ≤ m)
          (sym (so_far.greatest ∙ ap (λ l. most_of (map peaks l)) (take_all i statements high)))
          (most_of-least (map peaks statements) m (λ n k e.
          let from = mapped_from peaks statements n k e in
          let long = slice_get_within statements n from.0 from.1 in
          let here = some_member list n (omega (arith, so_far.count)) in
          let there = so_far.each n here.0 from.0 here.1 from.1 in
          let fits = all n here.0 here.1 in
          omega (arith, fits, from.2, ap (λ o. peak o 0) there.0.is)));
    }
  where
    whole : i ≡ length statements
    whole = omega arith

    peaks : Statement → ℕ
    peaks s = peak (ops_of_body place slots s.body) 0
