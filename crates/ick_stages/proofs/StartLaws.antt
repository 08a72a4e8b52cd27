-- The texts of the statements of a cut begin where the statements do.
use Rattle.std.proofs.Common.{◌≡◌, ◌∙◌, ℕ, suc, zero, ◌+◌, ◌-◌, ◌≤◌, List, [], ◌∷◌, Option, Some, None, length}
use Rattle.std.proofs.Common.{drop, get_or, refl, sym, ap, subst, arith}
use Rattle.std.specs.List.{AllZip}
use Rattle.std.specs.Prelude.{option_map, slice_get, slice_range}
use Rattle.std.proofs.lemmas.List.{drop_more, length-drop, length-take, length-map}
use Rattle.std.proofs.lemmas.Option.{get_or_from_slice_get, slice_get-get_or, slice_get-map, slice_get_within}
use Rattle.ick_source.specs.Boundaries.{IsBoundary, IsNextBoundary, at_start, at_end}
use Rattle.ick_source.specs.Bytes.{IsGap, IsWhite, byte}
use Rattle.ick_source.specs.Cut.{AreStatements, statement_then, IsCut, IsFront, nothing, something}
use Rattle.ick_source.specs.Seen.{Sees, SeesText}
use Rattle.ick_source.specs.Statements.{IsTrimmed}
use Rattle.ick_source.specs.declared.seen.Seen.{Seen}
use Rattle.ick_source.proofs.BoundaryLemmas.{boundary_inside, opening_solid}
use Rattle.ick_source.proofs.ByteLemmas.{gap_exists, gap_unique, not_white, past}
use Rattle.ick_source.proofs.StatementLemmas.{statement_boundary}
use Rattle.ick_stages.specs.Starts.{behind, Reaches, no_text, one_more, Starts, GoesOn, statements, front}
use Rattle.ick_stages.specs.Starts.{StartsAreOfCut}
use Rattle.ick_stages.specs.Listed.{texts_seen}
use Rattle.ick_inspect.specs.Positions.{texts_of}
use Rattle.ick_syntax.specs.StatementTree.{StatementTree}

boundary_solid : {source : List ℕ} {to : ℕ} → IsBoundary source to → IsWhite (byte source to) → ⊥
boundary_solid (at_start x) = opening_solid x.opening
boundary_solid {source} {to} (at_end e) = not_white (past source to (omega (arith, e))) refl

size : (source : List ℕ) (from to : ℕ) → from ≤ to → to ≤ length source →
    length (slice_range source from to) ≡ to - from
size source from to le within =
    omega (arith, length-drop from source, length-take (to - from) (drop from source), le, within)

-- behind a text without white bytes at its end there are white bytes alone, up to the boundary
gap_behind : {source : List ℕ} {from to : ℕ} {text : List ℕ} → IsTrimmed source from to text → IsBoundary source to →
    IsGap source (behind source from text) to
gap_behind {source} {from} {to} {text} t b =
    let within = boundary_inside b in
    let long : length text ≡ t.last + 1 - from =
    ap length t.bytes_are ∙ size source from (t.last + 1) (omega (arith, t.some)) (omega (arith, t.order, within)) in
    let end : behind source from text ≡ t.last + 1 = omega (arith, long, t.some, t.order, within) in
    record {
      order = omega (arith, end, t.order);
      white = λ at low high. t.white at (omega (arith, end, low)) high;
      stops = boundary_solid b;
    }

-- the cut goes on behind white bytes
record Rest (source : List ℕ) (trees : List StatementTree) (n at : ℕ) : Type 0 where
  start : ℕ
  gap : IsGap source at start
  goes_on : GoesOn source trees n start

front_rest : {source : List ℕ} {begin first : ℕ} {rest trees : List StatementTree} →
    IsFront source begin first rest trees → IsGap source 0 begin → IsNextBoundary source 0 first →
    AreStatements source first rest → Rest source trees 0 0
front_rest {source} {begin} {trees = trees} (nothing e) gap next are =
    record {
      start = begin;
      gap = gap;
      goes_on = statements (subst (λ z. AreStatements source z trees) (sym e) are);
    }
front_rest {begin = begin} (something less t) gap next are =
    record { start = begin; gap = gap; goes_on = front less next t are refl }

dropped : {A : Type 0} (xs : List A) (n : ℕ) (x : A) → slice_get xs n ≡ Some x → drop n xs ≡ x ∷ drop (n + 1) xs
dropped xs n x e =
    drop_more xs n x (slice_get_within xs n x e) ∙ ap (λ y. y ∷ drop (n + 1) xs) (get_or_from_slice_get xs n x x e)

-- behind one text more the cut goes on too
next_rest : {source : List ℕ} {trees : List StatementTree} {n start : ℕ} {text : List ℕ} → GoesOn source trees n start →
    slice_get (texts_of trees) n ≡ Some text → Rest source trees (n + 1) (behind source start text)
next_rest {source} {trees} {n} {start} {text} (statements are) found =
    by_tree (slice_get trees n) refl (sym (slice_get-map (λ (t : StatementTree). t.text) trees n) ∙ found)
  where
    by_first : {t : StatementTree} {later : List StatementTree} → AreStatements source start (t ∷ later) →
        later ≡ drop (n + 1) trees → t.text ≡ text → Rest source trees (n + 1) (behind source start text)
    by_first (statement_then {to = to} p r) e same =
        record {
          start = to;
          gap = subst (λ z. IsGap source (behind source start z) to) same (gap_behind p.trimmed (statement_boundary p));
          goes_on = statements (subst (λ z. AreStatements source to z) e r);
        }

    by_tree : (o : Option StatementTree) → slice_get trees n ≡ o → option_map (λ t. t.text) o ≡ Some text →
        Rest source trees (n + 1) (behind source start text)
    by_tree None e f = absurd (cc)
    by_tree (Some t) e f = by_first (subst (λ z. AreStatements source start z) (dropped trees n t e) are) refl (cc)
next_rest {source} {trees} {n} {start} {text} (front {first = first} {bytes = bytes} less next t are e) found =
    let one : Some bytes ≡ Some text = subst (λ z. slice_get (texts_of z) 0 ≡ Some text) e found in
    let same : bytes ≡ text = cc in
    record {
      start = first;
      gap = subst (λ z. IsGap source (behind source start z) first) same (gap_behind t next.boundary);
      goes_on = statements (subst (λ z. AreStatements source first z) (sym (ap (drop 1) e)) are);
    }

reach_rest : {source : List ℕ} {trees : List StatementTree} {n at : ℕ} → IsCut source trees →
    Reaches source (texts_of trees) n at → Rest source trees n at
reach_rest c no_text = front_rest c.front c.gap c.first c.statements
reach_rest {source} {trees} c (one_more {n = n} r found gap) =
    let p = reach_rest c r in
    next_rest (subst (λ z. GoesOn source trees n z) (gap_unique p.gap gap refl) p.goes_on) found

goes_on : {source : List ℕ} {trees : List StatementTree} → IsCut source trees → (n start : ℕ) →
    Starts source (texts_of trees) n start → GoesOn source trees n start
goes_on {source} {trees} c n start s =
    let p = reach_rest c s.reaches in subst (λ z. GoesOn source trees n z) (gap_unique p.gap s.gap refl) p.goes_on

record Before (source : List ℕ) (texts : List (List ℕ)) (n b : ℕ) : Type 0 where
  at : ℕ
  start : ℕ
  text : List ℕ
  reaches : Reaches source texts n at
  found : slice_get texts n ≡ Some text
  gap : IsGap source at start
  is : behind source start text ≡ b

before : {source : List ℕ} {texts : List (List ℕ)} {m b : ℕ} → Reaches source texts m b → (n : ℕ) → m ≡ n + 1 →
    Before source texts n b
before no_text n e = absurd (omega (arith, e))
before {source} {texts} (one_more {n = k} {at = at} {start = start} {text = text} r found gap) n e =
    let same : k ≡ n = omega (arith, e) in
    record {
      at = at;
      start = start;
      text = text;
      reaches = subst (λ z. Reaches source texts z at) same r;
      found = subst (λ z. slice_get texts z ≡ Some text) same found;
      gap = gap;
      is = refl;
    }

first_reach : {source : List ℕ} {texts : List (List ℕ)} {n b : ℕ} → Reaches source texts n b → n ≡ 0 → b ≡ 0
first_reach no_text e = refl
first_reach (one_more r found gap) e = absurd (omega (arith, e))

reaches_once : {source : List ℕ} {texts : List (List ℕ)} {n a : ℕ} → Reaches source texts n a → (b : ℕ) →
    Reaches source texts n b → a ≡ b
reaches_once no_text b q = sym (first_reach q refl)
reaches_once {source} (one_more {n = n} {start = start} {text = text} r found gap) b q =
    let p = before q n refl in
    let start_is = gap_unique gap p.gap (reaches_once r p.at p.reaches) in
    let some : Some text ≡ Some p.text = sym found ∙ p.found in
    let text_is : text ≡ p.text = cc in
    ap (λ z. behind source z text) start_is ∙ ap (behind source p.start) text_is ∙ p.is

starts_once : {source : List ℕ} {texts : List (List ℕ)} (n a b : ℕ) → Starts source texts n a →
    Starts source texts n b → a ≡ b
starts_once n a b p q = gap_unique p.gap q.gap (reaches_once p.reaches q.at q.reaches)

reaches_some : (source : List ℕ) (texts : List (List ℕ)) (n : ℕ) → n ≤ length texts →
    (at : ℕ) × Reaches source texts n at
reaches_some source texts zero low = (0, no_text)
reaches_some source texts (suc n) low =
    let r = reaches_some source texts n (omega (arith, low)) in
    let g = gap_exists source r.0 in
    let text = get_or texts n [] in
    let next : n + 1 ≡ suc n = omega arith in (
      behind source g.0 text,
      subst (λ z. Reaches source texts z (behind source g.0 text)) next
          (one_more r.1 (slice_get-get_or texts n [] (omega (arith, low))) g.1),
    )

starts_some : (source : List ℕ) (texts : List (List ℕ)) (n : ℕ) → n ≤ length texts →
    (start : ℕ) × Starts source texts n start
starts_some source texts n low =
    let r = reaches_some source texts n low in
    let g = gap_exists source r.0 in (g.0, record { at = r.0; reaches = r.1; gap = g.1 })

pub starts_of_cut : (source : List ℕ) (trees : List StatementTree) → IsCut source trees → StartsAreOfCut source trees
starts_of_cut source trees c = record {
  some = λ n low. starts_some source (texts_of trees) n
      (omega (arith, low, length-map trees (λ (t : StatementTree). t.text)));
  one = starts_once;
  goes_on = goes_on c;
}

same_texts : (seen : List Seen) (trees : List StatementTree) → AllZip Sees seen trees → texts_seen seen ≡ texts_of trees
same_texts [] [] z = refl
same_texts [] (t ∷ trees) z = absurd z
same_texts (x ∷ seen) [] z = absurd z
same_texts (x ∷ seen) (t ∷ trees) z =
    let first : x.statement.text.now ≡ t.text = ap (λ (t : StatementTree). t.text) z.0.reads.clamped in
    ap (λ text. text ∷ texts_seen seen) first ∙ ap (λ texts. t.text ∷ texts) (same_texts seen trees z.1)

pub seen_texts : (source : List ℕ) (seen : List Seen) → SeesText source seen →
    (trees : List StatementTree) × IsCut source trees × (texts_seen seen ≡ texts_of trees)
seen_texts source seen p = (p.trees, p.cut, same_texts seen p.trees p.sees.each)
