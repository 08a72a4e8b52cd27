-- Proves that lines are made from rows, and that texts are those of lines.
use Prim.Native.Nat.{zero, suc}
use Rattle.std.proofs.Common.{◌≡◌, ◌⊎◌, inl, inr, ℕ, ◌+◌, ◌<◌, ◌≤◌, Bool, List, [], ◌∷◌, ◌++◌, map, length, Option}
use Rattle.std.proofs.Common.{Some, None, take, refl, ap, sym, ◌∙◌, subst, arith, slice_get, slice_index_or}
use Rattle.std.specs.Global.{Vec}
use Rattle.std.specs.List.{Contains}
use Rattle.std.specs.Prelude.{option_map}
use Rattle.std.proofs.lemmas.List.{append-nil}
use Rattle.ick_explorer.proofs.ListingLaws.{contains-nil, contains-head, contains-tail, contains-cases}
use Rattle.ick_numbers.specs.Values.{natural}
use Rattle.ick_numbers.specs.declared.natural.Natural.{Natural}
use Rattle.ick_outcomes.proofs.Lists.{get-mapped, take-more, take-all}
use Rattle.ick_chain.specs.Counts.{counts_of}
use Rattle.ick_chain.specs.ExactListings.{Line, AreLineTexts, all_runs, both, one_more}
use Rattle.ick_chain.specs.Lines.{AppendsLine, AreMade, IsMade, line_of, lines_of, one_of, row_in}
use Rattle.ick_chain.specs.Rows.{Row, row_of, rows_of}
use Rattle.ick_chain.specs.Shown.{choices_of}
use Rattle.ick_chain.specs.declared.line.Line.{Line as KeptLine}
use Rattle.ick_chain.specs.declared.row.Row.{Row as Kept}

-- lines were made from the rows up to here
pub record IsMaking (rows : List Kept) (counts : List (Option Natural)) (shown first : List (Vec Bool))
    (made : List Kept) (lines : List KeptLine) : Type 0 where
  pub rows_are : map row_in (lines_of lines) ≡ rows_of made
  pub each : (l : Line) → Contains (lines_of lines) l →
      IsMade (rows_of rows) (counts_of counts) (choices_of shown) (choices_of first) l

pub made_none : (rows : List Kept) (counts : List (Option Natural)) (shown first : List (Vec Bool)) →
    IsMaking rows counts shown first [] []
made_none rows counts shown first = record { rows_are = refl; each = λ l m. absurd (contains-nil l m) }

map-long : {A B : Type 0} (f : A → B) (xs : List A) → length (map f xs) ≡ length xs
map-long f [] = refl
map-long f (x ∷ xs) = ap suc (map-long f xs)

map-pushed : {A B : Type 0} (f : A → B) (xs : List A) (x : A) → map f (xs ++ x ∷ []) ≡ map f xs ++ f x ∷ []
map-pushed f [] x = refl
map-pushed f (y ∷ xs) x = ap (λ zs. f y ∷ zs) (map-pushed f xs x)

rows-pushed : (xs : List KeptLine) (x : KeptLine) →
    map row_in (lines_of (xs ++ x ∷ [])) ≡ map row_in (lines_of xs) ++ row_of x.row ∷ []
rows-pushed [] x = refl
rows-pushed (y ∷ xs) x = ap (λ z. row_of y.row ∷ z) (rows-pushed xs x)

got-middle : (xs rest : List Kept) (x : Kept) → slice_get (rows_of (xs ++ x ∷ rest)) (length xs) ≡ Some (row_of x)
got-middle [] rest x = refl
got-middle (y ∷ xs) rest x = got-middle xs rest x

in-pushed : (xs : List KeptLine) (x : KeptLine) (l : Line) → Contains (lines_of (xs ++ x ∷ [])) l →
    Contains (lines_of xs) l ⊎ (line_of x ≡ l)
in-pushed [] x l m = elim (contains-cases (line_of x) l [] m) [ inl e ↦ inr e | inr n ↦ absurd (contains-nil l n) ]
in-pushed (y ∷ xs) x l m = elim (contains-cases (line_of y) l (lines_of (xs ++ x ∷ [])) m) [
  | inl e ↦ inl (subst (λ z. Contains (lines_of (y ∷ xs)) z) e (contains-head (line_of y) (lines_of xs)))
  | inr n ↦ elim (in-pushed xs x l n) [
    | inl k ↦ inl (contains-tail (line_of y) l (lines_of xs) k)
    | inr e ↦ inr e
  ]
]

got : {A B : Type 0} (f : A → B) (xs : List A) (i : ℕ) (x : A) → i < length xs → x ≡ slice_index_or xs i x →
    slice_get (map f xs) i ≡ Some (f x)
got f xs i x lt e = get-mapped f xs i x lt ∙ ap (λ z. Some (f z)) (sym e)

pub made_more : (rows made rest : List Kept) (row : Kept) (counts : List (Option Natural))
    (shown first : List (Vec Bool)) (lines new : List KeptLine) (line : KeptLine) (count : Option Natural)
    (one other : Vec Bool) (at : ℕ) → rows ≡ made ++ row ∷ rest → IsMaking rows counts shown first made lines →
    at ≡ length lines → at < length counts → at < length shown → at < length first →
    count ≡ slice_index_or counts at count → one ≡ slice_index_or shown at one →
    other ≡ slice_index_or first at other → line.row ≡ row →
    option_map natural line.count ≡ option_map natural count →
    line.shown.items ≡ one_of (option_map natural count) one.items other.items → new ≡ lines ++ line ∷ [] →
    IsMaking rows counts shown first (made ++ row ∷ []) new
made_more rows made rest row counts shown first lines new line count one other at e h i lc ls lf gc gs gf er ec es en =
    subst (IsMaking rows counts shown first (made ++ row ∷ [])) (sym en) (record {
      rows_are = rows-pushed lines line ∙ (ap (λ z. z ++ row_of line.row ∷ []) h.rows_are
          ∙ (ap (λ z. rows_of made ++ row_of z ∷ []) er ∙ sym (map-pushed row_of made row)));
      each = λ l m. elim (in-pushed lines line l m) [
        | inl k ↦ h.each l k
        | inr k ↦ subst (IsMade (rows_of rows) (counts_of counts) (choices_of shown) (choices_of first)) k (record {
          at = at;
          row = subst (λ z. slice_get (rows_of z) at ≡ Some (row_of line.row)) (sym e)
              (subst (λ z. slice_get (rows_of (made ++ row ∷ rest)) z ≡ Some (row_of line.row)) (sym place)
              (got-middle made rest row ∙ ap (λ z. Some (row_of z)) (sym er)));
          count = got (λ n. option_map natural n) counts at count lc gc ∙ ap Some (sym ec);
          run = subst (λ n. slice_get (one_of n (choices_of shown) (choices_of first)) at ≡ Some line.shown.items)
              (sym ec) (by_count (option_map natural count) es);
        })
      ];
    })
  where
    by_count : (n : Option ℕ) → line.shown.items ≡ one_of n one.items other.items →
        slice_get (one_of n (choices_of shown) (choices_of first)) at ≡ Some line.shown.items
    by_count None d = got (λ (c : Vec Bool). c.items) shown at one ls gs ∙ ap Some (sym d)
    by_count (Some n) d = got (λ (c : Vec Bool). c.items) first at other lf gf ∙ ap Some (sym d)

    place : at ≡ length made
    place =
        i ∙ (sym (map-long line_of lines) ∙ (sym (map-long row_in (lines_of lines))
        ∙ (ap (λ (z : List Row). length z) h.rows_are ∙ map-long row_of made)))

pub made_all : (rows made rest : List Kept) (counts : List (Option Natural)) (shown first : List (Vec Bool))
    (lines : List KeptLine) → rows ≡ made ++ rest → rest ≡ [] → IsMaking rows counts shown first made lines →
    AreMade (rows_of rows) (counts_of counts) (choices_of shown) (choices_of first) (lines_of lines)
made_all rows made rest counts shown first lines e n h = record {
  rows_are = h.rows_are ∙ ap rows_of (sym (e ∙ (ap (λ z. made ++ z) n ∙ append-nil made)));
  each = h.each;
}

-- the texts of the lines up to an index
pub texts_more : (exact silent : Bool) (parts : ℕ) (lines : List KeptLine) (i : ℕ) (line : KeptLine) (text new : List ℕ) →
    i < length lines → line ≡ slice_index_or lines i line → AreLineTexts exact silent parts (lines_of (take i lines)) text →
    AppendsLine exact silent parts (line_of line) text new → AreLineTexts exact silent parts (lines_of (take (i + 1) lines)) new
texts_more exact silent parts lines i line text new lt e h k =
    let next : i + 1 ≡ suc i = omega arith in
    let same : take (i + 1) lines ≡ take i lines ++ line ∷ [] =
    ap (λ z. take z lines) next ∙ (take-more lines i line lt ∙ ap (λ z. take i lines ++ z ∷ []) (sym e)) in
    subst (λ z. AreLineTexts exact silent parts (lines_of z) new) (sym same)
    (subst (λ z. AreLineTexts exact silent parts z new) (sym (map-pushed line_of (take i lines) line))
    (subst (AreLineTexts exact silent parts (lines_of (take i lines) ++ line_of line ∷ [])) (sym k.same)
    (one_more (lines_of (take i lines)) (line_of line) text k.line h k.is_line)))

pub texts_all : (exact silent : Bool) (parts : ℕ) (lines : List KeptLine) (i : ℕ) (text : List ℕ) → length lines ≤ i →
    AreLineTexts exact silent parts (lines_of (take i lines)) text → AreLineTexts exact silent parts (lines_of lines) text
texts_all exact silent parts lines i text le h =
    subst (λ z. AreLineTexts exact silent parts (lines_of z) text) (take-all lines i le) h

-- the runs of lines
both-swap : (a : Option ℕ) → both a (Some 0) ≡ both (Some 0) a
both-swap None = refl
both-swap (Some n) = ap Some (let e : n + 0 ≡ 0 + n = omega arith in e)

both-group : (a b c : Option ℕ) → both a (both b c) ≡ both (both a b) c
both-group None b c = refl
both-group (Some m) None c = refl
both-group (Some m) (Some n) None = refl
both-group (Some m) (Some n) (Some k) = ap Some (let e : m + (n + k) ≡ m + n + k = omega arith in e)

runs-pushed : (ls : List Line) (l : Line) → all_runs (ls ++ l ∷ []) ≡ both (all_runs ls) l.count
runs-pushed [] l = both-swap l.count
runs-pushed (x ∷ ls) l = ap (λ z. both x.count z) (runs-pushed ls l) ∙ both-group x.count (all_runs ls) l.count

pub runs_more : (lines : List KeptLine) (i : ℕ) (line : KeptLine) (count sum new : Natural) → i < length lines →
    line ≡ slice_index_or lines i line → line.count ≡ Some count →
    all_runs (lines_of (take i lines)) ≡ Some (natural sum) → natural new ≡ natural sum + natural count →
    all_runs (lines_of (take (i + 1) lines)) ≡ Some (natural new)
runs_more lines i line count sum new lt e c h k =
    let next : i + 1 ≡ suc i = omega arith in
    let same : take (i + 1) lines ≡ take i lines ++ line ∷ [] =
    ap (λ z. take z lines) next ∙ (take-more lines i line lt ∙ ap (λ z. take i lines ++ z ∷ []) (sym e)) in
    ap (λ z. all_runs (lines_of z)) same ∙ (ap all_runs (map-pushed line_of (take i lines) line)
    ∙ (runs-pushed (lines_of (take i lines)) (line_of line)
    ∙ (ap (λ z. both z (option_map natural line.count)) h
    ∙ (ap (λ z. both (Some (natural sum)) (option_map natural z)) c ∙ ap Some (sym k)))))

pub runs_all : (lines : List KeptLine) (i : ℕ) (sum : Option ℕ) → length lines ≤ i →
    all_runs (lines_of (take i lines)) ≡ sum → sum ≡ all_runs (lines_of lines)
runs_all lines i sum le h = sym h ∙ ap (λ z. all_runs (lines_of z)) (take-all lines i le)

both-none : (a : Option ℕ) → both a None ≡ None
both-none None = refl
both-none (Some n) = refl

pub runs_none : (lines : List KeptLine) (i : ℕ) (line : KeptLine) → i < length lines →
    line ≡ slice_index_or lines i line → line.count ≡ None → None ≡ all_runs (lines_of lines)
runs_none [] i line lt e n = absurd (omega (arith, lt))
runs_none (x ∷ lines) zero line lt e n =
    sym (ap (λ z. both (option_map natural z) (all_runs (lines_of lines)))
    (ap (λ (z : KeptLine). z.count) (sym e) ∙ n))
runs_none (x ∷ lines) (suc i) line lt e n =
    sym (ap (λ z. both (option_map natural x.count) z) (sym (runs_none lines i line (omega (arith, lt)) e n))
    ∙ both-none (option_map natural x.count))

pub lines-long : (lines : List KeptLine) → length (lines_of lines) ≡ length lines
lines-long lines = map-long line_of lines
