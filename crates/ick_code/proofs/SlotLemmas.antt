-- Lists of names that get one more.
use Rattle.std.proofs.Common.{◌≡◌, ℕ, suc, ◌<◌, ◌≤◌, Bool, true, false, not, ◌&&◌, ◌||◌, List}
use Rattle.std.proofs.Common.{[], ◌∷◌, ◌++◌, length, map, Option, Some, None, refl, sym, ap, ◌∙◌, subst}
use Rattle.std.proofs.Common.{arith, append_assoc, append-nil, if◌then◌else◌, nat_eq, lt-ltb}
use Rattle.std.specs.Prelude.{filter, slice_get, option_map, unwrap_or, is_some}
use Rattle.std.specs.List.{list_any, list_all, IsDistinct, AllByRecursion}
use Rattle.std.proofs.lemmas.Bool.{eqb-true, ltb-true, not-true}
use Rattle.std.proofs.lemmas.Bool.Decides.{nat_tests}
use Rattle.std.proofs.lemmas.List.{length-map}
use Rattle.std.proofs.lemmas.Map.Keys.{IsDistinct-push}
use Rattle.std.specs.Cmp.{IsEquivalence}
use Rattle.std.specs.Map.{lookup}
use Rattle.std.specs.BTreeMap.{BTreeMap, get, Updates}
use Rattle.std.specs.Ordering.{nat_cmp, is_eq}
use Rattle.std.proofs.lemmas.List.Folds.{list_any-append, list_all-append}
use Rattle.std.proofs.lemmas.Map.Steps.{length-le_from_distinct_below}
use Rattle.ick_syntax.specs.declared.tree.Name.{Name}
use Rattle.ick_code.specs.meaning.State.{same_name}
use Rattle.ick_code.specs.Names.{is_among, each_once, found, slot_in, with_name, rank_of, numbers_of_a_kind, most_names}
use Rattle.ick_code.specs.Names.{is_short}
use Rattle.ick_code.proofs.Bools.{both_left, both_right, same_truth, not_other, neither}
use Rattle.ick_code.proofs.SameNames.{same_name-refl, same_name_is, rank_is, kind_rank-below}

some_mapped : (o : Option ℕ) → is_some (option_map suc o) ≡ is_some o
some_mapped None = refl
some_mapped (Some i) = refl

found_cases : (b : Bool) (o : Option ℕ) (c : Bool) → is_some o ≡ c →
    is_some (if b then Some 0 else option_map suc o) ≡ (b || c)
found_cases true o c e = refl
found_cases false o c e = some_mapped o ∙ e

-- a name is found exactly where it is among the others
pub found-is_some : (names : List Name) (name : Name) → is_some (found names name) ≡ is_among name names
found-is_some [] name = refl
found-is_some (other ∷ names) name =
    found_cases (same_name name other) (found names name) (is_among name names) (found-is_some names name)

stands_next : (other : Name) (names : List Name) (o : Option ℕ) → is_some o ≡ true →
    slice_get (other ∷ names) (unwrap_or (option_map suc o) 0) ≡ slice_get names (unwrap_or o 0)
stands_next other names None e = absurd (cc)
stands_next other names (Some i) e = refl

stands_cases : (name other : Name) (names : List Name) (b : Bool) → (b ≡ true →
    name ≡ other) → (is_among name names ≡ true → slice_get names (slot_in names name) ≡ Some name) →
    (b || is_among name names) ≡ true →
    slice_get (other ∷ names) (unwrap_or (if b then Some 0 else option_map suc (found names name)) 0) ≡ Some name
stands_cases name other names true is rest h = ap (λ n. Some n) (sym (is refl))
stands_cases name other names false is rest h =
    stands_next other names (found names name) (found-is_some names name ∙ h) ∙ rest h

-- where it is found it stands
pub found-stands : (names : List Name) (name : Name) → is_among name names ≡ true →
    slice_get names (slot_in names name) ≡ Some name
found-stands [] name h = absurd (cc)
found-stands (other ∷ names) name h =
    stands_cases name other names (same_name name other) (λ e. same_name_is name other e)
    (λ e. found-stands names name e) h

new_cases : (b c : Bool) (o : Option ℕ) (n : ℕ) → (c ≡ false → o ≡ Some n) → (b || c)
    ≡ false → (if b then Some 0 else option_map suc o) ≡ Some (suc n)
new_cases true c o n rest h = absurd (cc)
new_cases false c o n rest h = ap (option_map suc) (rest h)

pub found-new : (names : List Name) (name : Name) → is_among name names ≡ false →
    found (names ++ name ∷ []) name ≡ Some (length names)
found-new [] name h = ap (λ b. if b then Some 0 else option_map suc (found [] name)) (same_name-refl name)
found-new (other ∷ names) name h =
    new_cases (same_name name other) (is_among name names) (found (names ++ name ∷ []) name) (length names)
    (λ e. found-new names name e) h

pub found-other : (names : List Name) (last name : Name) → same_name name last ≡ false →
    found (names ++ last ∷ []) name ≡ found names name
found-other [] last name h = ap (λ b. if b then Some 0 else option_map suc (found [] name)) h
found-other (other ∷ names) last name h =
    ap (λ o. if same_name name other then Some 0 else option_map suc o) (found-other names last name h)

both_cases : (p : Name → Bool) (name : Name) (qs rs : List Name) (b c d : Bool) →
    p name ≡ c → (b && c) ≡ d → filter p qs ≡ rs →
    filter p (if b then name ∷ qs else qs) ≡ (if d then name ∷ rs else rs)
both_cases p name qs rs true c d is e same =
    ap (λ b. if b then name ∷ filter p qs else filter p qs) (is ∙ e)
    ∙ ap (λ l. if d then name ∷ l else l) same
both_cases p name qs rs false c d is e same = same ∙ ap (λ b. if b then name ∷ rs else rs) e

-- two filters one after another
pub filter-both : (p q r : Name → Bool) → ((name : Name) →
    (q name && p name) ≡ r name) → (names : List Name) → filter p (filter q names) ≡ filter r names
filter-both p q r same [] = refl
filter-both p q r same (name ∷ names) =
    both_cases p name (filter q names) (filter r names) (q name) (p name) (r name) refl (same name)
    (filter-both p q r same names)

filter-all : (p : Name → Bool) → ((name : Name) → p name ≡ true) → (names : List Name) →
    filter p names ≡ names
filter-all p all [] = refl
filter-all p all (name ∷ names) =
    ap (λ b. if b then name ∷ filter p names else filter p names) (all name)
    ∙ ap (λ l. name ∷ l) (filter-all p all names)

-- the names that came, one after another
unfoldable pub added : List Name → List Name → List Name
added names [] = names
added names (name ∷ more) = added (with_name names name) more

same_name-comm : (a b : Name) → same_name a b ≡ same_name b a
same_name-comm a b =
    same_truth (same_name a b) (same_name b a)
    (λ h. subst (λ x. same_name b x ≡ true) (sym (same_name_is a b h)) (same_name-refl b))
    (λ h. subst (λ x. same_name a x ≡ true) (sym (same_name_is b a h)) (same_name-refl a))

-- names that are not among others
abbrev new_to : List Name → Name → Bool
new_to names name = not (is_among name names)

added_cases : (names more : List Name) (name : Name) (b : Bool) → is_among name names ≡ b →
    ((others : List Name) → added others more ≡ others ++ filter (new_to others) (each_once more)) →
    added (if b then names else names ++ name ∷ []) more
    ≡ names ++ filter (new_to names) (name ∷ filter (λ other. not (same_name name other)) (each_once more))
added_cases names more name true is rest =
    rest names
    ∙ ap (λ l. names ++ l) (sym
    (ap (λ b. if not b then name ∷ filter (new_to names)
    (filter (λ other. not (same_name name other)) (each_once more)) else filter (new_to names)
    (filter (λ other. not (same_name name other)) (each_once more))) is
    ∙ filter-both (new_to names) (λ other. not (same_name name other)) (new_to names)
    (λ other. not_other (same_name name other) (is_among other names)
    (λ h. subst (λ x. is_among x names ≡ true) (same_name_is name other h) is)) (each_once more)))
added_cases names more name false is rest =
    rest (names ++ name ∷ [])
    ∙ append_assoc names (name ∷ []) (filter (new_to (names ++ name ∷ [])) (each_once more))
    ∙ ap (λ l. names ++ l)
    (ap (λ l. name ∷ l)
    (sym (filter-both (new_to names) (λ other. not (same_name name other)) (new_to (names ++ name ∷ []))
    (λ other. ap (λ b. not b && not (is_among other names)) (same_name-comm name other)
    ∙ neither (same_name other name) (is_among other names)
    ∙ ap not (sym (list_any-append (same_name other) names (name ∷ [])))) (each_once more)))
    ∙ sym (ap (λ b. if not b then name
    ∷ filter (new_to names) (filter (λ other. not (same_name name other)) (each_once more)) else filter
    (new_to names) (filter (λ other. not (same_name name other)) (each_once more))) is))

-- what came stands at its first place
added-each_once : (names more : List Name) → added names more ≡ names ++ filter (new_to names) (each_once more)
unfolding added
added-each_once names [] = sym (append-nil names)
added-each_once names (name ∷ more) =
    added_cases names more name (is_among name names) refl (λ others. added-each_once others more)

pub added-none : (more : List Name) → added [] more ≡ each_once more
added-none more = added-each_once [] more ∙ filter-all (new_to []) (λ name. refl) (each_once more)

-- names that pass a test are apart where all are
all_filtered : (P : Name → Type 0) (p : Name → Bool) (names : List Name) → AllByRecursion P names →
    AllByRecursion P (filter p names)
all_filtered P p [] h = tt
all_filtered P p (name ∷ names) h = cases (p name) (all_filtered P p names h.1)
  where
    cases : (b : Bool) → AllByRecursion P (filter p names) →
        AllByRecursion P (if b then name ∷ filter p names else filter p names)
    cases true rest = (h.0, rest)
    cases false rest = rest

distinct_filtered : (p : Name → Bool) (names : List Name) → IsDistinct same_name names →
    IsDistinct same_name (filter p names)
unfolding IsDistinct
distinct_filtered p [] h = tt
distinct_filtered p (name ∷ names) h = cases (p name) (distinct_filtered p names h.1)
  where
    cases : (b : Bool) → IsDistinct same_name (filter p names) →
        IsDistinct same_name (if b then name ∷ filter p names else filter p names)
    cases true rest = (all_filtered (λ y. same_name name y ≡ false) p names h.0, rest)
    cases false rest = rest

passing : (p : Name → Bool) (names : List Name) → AllByRecursion (λ name. p name ≡ true) (filter p names)
passing p [] = tt
passing p (name ∷ names) = cases (p name) refl (passing p names)
  where
    cases : (b : Bool) → p name ≡ b → AllByRecursion (λ name. p name ≡ true) (filter p names) →
        AllByRecursion (λ name. p name ≡ true) (if b then name ∷ filter p names else filter p names)
    cases true e rest = (e, rest)
    cases false e rest = rest

all_such : (P Q : Name → Type 0) → ((name : Name) → P name → Q name) → (names : List Name) →
    AllByRecursion P names → AllByRecursion Q names
all_such P Q such [] h = tt
all_such P Q such (name ∷ names) h = (such name h.0, all_such P Q such names h.1)

-- each once means no two alike
pub each_once-distinct : (names : List Name) → IsDistinct same_name (each_once names)
unfolding IsDistinct
each_once-distinct [] = tt
each_once-distinct (name ∷ names) = (
  all_such (λ y. not (same_name name y) ≡ true) (λ y. same_name name y ≡ false)
      (λ y h. not-true (same_name name y) h) _ (passing (λ y. not (same_name name y)) (each_once names)),
  distinct_filtered (λ y. not (same_name name y)) (each_once names) (each_once-distinct names),
)

ranks_apart : (name : Name) (names : List Name) → AllByRecursion (λ y. same_name name y ≡ false) names →
    AllByRecursion (λ r. nat_eq (rank_of name) r ≡ false) (map rank_of names)
ranks_apart name [] h = tt
ranks_apart name (other ∷ names) h = (cases (nat_eq (rank_of name) (rank_of other)) refl, ranks_apart name names h.1)
  where
    cases : (b : Bool) → nat_eq (rank_of name) (rank_of other) ≡ b →
        nat_eq (rank_of name) (rank_of other) ≡ false
    cases true e =
        let same : same_name name other ≡ true =
        subst (λ n. same_name name n ≡ true) (rank_is name other (eqb-true (rank_of name) (rank_of other) e))
        (same_name-refl name) in
        absurd (cc)
    cases false e = e

ranks_distinct : (names : List Name) → IsDistinct same_name names → IsDistinct nat_eq (map rank_of names)
unfolding IsDistinct
ranks_distinct [] h = tt
ranks_distinct (name ∷ names) h = (ranks_apart name names h.0, ranks_distinct names h.1)

ranks_below : (names : List Name) → list_all is_short names ≡ true → (q : ℕ) →
    list_any (nat_eq q) (map rank_of names) ≡ true → q < most_names
ranks_below [] short q h = absurd (cc)
ranks_below (name ∷ names) short q h =
    cases (nat_eq q (rank_of name)) refl h
    (λ e. ranks_below names (both_right (is_short name) (list_all is_short names) short) q e)
  where
    cases : (b : Bool) → nat_eq q (rank_of name) ≡ b → (b || list_any (nat_eq q) (map rank_of names))
        ≡ true → (list_any (nat_eq q) (map rank_of names) ≡ true → q < most_names) → q < most_names
    cases true e h rest =
        let is = eqb-true q (rank_of name) e in
        let low = ltb-true name.number numbers_of_a_kind (both_left (is_short name) (list_all is_short names) short) in
        let kind = kind_rank-below name.kind in
        omega arith
    cases false e h rest = rest h

-- there are no more names than numbers of 18 bits
pub few_names : (names : List Name) → IsDistinct same_name names → list_all is_short names ≡ true →
    length names ≤ most_names
few_names names once short =
    subst (λ n. n ≤ most_names) (length-map names rank_of)
    (length-le_from_distinct_below (map rank_of names) most_names (ranks_distinct names once) (ranks_below names short))

congr_name : (x y z : Name) → same_name x y ≡ true → same_name x z ≡ same_name y z
congr_name x y z h = ap (λ n. same_name n z) (same_name_is x y h)

names_laws : IsEquivalence same_name
names_laws = record { refl = same_name-refl; symm = same_name-comm; congr = congr_name }

pub once_more : (names : List Name) (name : Name) → IsDistinct same_name names → is_among name names ≡ false →
    IsDistinct same_name (names ++ name ∷ [])
once_more names name once new = IsDistinct-push names_laws names name once new

pub short_more : (names : List Name) (name : Name) → list_all is_short names ≡ true →
    name.number < numbers_of_a_kind → list_all is_short (names ++ name ∷ []) ≡ true
short_more names name short low =
    list_all-append is_short names (name ∷ []) ∙ ap (λ b. b && (is_short name && true)) short
    ∙ ap (λ b. b && true) (lt-ltb name.number numbers_of_a_kind low)

nat_cmp-apart : (a b : ℕ) → (a ≡ b → ⊥) → is_eq (nat_cmp a b) ≡ false
nat_cmp-apart a b ne = grind (arith, ne, nat_tests)

-- a map that has the slots of names, and of one more
pub indexed_more : (m n : BTreeMap ℕ ℕ) (names : List Name) (name : Name) (slot : ℕ) →
    ((q : Name) → get nat_cmp m (rank_of q) ≡ found names q) →
    is_some (get nat_cmp m (rank_of name)) ≡ false → slot ≡ length names →
    Updates nat_cmp m n (rank_of name) (Some slot) →
    (q : Name) → get nat_cmp n (rank_of q) ≡ found (names ++ name ∷ []) q
indexed_more m n names name slot index absent last updates q = cases (same_name q name) refl
  where
    new : is_among name names ≡ false
    new = sym (found-is_some names name) ∙ ap is_some (sym (index name)) ∙ absent

    cases : (b : Bool) → same_name q name ≡ b → get nat_cmp n (rank_of q) ≡ found (names ++ name ∷ []) q
    cases true e =
        subst (λ q. get nat_cmp n (rank_of q) ≡ found (names ++ name ∷ []) q) (sym (same_name_is q name e))
        (updates.1 ∙ ap (λ s. Some s) last ∙ sym (found-new names name new))
    cases false e =
        let apart : is_eq (nat_cmp (rank_of name) (rank_of q)) ≡ false =
        nat_cmp-apart (rank_of name) (rank_of q)
        (λ h. let same : same_name q name ≡ true =
        subst (λ x. same_name x name ≡ true) (rank_is name q h) (same_name-refl name) in absurd (cc)) in
        updates.2 (rank_of q) apart ∙ index q ∙ sym (found-other names name q e)

pub index_none : (m : BTreeMap ℕ ℕ) → m.entries ≡ [] → (name : Name) →
    get nat_cmp m (rank_of name) ≡ found [] name
index_none m e name = ap (λ es. lookup (λ k. is_eq (nat_cmp (rank_of name) k)) es) e

pub among_indexed : (m : BTreeMap ℕ ℕ) (names : List Name) (name : Name) (b : Bool) → ((q : Name) →
    get nat_cmp m (rank_of q) ≡ found names q) → is_some (get nat_cmp m (rank_of name)) ≡ b →
    is_among name names ≡ b
among_indexed m names name b index h = sym (found-is_some names name) ∙ ap is_some (sym (index name)) ∙ h

pub with_present : (names : List Name) (name : Name) → is_among name names ≡ true → names ≡ with_name names name
with_present names name h = ap (λ b. if b then names else names ++ name ∷ []) (sym h)

pub with_absent : (names : List Name) (name : Name) → is_among name names ≡ false →
    names ++ name ∷ [] ≡ with_name names name
with_absent names name h = ap (λ b. if b then names else names ++ name ∷ []) (sym h)

pub none_once : (names : List Name) → names ≡ [] → IsDistinct same_name names
none_once names e = subst (IsDistinct same_name) (sym e) (each_once-distinct [])

pub none_short : (names : List Name) → names ≡ [] → list_all is_short names ≡ true
none_short names e = ap (list_all is_short) e
