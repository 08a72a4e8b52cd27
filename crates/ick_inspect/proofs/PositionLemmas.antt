-- Positions, byte by byte.
use Rattle.std.proofs.Common.{Some, zero, drop, map, append_assoc, ◌⊎◌, inl, inr, ◌≡◌, ℕ, suc, ◌+◌, ◌<◌}
use Rattle.std.proofs.Common.{◌≤◌, Bool, true, false, List, [], ◌∷◌, ◌++◌, length, ap, sym, refl, ◌∙◌, arith, take}
use Rattle.std.proofs.Common.{get_or, subst}
use Rattle.std.specs.Prelude.{option_map, if◌then◌else◌, reverse, not, slice_index}
use Rattle.std.specs.List.{count_by, take_while}
use Rattle.std.proofs.lemmas.Bool.{cases_lt}
use Rattle.std.proofs.lemmas.List.{drop_all, append-nil, length-append, take_more, reverse-append, length-reverse}
use Rattle.std.proofs.lemmas.List.{length-take}
use Rattle.std.proofs.lemmas.List.Sums.{count_by-le-length, count_by_more_yes, count_by_more_no, take_while-cons}
use Rattle.ick_inspect.specs.declared.positions.LineColumn.{LineColumn}
use Rattle.ick_bits.specs.White.{is_white_byte}
use Rattle.ick_syntax.specs.StatementTree.{StatementTree}
use Rattle.ick_code.specs.meaning.State.{statement_at}
use Rattle.ick_inspect.specs.Positions.{AreAt, texts_of, no_text, text_then, BeginsAt, ends_line, position_in}
use Rattle.ick_inspect.specs.Positions.{position_behind}

abbrev line_bytes : ℕ → Bool
line_bytes b = not (ends_line b)

back_more : (source : List ℕ) (at : ℕ) → at < length source →
    reverse (take (at + 1) source) ≡ get_or source at 0 ∷ reverse (take at source)
back_more source at h =
    ap reverse (take_more source at 0 h) ∙ reverse-append (take at source) (get_or source at 0 ∷ [])

abbrev made : ℕ → ℕ → LineColumn
made line column = record { line = line; column = column }

alike : {l m c d : ℕ} → l ≡ m → c ≡ d → made l c ≡ made m d
alike {l} {m} {c} {d} e f = ap (λ n. made n c) e ∙ ap (made m) f

while-ends : (x : ℕ) (xs : List ℕ) → ends_line x ≡ true → take_while line_bytes (x ∷ xs) ≡ []
while-ends x xs e =
    take_while-cons line_bytes x xs ∙ ap (λ b. if not b then x ∷ take_while line_bytes xs else []) e

while-goes : (x : ℕ) (xs : List ℕ) → ends_line x ≡ false →
    take_while line_bytes (x ∷ xs) ≡ x ∷ take_while line_bytes xs
while-goes x xs e =
    take_while-cons line_bytes x xs ∙ ap (λ b. if not b then x ∷ take_while line_bytes xs else []) e

pub position_more : (source : List ℕ) (at : ℕ) → at < length source →
    position_in source (at + 1) ≡ position_behind (position_in source at) (get_or source at 0)
unfolding position_in position_behind
position_more source at h = cases (ends_line (get_or source at 0)) refl
  where
    x : ℕ
    x = get_or source at 0

    back : List ℕ
    back = reverse (take at source)

    cases : (b : Bool) → ends_line x ≡ b →
        made (suc (count_by ends_line (take (at + 1) source)))
        (suc (length (take_while line_bytes (reverse (take (at + 1) source)))))
        ≡ (if ends_line x then made (suc (count_by ends_line (take at source)) + 1) 1
        else made (suc (count_by ends_line (take at source))) (suc (length (take_while line_bytes back)) + 1))
    cases true e = rw e (alike
        (omega (arith, count_by_more_yes ends_line source at 0 h e))
        (ap (λ t. suc (length (take_while line_bytes t))) (back_more source at h)
        ∙ ap (λ t. suc (length t)) (while-ends x back e)))
    cases false e = rw e (alike
        (ap suc (count_by_more_no ends_line source at 0 h e))
        (ap (λ t. suc (length (take_while line_bytes t))) (back_more source at h)
        ∙ (ap (λ t. suc (length t)) (while-goes x back e) ∙ omega arith)))

-- a line and a column are at most one more than the position
while-short : (xs : List ℕ) → length (take_while line_bytes xs) ≤ length xs
while-short [] = omega arith
while-short (x ∷ xs) = cases (line_bytes x) refl (while-short xs)
  where
    cases : (b : Bool) → line_bytes x ≡ b → length (take_while line_bytes xs) ≤ length xs →
        length (take_while line_bytes (x ∷ xs)) ≤ suc (length xs)
    cases true e rest = rw (take_while-cons line_bytes x xs, e) (omega arith)
    cases false e rest = rw (take_while-cons line_bytes x xs, e) (omega arith)

pub line_bound : (source : List ℕ) (at : ℕ) → at ≤ length source → (position_in source at).line ≤ at + 1
unfolding position_in
line_bound source at h =
    let n = count_by-le-length ends_line (take at source) in let l = length-take at source in omega arith

pub column_bound : (source : List ℕ) (at : ℕ) → at ≤ length source → (position_in source at).column ≤ at + 1
unfolding position_in
column_bound source at h =
    let n = while-short (reverse (take at source)) in
    let r = length-reverse (take at source) in
    let l = length-take at source in
    omega arith

-- positions of the texts behind one
rest_of : {source : List ℕ} {from : ℕ} {text : List ℕ} {texts : List (List ℕ)} {starts : List ℕ} →
    AreAt source from (text ∷ texts) starts →
    (at : ℕ) × (rest : List ℕ) × (starts ≡ at ∷ rest) × (from ≤ at)
    × ((k : ℕ) → from ≤ k → k < at → is_white_byte (slice_index source k) ≡ true)
    × BeginsAt source at text × AreAt source (at + length text) texts rest
rest_of (text_then {from} {at} {text} {texts} {starts} le white begins rest) =
    (at, starts, refl, le, white, begins, rest)

-- white bytes end at one position alone
white_end : (source : List ℕ) (from a b : ℕ) → from ≤ a → from ≤ b →
    ((k : ℕ) → from ≤ k → k < a → is_white_byte (slice_index source k) ≡ true) →
    ((k : ℕ) → from ≤ k → k < b → is_white_byte (slice_index source k) ≡ true) →
    (a < length source → is_white_byte (slice_index source a) ≡ false) →
    b < length source → is_white_byte (slice_index source b) ≡ false → a ≡ b
white_end source from a b la lb wa wb sa inb sb = cases (cases_lt a b) (cases_lt b a)
  where
    cases : (a < b) ⊎ (b ≤ a) → (b < a) ⊎ (a ≤ b) → a ≡ b
    cases (inl lt) _ = let t = wb a la lt in let f = sa (omega arith) in absurd (cc)
    cases (inr ge) (inl lt) = let t = wa b lb lt in absurd (cc)
    cases (inr ge) (inr le) = omega arith

-- the positions that were found are those of the first texts, and the others begin from here on
pub record Goes (source : List ℕ) (texts : List (List ℕ)) (k at : ℕ) (found : List LineColumn) : Type 0 where
  pub count : length found ≡ k
  pub others : (starts : List ℕ) → AreAt source 0 texts starts →
      (left : List ℕ) × AreAt source at (drop k texts) left
      × (map (position_in source) starts ≡ found ++ map (position_in source) left)

pub goes_first : (source : List ℕ) (texts : List (List ℕ)) → Goes source texts 0 0 []
goes_first source texts = record { count = refl; others = λ starts are. (starts, are, refl) }

-- the white bytes from a position on end here
pub record EndsWhite (source : List ℕ) (from to : ℕ) : Type 0 where
  pub order : from ≤ to
  pub within : to ≤ length source
  pub white : (k : ℕ) → from ≤ k → k < to → is_white_byte (slice_index source k) ≡ true
  pub solid : to < length source → is_white_byte (slice_index source to) ≡ false

pub goes_more : (source : List ℕ) (texts : List (List ℕ)) (k at start end : ℕ) (found : List LineColumn) (text : List ℕ) →
    Goes source texts k at found → drop k texts ≡ text ∷ drop (k + 1) texts → EndsWhite source at start →
    (start + length text ≤ length source → end ≡ start + length text) →
    Goes source texts (k + 1) end (found ++ position_in source start ∷ [])
goes_more source texts k at start end found text goes next white stops = record {
  count = length-append found (position_in source start ∷ []) ∙ ap (λ n. n + 1) goes.count;
  others = λ starts are. step starts (goes.others starts are);
}
  where
    P : ℕ → LineColumn
    P = position_in source

    more : (starts left : List ℕ) → map P starts ≡ found ++ map P left → (at' : ℕ) (rest : List ℕ) →
        left ≡ at' ∷ rest → at ≤ at' →
        ((j : ℕ) → at ≤ j → j < at' → is_white_byte (slice_index source j) ≡ true) →
        BeginsAt source at' text → AreAt source (at' + length text) (drop (k + 1) texts) rest →
        (left : List ℕ) × AreAt source end (drop (k + 1) texts) left
        × (map P starts ≡ (found ++ P start ∷ []) ++ map P left)
    more starts left e at' rest is le w begins others =
        let some = begins.some in
        let within = begins.within in
        let same : start ≡ at' =
        white_end source at start at' white.order le white.white w white.solid (omega arith) begins.solid in
        let ends : end ≡ at' + length text = stops (omega arith) ∙ omega arith in (
          rest,
          subst (λ from. AreAt source from (drop (k + 1) texts) rest) (sym ends) others,
          e ∙ (ap (λ xs. found ++ map P xs) is ∙ (ap (λ x. found ++ P x ∷ map P rest) (sym same)
              ∙ sym (append_assoc found (P start ∷ []) (map P rest)))),
        )

    step : (starts : List ℕ) →
        ((left : List ℕ) × AreAt source at (drop k texts) left × (map P starts ≡ found ++ map P left)) →
        (left : List ℕ) × AreAt source end (drop (k + 1) texts) left
        × (map P starts ≡ (found ++ P start ∷ []) ++ map P left)
    step starts (left, are, e) = from_parts (rest_of (subst (λ ts. AreAt source at ts left) next are))
      where
        from_parts : ((at' : ℕ) × (rest : List ℕ) × (left ≡ at' ∷ rest) × (at ≤ at')
            × ((j : ℕ) → at ≤ j → j < at' → is_white_byte (slice_index source j) ≡ true)
            × BeginsAt source at' text × AreAt source (at' + length text) (drop (k + 1) texts) rest) →
            (left : List ℕ) × AreAt source end (drop (k + 1) texts) left
            × (map P starts ≡ (found ++ P start ∷ []) ++ map P left)
        from_parts (at', rest, is, le, w, begins, others) =
            more starts left e at' rest is le w begins others

no_start : {source : List ℕ} {from : ℕ} {starts : List ℕ} → AreAt source from [] starts → starts ≡ []
no_start no_text = refl

pub goes_last : (source : List ℕ) (texts : List (List ℕ)) (k at : ℕ) (found : List LineColumn) → k ≡ length texts →
    Goes source texts k at found → (starts : List ℕ) → AreAt source 0 texts starts →
    found ≡ map (position_in source) starts
goes_last source texts k at found all goes starts are = cases (goes.others starts are)
  where
    cases : ((left : List ℕ) × AreAt source at (drop k texts) left
        × (map (position_in source) starts ≡ found ++ map (position_in source) left)) →
        found ≡ map (position_in source) starts
    cases (left, others, e) =
        let past : drop k texts ≡ [] = drop_all k texts (omega arith) in
        let none = no_start (subst (λ ts. AreAt source at ts left) past others) in
        sym (e ∙ (ap (λ xs. found ++ map (position_in source) xs) none ∙ append-nil found))

-- the text behind those of the first statements
pub next_text : (program : List StatementTree) (k : ℕ) (text : List ℕ) →
    option_map (λ statement. statement.text) (statement_at program (suc k)) ≡ Some text →
    drop k (texts_of program) ≡ text ∷ drop (suc k) (texts_of program)
next_text [] k text e = cc
next_text (statement ∷ program) zero text e = let h : statement.text ≡ text = cc in ap (λ t. t ∷ texts_of program) h
next_text (statement ∷ program) (suc k) text e = next_text program k text e

pub starts_once : {source : List ℕ} {from : ℕ} {texts : List (List ℕ)} {a b : List ℕ} →
    AreAt source from texts a → AreAt source from texts b → a ≡ b
starts_once no_text others = sym (no_start others)
starts_once {source} (text_then {from} {at} {text} {texts} {starts} le white begins rest) others =
    step (λ c left. starts_once rest left) (rest_of others)
  where
    cons : {x y : ℕ} {xs ys zs : List ℕ} → x ≡ y → xs ≡ ys → zs ≡ y ∷ ys → x ∷ xs ≡ zs
    cons e f g = cc

    step : {b : List ℕ} → ((c : List ℕ) → AreAt source (at + length text) texts c → starts ≡ c) →
        ((at' : ℕ) × (rest : List ℕ) × (b ≡ at' ∷ rest) × (from ≤ at')
        × ((k : ℕ) → from ≤ k → k < at' → is_white_byte (slice_index source k) ≡ true)
        × BeginsAt source at' text × AreAt source (at' + length text) texts rest) → at ∷ starts ≡ b
    step once (y, ys, is, low, white_too, begin, left) =
        let sx = begins.some in
        let ix = begins.within in
        let sy = begin.some in
        let iy = begin.within in
        let same : at ≡ y =
        white_end source from at y le low white white_too (λ h. begins.solid) (omega arith) begin.solid in
        cons same (once ys (subst (λ p. AreAt source (p + length text) texts ys) (sym same) left)) is
