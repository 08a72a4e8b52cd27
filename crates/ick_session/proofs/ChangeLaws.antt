-- The texts of what has changed.
use Rattle.std.proofs.Common.{◌≡◌, ℕ, ◌++◌, List, Bool, true, false, not, ap, sym, refl, ◌∙◌, arith, codes, length}
use Rattle.std.proofs.Common.{[], ◌∷◌, ◌<◌, ◌+◌, ◌-◌, ◌&&◌, append_assoc, get_or, subst, take, if◌then◌else◌}
use Rattle.std.specs.Prelude.{Result, Ok, Err, OnOk}
use Rattle.std.specs.Prelude.{bytes_eq, decimal, reverse}
use Rattle.std.specs.List.{flat_map, range_with_len}
use Rattle.std.proofs.lemmas.List.{append-nil, get_or-reverse, length-reverse, reverse-reverse}
use Rattle.std.proofs.lemmas.Slice.Eq.{bytes_eq-Decides}
use Rattle.ick_code.specs.declared.code.Code.{Code}
use Rattle.ick_syntax.specs.declared.tree.Name.{Name}
use Rattle.ick_code.specs.Compiled.{IsCompiled, code_program, code_slots}
use Rattle.ick_code.specs.meaning.Move.{advance}
use Rattle.ick_code.specs.meaning.State.{State, statement_at}
use Rattle.ick_backtrack.specs.Machine.{Program}
use Rattle.ick_inspect.specs.Names.{variable_text}
use Rattle.ick_inspect.specs.Summary.{stack_text}
use Rattle.ick_inspect.specs.Text.{numbers_text}
use Rattle.ick_session.specs.Changes.{abstained_text, alike, change_text, changes_text, had_at, moved_line, name_line}
use Rattle.ick_session.specs.Changes.{names_text, newly_line, newly_text, passed_text, printed_text, read_text}
use Rattle.ick_session.specs.Changes.{returned_text, step_text}
use Rattle.ick_session.specs.Laws.{line_of}
use Rattle.ick_session.specs.Targets.{ops_at}
use Rattle.ick_inspect.proofs.AddLaws.{pieces_taken}
use Rattle.ick_session.proofs.StepLaws.{HasPiece, changed_has_piece}

pub newly_is : (word : List ℕ) (s t : State) (n k : ℕ) → t.abstained n ≡ true → s.abstained n ≡ false → k ≡ n →
    word ++ decimal k ++ codes "\n" ≡ newly_line word s t n
newly_is word s t n k is was e = rw (is, was, e) refl

reversed : (xs ys : List ℕ) → reverse xs ≡ reverse ys → xs ≡ ys
reversed xs ys e = sym (reverse-reverse xs) ∙ (ap reverse e ∙ reverse-reverse ys)

other_returns : (s t : State) (xs ys : List ℕ) (b : Bool) → s.returns ≡ reverse xs → t.returns ≡ reverse ys →
    bytes_eq xs ys ≡ false → bytes_eq s.returns t.returns ≡ b → b ≡ false
other_returns s t xs ys false e f differ h = refl
other_returns s t xs ys true e f differ h =
    let same = (bytes_eq-Decides s.returns t.returns).0 h in
    let equal = (bytes_eq-Decides xs ys).1 (reversed xs ys (sym e ∙ (same ∙ f))) in
    absurd (cc)

not_true : (b : Bool) → not b ≡ true → b ≡ false
not_true true e = absurd (cc)
not_true false e = refl

not_false : (b : Bool) → not b ≡ false → b ≡ true
not_false true e = refl
not_false false e = absurd (cc)

pub returned_is : (s t : State) (xs ys : List ℕ) (r : Bool) → s.returns ≡ reverse xs → t.returns ≡ reverse ys →
    r ≡ not (bytes_eq xs ys) → r ≡ true →
    moved_line (reverse xs) (reverse ys) ++ codes "  " ++ stack_text t ≡ returned_text s t
returned_is s t xs ys r e f h is =
    let differ = not_true (bytes_eq xs ys) (sym h ∙ is) in
    rw (other_returns s t xs ys (bytes_eq s.returns t.returns) e f differ refl, e, f) refl

-- one more return address behind a word
pub newest_more : (word addresses : List ℕ) (k : ℕ) → k < length addresses →
    word ++ numbers_text (codes " ") (take k (reverse addresses))
    ++ (codes " " ++ decimal (get_or addresses (length addresses - 1 - k) 0))
    ≡ word ++ numbers_text (codes " ") (take (k + 1) (reverse addresses))
unfolding numbers_text
newest_more word addresses k low =
    let long = length-reverse addresses in
    append_assoc word (numbers_text (codes " ") (take k (reverse addresses))) _
    ∙ ap (λ t. word ++ t) (sym (pieces_taken (λ n. codes " " ++ decimal n) (reverse addresses) k 0 (omega arith)
    ∙ ap (λ n. numbers_text (codes " ") (take k (reverse addresses)) ++ (codes " " ++ decimal n))
    (get_or-reverse addresses k 0 low)))

pub none_newest : (word addresses : List ℕ) → word ≡ word ++ numbers_text (codes " ") (take 0 addresses)
unfolding numbers_text
none_newest word addresses = sym (append-nil word)

pub none_returned : (s t : State) (xs ys : List ℕ) (r : Bool) → s.returns ≡ reverse xs → t.returns ≡ reverse ys →
    r ≡ not (bytes_eq xs ys) → r ≡ false → [] ≡ returned_text s t
none_returned s t xs ys r e f h is =
    let equal = (bytes_eq-Decides xs ys).0 (not_false (bytes_eq xs ys) (sym h ∙ is)) in
    let both = (bytes_eq-Decides s.returns t.returns).1 (e ∙ (ap reverse equal ∙ sym f)) in
    rw both refl

pub abstained_is : (s t : State) (n a b : ℕ) → a ≡ n → b ≡ n →
    newly_text (codes "  abstains from ") s t a ++ newly_text (codes "  reinstates ") t s b ≡ abstained_text n s t
abstained_is s t n a b e f = rw (e, f) refl

no_line : (line : List ℕ) (b c : Bool) → b ≡ c → (if b && not c then line else []) ≡ []
no_line line true true e = refl
no_line line true false e = absurd (cc)
no_line line false c e = refl

no_pieces : (f : ℕ → List ℕ) → ((n : ℕ) → f n ≡ []) → (ns : List ℕ) → flat_map f ns ≡ []
no_pieces f none [] = refl
no_pieces f none (n ∷ ns) = ap (λ l. l ++ flat_map f ns) (none n) ∙ no_pieces f none ns

no_newly : (word : List ℕ) (s t : State) (count : ℕ) → t.abstained ≡ s.abstained → newly_text word s t count ≡ []
no_newly word s t count same =
    no_pieces (newly_line word s t)
    (λ n. no_line (word ++ decimal n ++ codes "\n") (t.abstained n) (s.abstained n) (ap (λ flags. flags n) same))
    (range_with_len 1 count)

pub none_newly : (s t : State) (count : ℕ) → t.abstained ≡ s.abstained → [] ≡ abstained_text count s t
none_newly s t count same =
    sym (ap (λ l. l ++ newly_text (codes "  reinstates ") t s count)
    (no_newly (codes "  abstains from ") s t count same)
    ∙ no_newly (codes "  reinstates ") t s count (sym same))

pub printed_same : (s t : State) (xs : List ℕ) → s.output ≡ xs →
    printed_text (length xs) t ≡ printed_text (length s.output) t
printed_same s t xs e = ap (λ l. printed_text (length l) t) (sym e)

pub changes_same : (code : Code) (n : ℕ) (s t u v : State) → u ≡ s → v ≡ t → u.place ≡ n →
    changes_text code n u v ≡ changes_text code s.place s t
changes_same code n s t u v e f h =
    let m : n ≡ s.place = sym h ∙ ap (λ w. w.place) e in
    rw (e, f, m) refl

pub on_ok : {A E P : Type 0} (r : Result A E) → P → OnOk r P
on_ok (Ok x) h = h
on_ok (Err e) h = tt

pub change_is : (changed : Bool) (n k : ℕ) → changed ≡ true → k ≡ n →
    codes ", changed by statement " ++ decimal k ≡ change_text changed n
change_is changed n k is e = rw (is, e) refl

pub no_change : (changed : Bool) (n : ℕ) → changed ≡ false → [] ≡ change_text changed n
no_change changed n is = rw is refl

-- the piece of a text is in a longer one
within : (front back text piece whole : List ℕ) → HasPiece text piece → whole ≡ front ++ text ++ back →
    HasPiece whole piece
within front back text piece whole h e = record {
  front = front ++ h.front;
  back = h.back ++ back;
  text_is = e ∙ (ap (λ l. front ++ l ++ back) h.text_is
      ∙ (ap (λ l. front ++ l ++ back) (append_assoc h.front piece h.back)
      ∙ (ap (λ l. l ++ back) (sym (append_assoc front h.front (piece ++ h.back)))
      ∙ (append_assoc (front ++ h.front) (piece ++ h.back) back
      ∙ (ap (λ l. front ++ h.front ++ l) (append_assoc piece h.back back)
      ∙ sym (append_assoc (front ++ h.front) piece (h.back ++ back)))))));
}

-- the line of a name that isn't as before
line_is : (s t : State) (name : Name) → alike (had_at s name) (had_at t name) ≡ false →
    name_line s t name ≡ line_of name t
line_is s t name differs =
    ap (λ b. if b then [] else codes "  " ++ variable_text t name ++ codes "\n") differs

whole_text : (a b c d e f : List ℕ) → a ++ (b ++ c ++ d ++ e ++ f) ≡ a ++ b ++ c ++ (d ++ e ++ f)
whole_text a b c d e f =
    ap (λ l. a ++ l) (ap (λ l. l ++ f) (append_assoc (b ++ c) d e) ∙ append_assoc (b ++ c) (d ++ e) f)
    ∙ (ap (λ l. a ++ l) (append_assoc b c (d ++ e ++ f)) ∙ (sym (append_assoc a b (c ++ (d ++ e ++ f)))
    ∙ sym (append_assoc (a ++ b) c (d ++ e ++ f))))

pub change_shown : (p : Program) (code : Code) (s : State) (chosen : Bool) (name : Name) → IsCompiled p code →
    alike (had_at s name) (had_at (advance p s chosen) name) ≡ false →
    HasPiece (step_text p code s chosen) (line_of name (advance p s chosen))
change_shown p code s chosen name is differs =
    let t = advance p s chosen in
    let ops = ops_at code s.place in
    let names = names_text (code_slots code) ops s t in
    subst (λ piece. HasPiece (step_text p code s chosen) piece) (line_is s t name differs)
    (within (passed_text (statement_at p s.place) s chosen ++ read_text s t)
    (abstained_text (length (code_program code)) s t ++ returned_text s t ++ printed_text (length s.output) t)
    names (name_line s t name) (step_text p code s chosen)
    (changed_has_piece (name_line s t) p code s chosen name is differs)
    (whole_text (passed_text (statement_at p s.place) s chosen) (read_text s t) names
    (abstained_text (length (code_program code)) s t) (returned_text s t) (printed_text (length s.output) t)))
