-- Pieces that are added one after another.
use Rattle.std.proofs.Common.{◌≡◌, ◌<◌, ◌+◌, Bool, true, false, List, ℕ, ◌++◌, length, ap, refl, ◌∙◌, arith}
use Rattle.std.proofs.Common.{append_assoc, subst, vec_capacity, vec_len, zero, suc, [], ◌∷◌, sym, add-one, get_or, take}
use Rattle.std.specs.List.{flat_map, range_with_len}
use Rattle.std.proofs.lemmas.List.{append-nil, length-append, take_more}
use Rattle.std.proofs.lemmas.Grind.{flat_map-append}
use Rattle.ick_inspect.specs.Text.{Adds}
use Rattle.ick_inspect.specs.declared.text.Text.{Text}

full_after : (a b c : Text) (x y : List ℕ) → Adds a b x → Adds b c y → (r : Bool) → b.refused ≡ r →
    c.refused ≡ true → a.refused ≡ false → vec_capacity a.bytes < vec_len a.bytes + length (x ++ y)
full_after a b c x y p q true r e f = let h = p.full r f in let l = length-append x y in omega arith
full_after a b c x y p q false r e f =
    let h = q.full e r in
    let l = length-append x y in
    let n = ap length (p.bytes r) in
    let m = length-append a.bytes.items x in
    let cap = p.capacity in
    omega (arith, a.bytes.ok.0, b.bytes.ok.0)

pub then : {a b c : Text} {x y : List ℕ} → Adds a b x → Adds b c y → Adds a c (x ++ y)
then {a} {b} {c} {x} {y} p q = record {
  sound = λ e. p.sound (q.sound e);
  bytes =
      λ e. q.bytes e ∙ (ap (λ t. t ++ y) (p.bytes (q.sound e)) ∙ append_assoc a.bytes.items x y);
  full = λ e f. full_after a b c x y p q b.refused refl e f;
  capacity = let u = p.capacity in let v = q.capacity in omega arith;
}

pub same : {a b : Text} {x y : List ℕ} → x ≡ y → Adds a b x → Adds a b y
same {a} {b} e p = subst (λ t. Adds a b t) e p

pub nothing : (a : Text) → Adds a a []
nothing a = record {
  sound = λ e. e;
  bytes = λ e. sym (append-nil a.bytes.items);
  full = λ e f. absurd (cc);
  capacity = omega arith;
}

-- the pieces of one more element
pub pieces_more : {A : Type 0} (f : A → List ℕ) (xs : List A) (x : A) →
    flat_map f (xs ++ x ∷ []) ≡ flat_map f xs ++ f x
pieces_more f xs x = flat_map-append f xs (x ∷ []) ∙ ap (λ t. flat_map f xs ++ t) (append-nil (f x))

pub pieces_taken : {A : Type 0} (f : A → List ℕ) (xs : List A) (k : ℕ) (d : A) → k < length xs →
    flat_map f (take (k + 1) xs) ≡ flat_map f (take k xs) ++ f (get_or xs k d)
pieces_taken f xs k d lt = ap (flat_map f) (take_more xs k d lt) ∙ pieces_more f (take k xs) (get_or xs k d)

counted_more : (a n : ℕ) → range_with_len a (suc n) ≡ range_with_len a n ++ (a + n) ∷ []
counted_more a zero = let same : a ≡ a + 0 = omega arith in ap (λ k. k ∷ []) same
counted_more a (suc n) =
    let same : a + 1 + n ≡ a + suc n = omega arith in
    ap (λ l. a ∷ l) (counted_more (a + 1) n ∙ ap (λ k. range_with_len (a + 1) n ++ k ∷ []) same)

-- one more number
pub range_more : (a n : ℕ) → range_with_len a (n + 1) ≡ range_with_len a n ++ (a + n) ∷ []
range_more a n = rw add-one (counted_more a n)

-- the pieces of one more number, from 1 on
pub numbered_more : (f : ℕ → List ℕ) (n : ℕ) →
    flat_map f (range_with_len 1 (n + 1)) ≡ flat_map f (range_with_len 1 n) ++ f (n + 1)
numbered_more f n =
    let alike : 1 + n ≡ n + 1 = omega arith in
    ap (flat_map f) (range_more 1 n ∙ ap (λ k. range_with_len 1 n ++ k ∷ []) alike)
    ∙ pieces_more f (range_with_len 1 n) (n + 1)
