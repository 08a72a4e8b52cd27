-- Proves laws of choices that are packed.
use Prim.Native.Nat.{zero, suc}
use Rattle.std.proofs.Common.{◌≡◌, ℕ, ◌+◌, ◌*◌, ◌/◌, ◌%◌, ◌<◌, ◌≤◌, Bool, true, false, length, take, List, [], ◌∷◌}
use Rattle.std.proofs.Common.{◌++◌, refl, ap, sym, ◌∙◌, arith, subst, slice_index_or, append-nil}
use Rattle.ick_explorer.specs.Order.{IsBelow}
use Rattle.ick_outcomes.specs.Packed.{bit, bits, unpacked, IsEarlier}
use Rattle.ick_outcomes.specs.Tallies.{lesser}
use Rattle.ick_outcomes.proofs.Ends.{lesser-flip}
use Rattle.ick_outcomes.proofs.Lists.{take-more, take-all}
use Rattle.ick_outcomes.proofs.PlaceByPlace.{lesser-before}

pub bit_on : (n : ℕ) → (n ≡ 0 → ⊥) → true ≡ bit n
bit_on zero h = absurd (h refl)
bit_on (suc n) h = refl

pub bit_off : (n : ℕ) → n ≡ 0 → false ≡ bit n
bit_off n h = ap bit (sym h)

pub bit_one : (w r : ℕ) (done : Bool) → done ≡ true → r ≡ w * 2 + 1 → bit (r % 2) ≡ done
bit_one w r done e f =
    let o : (w * 2 + 1) % 2 ≡ 1 = omega arith in
    ap (λ z. bit (z % 2)) f ∙ (ap bit o ∙ sym e)

pub bit_zero : (w r : ℕ) (done : Bool) → done ≡ false → r ≡ w * 2 → bit (r % 2) ≡ done
bit_zero w r done e f =
    let o : (w * 2) % 2 ≡ 0 = omega arith in
    ap (λ z. bit (z % 2)) f ∙ (ap bit o ∙ sym e)

-- a number and the choices of its half are packed
pub bits_more : (n w r : ℕ) (b : Bool) (bs : List Bool) → r / 2 ≡ w → bit (r % 2) ≡ b → bits n w ≡ bs →
    bits (suc n) r ≡ b ∷ bs
bits_more n w r b bs h o e =
    ap (λ z. z ∷ bits n (r / 2)) o ∙ ap (λ z. b ∷ z) (ap (bits n) h ∙ e)

pub eight : (bs : List Bool) (d : Bool) → length bs ≡ 8 →
    slice_index_or bs 0 d ∷ slice_index_or bs 1 d ∷ slice_index_or bs 2 d ∷ slice_index_or bs 3 d
    ∷ slice_index_or bs 4 d ∷ slice_index_or bs 5 d ∷ slice_index_or bs 6 d ∷ slice_index_or bs 7 d ∷ [] ≡ bs
eight (a ∷ b ∷ c ∷ e ∷ f ∷ g ∷ h ∷ i ∷ []) d l = refl
eight (a ∷ b ∷ c ∷ e ∷ f ∷ g ∷ h ∷ i ∷ j ∷ bs) d l = absurd (omega (arith, l))
eight (a ∷ b ∷ c ∷ e ∷ f ∷ g ∷ h ∷ []) d l = absurd (omega (arith, l))
eight (a ∷ b ∷ c ∷ e ∷ f ∷ g ∷ []) d l = absurd (omega (arith, l))
eight (a ∷ b ∷ c ∷ e ∷ f ∷ []) d l = absurd (omega (arith, l))
eight (a ∷ b ∷ c ∷ e ∷ []) d l = absurd (omega (arith, l))
eight (a ∷ b ∷ c ∷ []) d l = absurd (omega (arith, l))
eight (a ∷ b ∷ []) d l = absurd (omega (arith, l))
eight (a ∷ []) d l = absurd (omega (arith, l))
eight [] d l = absurd (omega (arith, l))

unpacked-more : (ws : List ℕ) (l m : List Bool) → unpacked ws (l ++ m) ≡ unpacked ws l ++ m
unpacked-more [] l m = refl
unpacked-more (w ∷ ws) l m = ap (λ z. bits 8 w ++ z) (unpacked-more ws l m)

unpacked-push : (ws : List ℕ) (w : ℕ) (l : List Bool) → unpacked (ws ++ w ∷ []) l ≡ unpacked ws (bits 8 w ++ l)
unpacked-push [] w l = refl
unpacked-push (v ∷ ws) w l = ap (λ z. bits 8 v ++ z) (unpacked-push ws w l)

pub pushed_last : (ws : List ℕ) (l m : List Bool) (d : Bool) → m ≡ l ++ d ∷ [] →
    unpacked ws m ≡ unpacked ws l ++ d ∷ []
pushed_last ws l m d e = ap (unpacked ws) e ∙ unpacked-more ws l (d ∷ [])

pub pushed_byte : (ws vs : List ℕ) (w : ℕ) (l m none : List Bool) (d : Bool) → m ≡ l ++ d ∷ [] → bits 8 w ≡ m →
    vs ≡ ws ++ w ∷ [] → none ≡ [] → unpacked vs none ≡ unpacked ws l ++ d ∷ []
pushed_byte ws vs w l m none d e p v n =
    ap (λ z. unpacked z none) v ∙ (ap (unpacked (ws ++ w ∷ [])) n ∙ (unpacked-push ws w []
    ∙ (ap (unpacked ws) p ∙ pushed_last ws l m d e)))

pub byte_more : (ws xs : List ℕ) (i d : ℕ) (l m b : List Bool) → i < length ws → xs ≡ ws →
    l ≡ unpacked (take i ws) [] → b ≡ bits 8 (slice_index_or xs i d) → m ≡ l ++ b →
    m ≡ unpacked (take (i + 1) ws) []
byte_more ws xs i d l m b lt x e g f =
    let w = slice_index_or ws i d in
    let n : suc i ≡ i + 1 = omega arith in
    f ∙ (ap (λ z. l ++ z) (g ∙ ap (λ z. bits 8 (slice_index_or z i d)) x)
    ∙ (ap (λ z. z ++ bits 8 w) e ∙ (sym (unpacked-more (take i ws) [] (bits 8 w))
    ∙ (sym (unpacked-push (take i ws) w [])
    ∙ (ap (λ z. unpacked z []) (sym (take-more ws i d lt)) ∙ ap (λ k. unpacked (take k ws) []) n)))))

pub bytes_all : (ws : List ℕ) (i : ℕ) (l last all : List Bool) → length ws ≤ i → l ≡ unpacked (take i ws) [] →
    all ≡ l ++ last → all ≡ unpacked ws last
bytes_all ws i l last all n e f =
    f ∙ (ap (λ z. z ++ last) (e ∙ ap (λ z. unpacked z []) (take-all ws i n)) ∙ sym (unpacked-more ws [] last))

below-more : (a b c d : List Bool) → IsBelow a b → IsBelow (a ++ c) (b ++ d)
below-more [] b c d h = absurd h
below-more (x ∷ a) [] c d h = absurd h
below-more (false ∷ a) (true ∷ b) c d h = tt
below-more (true ∷ a) (false ∷ b) c d h = absurd h
below-more (false ∷ a) (false ∷ b) c d h = below-more a b c d h
below-more (true ∷ a) (true ∷ b) c d h = below-more a b c d h

below-front : (p a b : List Bool) → IsBelow a b → IsBelow (p ++ a) (p ++ b)
below-front [] a b h = h
below-front (false ∷ p) a b h = below-front p a b h
below-front (true ∷ p) a b h = below-front p a b h

-- the choices of the byte at an index, or those behind the bytes
abbrev pub part : List ℕ → List Bool → ℕ → List Bool
part [] l i = l
part (w ∷ ws) l zero = bits 8 w
part (w ∷ ws) l (suc i) = part ws l i

part-in : (ws : List ℕ) (l : List Bool) (i d : ℕ) → i < length ws → bits 8 (slice_index_or ws i d) ≡ part ws l i
part-in [] l i d lt = absurd (omega (arith, lt))
part-in (w ∷ ws) l zero d lt = refl
part-in (w ∷ ws) l (suc i) d lt = part-in ws l i d (omega (arith, lt))

pub part_in : (ws xs : List ℕ) (l : List Bool) (i d : ℕ) (a : List Bool) → i < length ws → xs ≡ ws →
    a ≡ bits 8 (slice_index_or xs i d) → a ≡ part ws l i
part_in ws xs l i d a lt x e = e ∙ (ap (λ z. bits 8 (slice_index_or z i d)) x ∙ part-in ws l i d lt)

pub part_out : (ws : List ℕ) (l : List Bool) (i : ℕ) (a : List Bool) → length ws ≤ i → a ≡ l → a ≡ part ws l i
part_out [] l i a n e = e
part_out (w ∷ ws) l zero a n e = absurd (omega (arith, n))
part_out (w ∷ ws) l (suc i) a n e = part_out ws l i a (omega (arith, n)) e

part-below : (ws vs : List ℕ) (l m : List Bool) (i : ℕ) → take i ws ≡ take i vs → i ≤ length ws → i ≤ length vs →
    IsBelow (part ws l i) (part vs m i) → IsBelow (unpacked ws l) (unpacked vs m)
part-below [] [] l m i e u v h = h
part-below [] (y ∷ vs) l m zero e u v h = subst (λ z. IsBelow z (unpacked (y ∷ vs) m)) (append-nil l)
    (below-more l (bits 8 y) [] (unpacked vs m) h)
part-below [] (y ∷ vs) l m (suc i) e u v h = absurd (omega (arith, u))
part-below (w ∷ ws) [] l m zero e u v h = subst (λ z. IsBelow (unpacked (w ∷ ws) l) z) (append-nil m)
    (below-more (bits 8 w) m (unpacked ws l) [] h)
part-below (w ∷ ws) [] l m (suc i) e u v h = absurd (omega (arith, v))
part-below (w ∷ ws) (y ∷ vs) l m zero e u v h = below-more (bits 8 w) (bits 8 y) (unpacked ws l) (unpacked vs m) h
part-below (w ∷ ws) (y ∷ vs) l m (suc i) e u v h =
    let same : w ≡ y = cc in
    let rest : take i ws ≡ take i vs = cc in
    subst (λ z. IsBelow (unpacked (w ∷ ws) l) (bits 8 z ++ unpacked vs m)) same
    (below-front (bits 8 w) (unpacked ws l) (unpacked vs m)
    (part-below ws vs l m i rest (omega (arith, u)) (omega (arith, v)) h))

pub below_behind : (ws vs : List ℕ) (l m : List Bool) (i : ℕ) (a b : List Bool) → take i ws ≡ take i vs →
    i ≤ length ws → i ≤ length vs → a ≡ part ws l i → b ≡ part vs m i → IsBelow a b →
    IsBelow (unpacked ws l) (unpacked vs m)
below_behind ws vs l m i a b e u v p q h =
    part-below ws vs l m i e u v (subst (λ z. IsBelow z (part vs m i)) p (subst (λ z. IsBelow a z) q h))

pub lesser_earlier : (c d : List Bool) (kept : Bool) → IsEarlier c d kept → kept ≡ true → lesser c d ≡ c
lesser_earlier c d true h e = lesser-before c d h
lesser_earlier c d false h e = cc

pub lesser_later : (c d : List Bool) (kept : Bool) → IsEarlier c d kept → kept ≡ false → lesser c d ≡ d
lesser_later c d false h e = lesser-flip c d h
lesser_later c d true h e = cc
