-- Truth values.
use Rattle.std.proofs.Common.{◌≡◌, Bool, true, false, not, ◌&&◌, ◌||◌, refl, sym, ap}
use Rattle.std.proofs.lemmas.Bool.{and_parts}

pub both_left : (a b : Bool) → (a && b) ≡ true → a ≡ true
both_left a b h = (and_parts a b h).0

pub both_right : (a b : Bool) → (a && b) ≡ true → b ≡ true
both_right a b h = (and_parts a b h).1

pub first_of : (a b c : Bool) → (a && (b && c)) ≡ true → a ≡ true
first_of a b c h = both_left a (b && c) h

pub second_of : (a b c : Bool) → (a && (b && c)) ≡ true → b ≡ true
second_of a b c h = both_left b c (both_right a (b && c) h)

pub third_of : (a b c : Bool) → (a && (b && c)) ≡ true → c ≡ true
third_of a b c h = both_right b c (both_right a (b && c) h)

-- what implies one another is one
pub same_truth : (a b : Bool) → (a ≡ true → b ≡ true) → (b ≡ true → a ≡ true) → a ≡ b
same_truth true b there back = sym (there refl)
same_truth false true there back = back refl
same_truth false false there back = refl

-- not the one goes without saying where the one is the other
pub not_other : (a b : Bool) → (a ≡ true → b ≡ true) → (not a && not b) ≡ not b
not_other true b h = ap not (sym (h refl))
not_other false b h = refl

pub neither : (a b : Bool) → (not a && not b) ≡ not (b || (a || false))
neither true true = refl
neither true false = refl
neither false true = refl
neither false false = refl
