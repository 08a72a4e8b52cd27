-- Marks that are appended one after another.
use Rattle.std.proofs.Common.{◌≡◌, ℕ, suc, ◌+◌, ◌<◌, List, [], ◌∷◌, ◌++◌, length, take, get_or, refl, sym, ap, ◌∙◌, arith, subst}
use Rattle.std.proofs.Math.Seq.{take-suc}
use Rattle.std.proofs.lemmas.List.{append-nil, append_assoc}
use Rattle.ick_places.specs.declared.mark.Mark.{Mark}
use Rattle.ick_places.specs.declared.walker.Walker.{Walker}
use Rattle.ick_places.specs.Walks.{Adds}

pub adds_none : (now : Walker) → Adds now now []
adds_none now = record {
  same_text = refl;
  same_place = refl;
  fine = λ f. f;
  added = λ f. sym (append-nil now.marks.items);
}

pub adds_then : {old mid new : Walker} {ms ns : List Mark} → Adds old mid ms → Adds mid new ns → Adds old new (ms ++ ns)
adds_then {old} {mid} {new} {ms} {ns} p q = record {
  same_text = q.same_text ∙ p.same_text;
  same_place = q.same_place ∙ p.same_place;
  fine = λ f. p.fine (q.fine f);
  added = λ f. q.added f ∙ ap (λ z. z ++ ns) (p.added (q.fine f)) ∙ append_assoc old.marks.items ms ns;
}

pub adds_as : {old new : Walker} {ms ns : List Mark} → ms ≡ ns → Adds old new ms → Adds old new ns
adds_as {old} {new} e p = subst (λ z. Adds old new z) e p

pub taken-more : (xs : List Mark) (n : ℕ) (d : Mark) → n < length xs → take n xs ++ get_or xs n d ∷ [] ≡ take (n + 1) xs
taken-more xs n d low =
    let next : n + 1 ≡ suc n = omega arith in sym (ap (λ k. take k xs) next ∙ take-suc xs n d low)
