-- Walks over characters, words and numbers.
use Rattle.std.proofs.Common.{◌≡◌, ℕ, ◌<◌, false, List, [], ◌∷◌, length, Some, None}
use Rattle.std.proofs.Common.{refl, sym, ap, subst, ◌∙◌, arith}
use Rattle.std.proofs.lemmas.List.{append-nil}
use Rattle.ick_places.specs.declared.mark.Mark.{Mark}
use Rattle.ick_places.specs.declared.walker.Walker.{Walker}
use Rattle.ick_places.specs.Expressions.{operator_marks}
use Rattle.ick_places.specs.declared.mark.Part.TheVariants.{Operator}
use Rattle.ick_places.specs.Marks.{mark}
use Rattle.ick_places.specs.Walks.{left, Keeps, Adds, Walks}
use Rattle.ick_places.proofs.WalkLemmas.{keeps_same, walks_yields, walks_by, walks_then, walks_next, walks_adds, next-is}
use Rattle.ick_source.specs.declared.lead.Lead.{Lead}
use Rattle.ick_source.specs.declared.lead.Lead.TheVariants.{Spot, Array, Hash, Group, Unary, Binary, Other}
use Rattle.ick_syntax.specs.declared.tree.UnaryOp.{UnaryOp}
use Rattle.ick_source.specs.Expression.{unaries, unary_by}
use Rattle.ick_source.specs.Grammar.{Grammar, sign, word, number, next, yields, stands, past_word}
use Rattle.ick_source.specs.Position.{left_at, next_lead, past_lead, past_white}
use Rattle.ick_source.specs.Token.{IsNumber}
use Rattle.ick_source.proofs.GrammarLaws.{one_stands, word-found}
use Rattle.ick_source.proofs.TokenShorter.{length-past_lead, number-shorter}
use Rattle.ick_source.proofs.SequenceFound.{word-within}

-- a walk that marks nothing
plainly : {A : Type 0} (g : Grammar A) (old new : Walker) → Keeps old new →
    (new.refused ≡ false → new.marks.items ≡ old.marks.items) →
    ((to : List ℕ) (x : A) → stands g (left old) to x → left new ≡ to) → Walks g old new []
plainly g old new k same goes = record {
  keeps = k;
  goes = goes;
  added = λ to x p f. same f ∙ sym (append-nil old.marks.items);
}

pub signs : (old new : Walker) → new.text ≡ old.text → (new.refused ≡ false → old.refused ≡ false) →
    (new.refused ≡ false → new.marks.items ≡ old.marks.items) → left new ≡ past_lead (left old) → Walks sign old new []
unfolding stands
signs old new text fine same e =
    plainly sign old new
    (record {
      same_text = text;
      fine = fine;
      within = omega (arith, ap length e, length-past_lead (left old));
    }) same (λ to x p. e ∙ p.1)

pub passed : (w : List ℕ) (old new : Walker) → new.text ≡ old.text → (new.refused ≡ false → old.refused ≡ false) →
    (new.refused ≡ false → new.marks.items ≡ old.marks.items) → past_word w (past_white (left old)) ≡ Some (left new) →
    Walks (word w) old new []
unfolding stands
passed w old new text fine same e =
    plainly (word w) old new
    (record { same_text = text; fine = fine; within = word-within w (left old) (left new) e }) same
    (λ to x p. let both : Some (left new) ≡ Some to = sym e ∙ word-found p in cc)

pub not_passed : (w : List ℕ) (now : Walker) → past_word w (past_white (left now)) ≡ None → Walks (word w) now now []
unfolding stands
not_passed w now e =
    plainly (word w) now now (keeps_same now) (λ f. refl)
    (λ to x p. let both : None ≡ Some to = sym e ∙ word-found p in absurd cc)

pub numbered : (n : ℕ) (old new : Walker) → new.text ≡ old.text → (new.refused ≡ false → old.refused ≡ false) →
    (new.refused ≡ false → new.marks.items ≡ old.marks.items) → IsNumber (left old) (left new) n → Walks number old new []
unfolding stands
numbered n old new text fine same e =
    let low : length (left new) < length (left old) = number-shorter e in
    plainly number old new
    (record { same_text = text; fine = fine; within = omega (arith, low) }) same
    (λ to x p. (one_stands number (left old) (left new) to n x e p).0)

pub not_numbered : (now : Walker) → ((to : List ℕ) (n : ℕ) → IsNumber (left now) to n → ⊥) → Walks number now now []
unfolding stands
not_numbered now e = plainly number now now (keeps_same now) (λ f. refl) (λ to x p. absurd (e to x p))

pub operator : (old mid new : Walker) (l : Lead) (o : UnaryOp) (ns : List Mark) → l ≡ next_lead (left old) → l ≡ Unary o →
    Walks sign old mid [] → Adds mid new ns → Walks unaries old new ns
unfolding unaries
operator old mid new l o ns e is s v =
    walks_by next unary_by old old new (Unary o) ns (next-is (left old) (Unary o) (sym is ∙ e)) (walks_next old)
    (walks_adds _ old mid new [] ns
    (walks_then sign (λ x. yields (Some o)) old mid mid [] [] s (keeps_same mid) (λ a p. walks_yields (Some o) mid)) v)

pub no_operator : (now : Walker) (l : Lead) → l ≡ next_lead (left now) → ((o : UnaryOp) → l ≡ Unary o → ⊥) →
    Walks unaries now now []
unfolding unaries
no_operator now l e never =
    walks_by next unary_by now now now l [] (next-is (left now) l e) (walks_next now) (by_lead l never)
  where
    by_lead : (l : Lead) → ((o : UnaryOp) → l ≡ Unary o → ⊥) → Walks (unary_by l) now now []
    by_lead (Spot k) n = walks_yields None now
    by_lead (Array k) n = walks_yields None now
    by_lead Hash n = walks_yields None now
    by_lead (Group q) n = walks_yields None now
    by_lead (Unary o) n = absurd (n o refl)
    by_lead (Binary o) n = walks_yields None now
    by_lead Other n = walks_yields None now

-- no operator has no mark
pub no_marks : (text from : List ℕ) (l : Lead) → ((o : UnaryOp) → l ≡ Unary o → ⊥) → operator_marks text from l ≡ []
no_marks text from (Spot k) n = refl
no_marks text from (Array k) n = refl
no_marks text from Hash n = refl
no_marks text from (Group q) n = refl
no_marks text from (Unary o) n = absurd (n o refl)
no_marks text from (Binary o) n = refl
no_marks text from Other n = refl

pub no_operator_marks : (text from : List ℕ) (l : Lead) → l ≡ next_lead from → ((o : UnaryOp) → l ≡ Unary o → ⊥) →
    [] ≡ operator_marks text from (next_lead from)
no_operator_marks text from l e never =
    subst (λ z. [] ≡ operator_marks text from z) e (sym (no_marks text from l never))

pub operator_one : (old mid : Walker) (l : Lead) (o : UnaryOp) → l ≡ next_lead (left old) → l ≡ Unary o →
    mid.text.now ≡ old.text.now → left mid ≡ past_lead (left old) →
    mark mid.text.now Operator (left_at mid.text.now old.at) (left mid) ∷ []
    ≡ operator_marks old.text.now (left old) (next_lead (left old))
operator_one old mid l o e is text goes =
    ap (λ z. mark z Operator (left_at z old.at) (left mid) ∷ []) text
    ∙ ap (λ z. mark old.text.now Operator (left old) z ∷ []) goes
    ∙ ap (operator_marks old.text.now (left old)) (sym is ∙ e)
