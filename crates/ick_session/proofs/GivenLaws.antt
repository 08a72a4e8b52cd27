-- One more word of a seed.
use Rattle.std.proofs.Common.{◌≡◌, ℕ, suc, ◌+◌, ◌<◌, List, [], ◌∷◌, ◌++◌, length, get_or, ap, ◌∙◌, subst, arith}
use borrow.Author.Count.{below_more}
use Rattle.std.proofs.lemmas.List.{get_or_append_left, length-append}
use Rattle.std.proofs.Math.Seq.{get_or-append_seam}
use Rattle.rand_pcg.specs.Pcg.{pcg32}
use Rattle.ick_runs.specs.Draws.{generator_after, generator_of, word_of}
use Rattle.rand_pcg.specs.Lcg.{Lcg}
use Rattle.ick_session.specs.Drawn.{AreWords}

pub drawn_more : (seed word : ℕ) (a b : Lcg) (xs ys : List ℕ) → AreWords seed a xs →
    (word, b) ≡ pcg32 a → ys ≡ xs ++ word ∷ [] → AreWords seed b ys
unfolding word_of
drawn_more seed word a b xs ys h step grown =
    let size : length ys ≡ length xs + 1 = omega (arith, ap length grown, length-append xs (word ∷ [])) in
    let next : suc (length xs) ≡ length ys = omega (arith, size) in
    record {
      generator_is = ap (λ x. x.1) step
          ∙ (ap (λ g. (pcg32 g).1) h.generator_is ∙ ap (λ k. generator_after k (generator_of seed)) next);
      words_are = λ k lt. below_more (λ i. get_or ys i 0 ≡ word_of seed i) (length xs)
          (λ i below. ap (λ l. get_or l i 0) grown
          ∙ (get_or_append_left xs (word ∷ []) 0 i below ∙ h.words_are i below))
          (ap (λ l. get_or l (length xs) 0) grown
          ∙ (get_or-append_seam xs word [] 0
          ∙ (ap (λ x. x.0) step ∙ ap (λ g. (pcg32 g).0) h.generator_is)))
          k (subst (λ m. k < m) size lt);
    }
