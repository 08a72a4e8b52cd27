-- What is picked is the next of the choices that are given.
use Rattle.std.proofs.Common.{◌≡◌, ℕ, suc, ◌<◌, ◌≤◌, inl, inr, Bool, false, List, [], ◌∷◌}
use Rattle.std.proofs.Common.{◌++◌, length, take, get_or, ◌+◌, ap, sym, ◌∙◌, subst, arith}
use Rattle.std.specs.Prelude.{Option, Some, None, slice_get}
use Rattle.std.proofs.lemmas.Option.{slice_get_cases, get_or_from_slice_get}
use Rattle.std.proofs.Math.Nat.{eq-or-lt_of_le}
use Rattle.std.proofs.Math.Seq.{take-suc}
use Rattle.std.proofs.lemmas.List.{length-append}
use Rattle.rand_pcg.specs.Lcg.{Lcg}
use Rattle.rand_pcg.specs.Pcg.{pcg32}
use Rattle.ick_code.specs.meaning.State.{State}
use Rattle.ick_code.specs.meaning.Move.{choice, ask}
use Rattle.ick_backtrack.specs.Machine.{Program}
use Rattle.ick_explorer.specs.Runs.{run, wants, IsEnd}
use Rattle.ick_explorer.specs.Paths.{Leads}
use Rattle.ick_runs.specs.Draws.{IsDrawn, means_done, word_of}
use Rattle.ick_runs.specs.Chosen.{Chosen, listed, seeded, IsChosen, answer_of, Picks}
use Rattle.ick_runs.specs.Streaming.{AreTaken}
use Rattle.ick_runs.specs.declared.chooser.Picker.{Picker}
use Rattle.ick_runs.specs.declared.chooser.Picker.TheVariants.{Seeded as Drawing}
use Rattle.ick_explorer.proofs.RunLaws.{Leads-wants}
use Rattle.ick_runs.proofs.OrdinaryLaws.{take_whole}

pub drawn_answer : (chosen : Chosen) (k chance word : ℕ) (b : Bool) (g g' : Lcg) → Picks chosen k (Drawing g) →
    (word, g') ≡ pcg32 g → b ≡ means_done word chance → Some b ≡ answer_of chosen k chance
unfolding word_of
drawn_answer (listed choices) k chance word b g g' h step e = absurd h
drawn_answer (seeded seed) k chance word b g g' h step e =
    ap Some (e ∙ ap (λ x. means_done x.0 chance) (step ∙ ap pcg32 h))

pub some_same : (a b : Bool) → Some a ≡ Some b → a ≡ b
some_same a b e = cc

-- the next choice of a list
pub listed_next : (choices : List Bool) (k : ℕ) (b : Bool) → slice_get choices k ≡ Some b →
    (k < length choices) × (get_or choices k false ≡ b)
listed_next choices k b e = elim (slice_get_cases choices k).1 [
  | inl h ↦ (h.1, get_or_from_slice_get choices k b false e)
  | inr h ↦ let x : None ≡ Some b = sym h.1 ∙ e in cc
]

-- a list that is drawn has more choices where the run wants one
drawn_goes_on : (p : Program) (s : State) (l : ℕ) (word : ℕ → ℕ) (c : List Bool) (t : State)
    (k n chance : ℕ) → IsDrawn p s l word c → Leads p s l (take k c) t n → ask p t ≡ choice chance →
    n < l → k ≤ length c → (k < length c) × (get_or c k false ≡ means_done (word k) chance)
drawn_goes_on p s l word c t k n chance h w a lt within =
    let stops = Leads-wants p s l (take k c) t n chance w a lt in
    elim (eq-or-lt_of_le within) [
      | inr less ↦ (less, h.drawn k chance less (ap (λ r. ask p r.last) stops ∙ a))
      | inl all ↦
          let x : (run p s l c).stop ≡ wants =
          ap (λ x. (run p s l x).stop) (sym (take_whole c k all)) ∙ ap (λ r. r.stop) stops in
          absurd (subst IsEnd x h.whole.at_end)
    ]

next_of : (p : Program) (s : State) (l : ℕ) (chosen : Chosen) (c : List Bool) (t : State) (k n chance : ℕ)
    (b : Bool) → IsChosen p s l chosen c → Leads p s l (take k c) t n → ask p t ≡ choice chance → n < l →
    k ≤ length c →
    Some b ≡ answer_of chosen k chance → (k < length c) × (get_or c k false ≡ b)
next_of p s l (listed choices) c t k n chance b h w a lt within e =
    listed_next c k b (ap (λ x. slice_get x k) h ∙ sym e)
next_of p s l (seeded seed) c t k n chance b h w a lt within e =
    let r = drawn_goes_on p s l (word_of seed) c t k n chance h w a lt within in
    (r.0, r.1 ∙ sym (some_same b (means_done (word_of seed k) chance) e))

-- so that one more choice is one of c too
pub taken_on : (p : Program) (s : State) (l : ℕ) (chosen : Chosen) (c taken taken' : List Bool) (t : State)
    (n chance : ℕ) (b : Bool) → IsChosen p s l chosen c → Leads p s l taken t n → ask p t ≡ choice chance →
    n < l →
    AreTaken c taken → Some b ≡ answer_of chosen (length taken) chance → taken' ≡ taken ++ b ∷ [] →
    AreTaken c taken'
taken_on p s l chosen c taken taken' t n chance b h w a lt f e x =
    let r = next_of p s l chosen c t (length taken) n chance b h
    (subst (λ y. Leads p s l y t n) f.same w) a lt f.within e in
    let size : length taken' ≡ suc (length taken) =
    ap length x ∙ (length-append taken (b ∷ []) ∙ omega arith) in
    record {
      within = let lt' = r.0 in omega arith;
      same = x ∙ (ap (λ y. y ++ b ∷ []) f.same
          ∙ (ap (λ y. take (length taken) c ++ y ∷ []) (sym r.1)
          ∙ (sym (take-suc c (length taken) false r.0) ∙ ap (λ i. take i c) (sym size))));
    }

-- where none is given, all were taken
pub all_taken : (p : Program) (s : State) (l : ℕ) (chosen : Chosen) (c taken : List Bool) (chance : ℕ) →
    IsChosen p s l chosen c → AreTaken c taken → None ≡ answer_of chosen (length taken) chance → taken ≡ c
all_taken p s l (listed choices) c taken chance h f e = elim (slice_get_cases choices (length taken)).1 [
  | inl r ↦ let x : None ≡ Some r.0 = e ∙ r.2 in cc
  | inr r ↦
      let past : length choices ≤ length taken = r.0 in
      let same : length choices ≡ length c = ap length (sym h) in
      let within = f.within in
      let all : length taken ≡ length c = omega arith in
      f.same ∙ take_whole c (length taken) all
]
all_taken p s l (seeded seed) c taken chance h f e = cc

-- a picker is asked where so many choices were taken
pub picked : (chosen : Chosen) (picker : Picker) (k asked chance : ℕ) (answer : Option Bool) → asked ≡ k →
    Picks chosen asked picker → (Picks chosen k picker → answer ≡ answer_of chosen k chance) →
    answer ≡ answer_of chosen asked chance
picked chosen picker k asked chance answer e h f =
    subst (λ x. answer ≡ answer_of chosen x chance) (sym e) (f (subst (λ x. Picks chosen x picker) e h))

-- and then one more was taken
pub one_more : (c c' : List Bool) (b : Bool) (k : ℕ) → c' ≡ c ++ b ∷ [] → length c ≡ k →
    k + 1 ≡ length c'
one_more c c' b k e size = sym (ap length e ∙ (length-append c (b ∷ []) ∙ ap (λ n. n + 1) size))
