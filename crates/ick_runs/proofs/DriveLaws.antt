-- A run that is driven by a chooser, one choice further, and what its end says of a run with given choices.
use Rattle.std.proofs.Common.{◌≡◌, ℕ, zero, suc, ◌<◌, ◌≤◌, Bool, false, List, [], ◌∷◌, ◌++◌, length, take}
use Rattle.std.proofs.Common.{ap, sym, ◌∙◌, refl, subst, arith}
use Rattle.std.specs.Prelude.{Option, Some, None, Result, IfOk, IfSome, IfNone, slice_get}
use Rattle.std.proofs.Math.Seq.{take-suc}
use Rattle.std.proofs.lemmas.List.{length-append, length-take}
use Rattle.ick_code.specs.meaning.State.{State}
use Rattle.ick_code.specs.meaning.Move.{choice, ask}
use Rattle.ick_bits.specs.declared.memory.NoMemory.{NoMemory}
use Rattle.ick_backtrack.specs.Machine.{Machine, Program}
use Rattle.ick_backtrack.specs.Asked.{finish_of}
use Rattle.ick_backtrack.specs.declared.asking.End.{End}
use Rattle.ick_explorer.specs.Paths.{Leads, RunsTo}
use Rattle.ick_explorer.specs.Walks.{EndsHere}
use Rattle.ick_runs.specs.Ordinary.{HasStopped}
use Rattle.ick_runs.specs.declared.ordinary.Ran.{Ran}
use Rattle.ick_runs.specs.Draws.{means_done, word_of}
use Rattle.ick_runs.specs.Chosen.{Chosen, listed, seeded, AreGiven, IsWithout, answer_of}
use Rattle.ick_runs.proofs.DrawLaws.{drawn-more, none-drawn}
use Rattle.ick_runs.proofs.ChosenLaws.{some_same, listed_next}
use Rattle.ick_runs.proofs.OrdinaryLaws.{Answers, ran_ended, ran_wants}

pub none_given : (p : Program) (s : State) (l : ℕ) (chosen : Chosen) → AreGiven p s l chosen []
none_given p s l (listed choices) = refl
none_given p s l (seeded seed) = none-drawn p s l (word_of seed)

pub given_more : (p : Program) (s : State) (l : ℕ) (chosen : Chosen) (c c' : List Bool) (t : State) (n chance : ℕ)
    (b : Bool) → AreGiven p s l chosen c → Leads p s l c t n → ask p t ≡ choice chance → n < l →
    Some b ≡ answer_of chosen (length c) chance → c' ≡ c ++ b ∷ [] → AreGiven p s l chosen c'
given_more p s l (listed choices) c c' t n chance b given leads a lt e is =
    let next = listed_next choices (length c) b (sym e) in
    let size : length c' ≡ suc (length c) = ap length is ∙ (length-append c (b ∷ []) ∙ omega arith) in
    is ∙ (ap (λ x. x ++ b ∷ []) given
    ∙ (ap (λ x. take (length c) choices ++ x ∷ []) (sym next.1)
    ∙ (sym (take-suc choices (length c) false next.0) ∙ ap (λ i. take i choices) (sym size))))
given_more p s l (seeded seed) c c' t n chance b given leads a lt e is =
    subst (λ x. AreGiven p s l (seeded seed) x) (sym is)
    (drawn-more p s l (word_of seed) c t n chance b given leads a lt
    (some_same b (means_done (word_of seed (length c)) chance) e))

-- choices that begin a list are no more than the list has
pub few_given : (c choices : List Bool) → c ≡ take (length c) choices → length c ≤ length choices
few_given c choices e =
    let size = ap length e in
    let few = length-take (length c) choices in
    omega (arith, size, few)

nothing_at : (c : List Bool) (used : ℕ) → None ≡ slice_get c used → length c ≤ used
nothing_at [] used e = omega arith
nothing_at (x ∷ c) zero e = cc
nothing_at (x ∷ c) (suc k) e = let r = nothing_at c k e in omega arith

-- .. and all of them if no further one is there
pub all_given : (c choices : List Bool) → c ≡ take (length c) choices → None ≡ slice_get choices (length c) →
    length c ≡ length choices
all_given c choices e none =
    let few = few_given c choices e in
    let past = nothing_at choices (length c) none in
    omega (arith, few, past)

-- what a run answers that stopped after it used these of the given choices
pub ran_stopped : (l : ℕ) (m₀ m : Machine) (c taken : List Bool) (used n : ℕ) (end : Option End) →
    taken ≡ take (length taken) c → used ≡ length taken → RunsTo l m₀ taken m n →
    IfSome end (λ e. EndsHere l m n (finish_of e)) → IfNone end (IsWithout (listed c) l taken m n) →
    (r : Result Ran NoMemory) → IfOk r (HasStopped m.state.output end used n) → Answers l m₀ c r
ran_stopped l m₀ m c taken used n (Some e) given count runs here without r has =
    let few = few_given taken c given in
    ran_ended l m₀ m c used n (finish_of e) (omega (arith, few, count))
    (subst (λ x. RunsTo l m₀ x m n) (given ∙ ap (λ k. take k c) (sym count)) runs) here r has
ran_stopped l m₀ m c taken used n None given count runs here without r has =
    ran_wants l m₀ m c used n without.chance (count ∙ all_given taken c given without.none)
    (subst (λ x. RunsTo l m₀ x m n) (given ∙ ap (λ k. take k c) (sym count)) runs) without.asks without.below r has
