-- Defines the choices that a list or a seed gives to a run.
use Rattle.std.specs.Prelude.{◌≡◌, ◌<◌, ℕ, Bool, List, length, take, slice_get, Option, Some, None}
use Rattle.ick_code.specs.meaning.State.{State}
use Rattle.ick_code.specs.meaning.Move.{choice, ask}
use Rattle.ick_backtrack.specs.Machine.{Program, Machine}
use Rattle.ick_runs.specs.Draws.{IsDrawn, AreDrawn, generator_of, generator_after, means_done, word_of}
use Rattle.ick_runs.specs.declared.chooser.Chooser.{Chooser}
use Rattle.ick_runs.specs.declared.chooser.Chooser.TheVariants.{Listed, Seeded}
use Rattle.ick_runs.specs.declared.chooser.Picker.{Picker}
use Rattle.ick_runs.specs.declared.chooser.Picker.TheVariants.{Listed as Giving, Seeded as Drawing}

pub data Chosen : Type 0 where
  listed : List Bool → Chosen
  seeded : ℕ → Chosen

abbrev pub chosen_of : Chooser → Chosen
chosen_of (Listed choices) = listed choices.now
chosen_of (Seeded seed) = seeded seed

-- c is the list that is given: the list itself, or the one that the seed draws for this run
abbrev pub IsChosen : Program → State → ℕ → Chosen → List Bool → Type 0
IsChosen p s limit (listed choices) c = c ≡ choices
IsChosen p s limit (seeded seed) c = IsDrawn p s limit (word_of seed) c

-- for private contracts: the choice given at a chance, after k earlier choices
abbrev pub answer_of : Chosen → ℕ → ℕ → Option Bool
answer_of (listed choices) k chance = slice_get choices k
answer_of (seeded seed) k chance = Some (means_done (word_of seed k) chance)

-- for private contracts: a run has used these choices, each as it is given
abbrev pub AreGiven : Program → State → ℕ → Chosen → List Bool → Type 0
AreGiven p s limit (listed choices) c = c ≡ take (length c) choices
AreGiven p s limit (seeded seed) c = AreDrawn p s limit (word_of seed) c

-- for private contracts: after n steps, below the limit, the machine asks a choice, and none is given after c
pub record IsWithout (chosen : Chosen) (limit : ℕ) (c : List Bool) (m : Machine) (n : ℕ) : Type 0 where
  pub chance : ℕ
  pub asks : ask m.program m.state ≡ choice chance
  pub below : n < limit
  pub none : None ≡ answer_of chosen (length c) chance

-- a picker of these choices after k choices
abbrev pub Picks : Chosen → ℕ → Picker → Type 0
Picks (listed choices) k (Giving given) = given.now ≡ choices
Picks (listed choices) k (Drawing generator) = ⊥
Picks (seeded seed) k (Giving given) = ⊥
Picks (seeded seed) k (Drawing generator) = generator ≡ generator_after k (generator_of seed)
