-- Defines the choices that a seed draws.
use Rattle.std.specs.Prelude.{◌≡◌, ℕ, zero, suc, ◌*◌, ◌/◌, ◌^◌, ◌<◌, nat_lt, Bool, false, List}
use Rattle.std.specs.Prelude.{length, take, get_or}
use Rattle.rand_core.specs.Pcg32Seed.{pcg32_seed}
use Rattle.rand_pcg.specs.Lcg.{Lcg}
use Rattle.rand_pcg.specs.Pcg.{pcg32, pcg32_of_seed}
use Rattle.ick_code.specs.meaning.State.{State}
use Rattle.ick_code.specs.meaning.Move.{choice, ask}
use Rattle.ick_backtrack.specs.Machine.{Program}
use Rattle.ick_explorer.specs.Runs.{run, IsWhole}

-- the generator PCG32 of a seed, which is spread into its 16 bytes
abbrev pub generator_of : ℕ → Lcg
generator_of seed = pcg32_of_seed (pcg32_seed 16 seed)

-- a generator after k words
abbrev pub generator_after : ℕ → Lcg → Lcg
generator_after zero g = g
generator_after (suc k) g = (pcg32 (generator_after k g)).1

-- word k of a seed, from 0
unfoldable pub word_of : ℕ → ℕ → ℕ
word_of seed k = (pcg32 (generator_after k (generator_of seed))).0

-- whether a word means that a statement of this chance is done
unfoldable pub means_done : ℕ → ℕ → Bool
means_done word chance = nat_lt (word * 100 / 2 ^ 32) chance

-- each of these choices has the meaning of the word of its number at the chance at which the run asks it
abbrev pub AreDrawn : Program → State → ℕ → (ℕ → ℕ) → List Bool → Type 0
AreDrawn p s limit word c = (k chance : ℕ) → k < length c →
    ask p (run p s limit (take k c)).last ≡ choice chance → get_or c k false ≡ means_done (word k) chance

-- the whole list whose choices are drawn by these words
pub record IsDrawn (p : Program) (s : State) (limit : ℕ) (word : ℕ → ℕ) (c : List Bool) : Type 0 where
  pub whole : IsWhole p s limit c
  pub drawn : AreDrawn p s limit word c
