-- The words that a seed has drawn so far.
use Rattle.std.specs.Prelude.{◌≡◌, ◌<◌, ℕ, List, length, get_or}
use Rattle.rand_pcg.specs.Lcg.{Lcg}
use Rattle.ick_runs.specs.Draws.{generator_after, generator_of, word_of}

-- the first words of a seed, and the generator after them
pub record AreWords (seed : ℕ) (generator : Lcg) (words : List ℕ) : Type 0 where
  pub generator_is : generator ≡ generator_after (length words) (generator_of seed)
  pub words_are : (k : ℕ) → k < length words → get_or words k 0 ≡ word_of seed k
