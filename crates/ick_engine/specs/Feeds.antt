-- Words of the contracts of feeds.
use Rattle.std.specs.Prelude.{ℕ, ◌≡◌, Bool, true, List, [], slice_range, if◌then◌else◌, Result, Ok, Err}
use Rattle.std.proofs.Common.{false, refl, sym}
use Rattle.std.proofs.lemmas.Bool.{false≢true}
use Rattle.ick_runtime.specs.Inputs.{Input}
use Rattle.ick_devices.specs.declared.feed_fault.FeedFault.{FeedFault}

-- whether the last read found that no input is left
abbrev pub has_ended : Result Bool FeedFault → Bool
has_ended (Ok true) = false
has_ended (Ok false) = true
has_ended (Err fault) = false

-- the input that a feed has left after its last line, wherever it is asked for
abbrev pub input_after : List ℕ → List ℕ → Input
input_after line left = record { left = λ _. left; word = slice_range line }

-- an input that may be left after a line: what is told, and nothing where the end was met
pub record MayBeLeft (told ended : Bool) (line left : List ℕ) (input : Input) : Type 0 where
  pub word : (from to : ℕ) → input.word from to ≡ slice_range line from to
  pub told_left : told ≡ true → (place : ℕ) → input.left place ≡ left
  pub none_left : ended ≡ true → (place : ℕ) → input.left place ≡ []

-- some input may always be left
pub some_left : (told ended : Bool) (line left : List ℕ) → (ended ≡ true → told ≡ true → left ≡ []) →
    (input : Input) × MayBeLeft told ended line left input
some_left told true line left over = (
  input_after line [],
  record {
    word = λ from to. refl;
    told_left = λ is place. sym (over refl is);
    none_left = λ ended place. refl;
  },
)
some_left told false line left over = (
  input_after line left,
  record {
    word = λ from to. refl;
    told_left = λ is place. refl;
    none_left = λ ended place. absurd (false≢true ended);
  },
)

-- 1 for true, 0 for false
abbrev pub one_if : Bool → ℕ
one_if flag = if flag then 1 else 0
