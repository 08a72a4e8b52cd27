-- Defines which statements asked for the choices of a run, and the text that says so.
use Prim.Native.Nat.{zero, suc}
use Rattle.std.specs.Prelude.{◌≡◌, ◌<◌, ℕ, Bool, false, List, [], ◌∷◌, ◌++◌, codes, decimal, take}
use Rattle.std.specs.List.{flat_map}
use Rattle.ick_code.specs.meaning.State.{State}
use Rattle.ick_code.specs.meaning.Move.{Asking, plain, choice, ended}
use Rattle.ick_outcomes.specs.Programs.{ask, advance, Program, run, IsWhole}
use Rattle.ick_backtrack.specs.Asked.{Finish, finish_of}
use Rattle.ick_backtrack.specs.declared.asking.Ask.{Ask}
use Rattle.ick_backtrack.specs.declared.asking.Ask.TheVariants.{Plain, Choice, Ended}
use Rattle.ick_explorer.specs.Runs.{ends, stays}
use Rattle.ick_outcomes.specs.declared.following.AskedBy.{AskedBy}

-- an end asks nothing more, a plain step asks nothing, and a choice is asked by the statement that is met
abbrev pub asked_on : Asking → State → List Bool → (Bool → List Bool → List AskedBy) → List AskedBy
asked_on (ended e) s c rest = []
asked_on plain s c rest = rest false c
asked_on (choice chance) s [] rest = []
asked_on (choice chance) s (b ∷ c) rest = record { statement = s.place; chance = chance } ∷ rest b c

-- the statements that asked for the choices of the run from s, under a limit on steps
unfoldable pub asked : Program → State → ℕ → List Bool → List AskedBy
asked p s zero c = []
asked p s (suc limit) c = asked_on (ask p s) s c (λ b rest. asked p (advance p s b) limit rest)

-- the run with these choices is whole, ends in this state by this end, and these statements asked for its choices
pub record IsFollowed (p : Program) (s : State) (limit : ℕ) (c : List Bool) (last : State) (finish : Finish)
    (askers : List AskedBy) : Type 0 where
  pub whole : IsWhole p s limit c
  pub last_is : (run p s limit c).last ≡ last
  pub stop_is : (run p s limit c).stop ≡ ends finish
  pub askers_are : askers ≡ asked p s limit c

-- what a state asks before the next step if `left` steps are left: a run without a step left ends
abbrev pub AsksWithin : Program → State → ℕ → Ask → Type 0
AsksWithin p s left (Ended end) = (c : List Bool) → run p s left c ≡ stays s (ends (finish_of end)) c
AsksWithin p s left Plain = (ask p s ≡ plain) × (0 < left)
AsksWithin p s left (Choice chance) = (ask p s ≡ choice chance) × (0 < left)

-- STATEMENT:CHANCE
abbrev pub asker_text : AskedBy → List ℕ
asker_text a = decimal a.statement ++ codes ":" ++ decimal a.chance

-- the texts of these statements, with a blank between two
abbrev pub askers_text : List AskedBy → List ℕ
askers_text [] = []
askers_text (a ∷ others) = asker_text a ++ flat_map (λ x. 32 ∷ asker_text x) others

-- the line of the statements that asked for the first 10000 choices
abbrev pub asked_line : List AskedBy → List ℕ
asked_line askers = askers_text (take 10000 askers) ++ codes "\n"
