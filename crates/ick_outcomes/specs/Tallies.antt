-- Defines the tally of the runs that pass a test: their number, their weight and the first of them.
use Prim.Native.Nat.{zero, suc}
use Rattle.std.specs.Prelude.{◌≡◌, ℕ, ◌+◌, ◌*◌, ◌^◌, Bool, true, false, List, [], ◌∷◌, ◌++◌, Option, Some, None}
use Rattle.ick_code.specs.meaning.State.{State}
use Rattle.ick_code.specs.meaning.Move.{Asking, plain, choice, ended}
use Rattle.ick_outcomes.specs.Programs.{ask, advance, Program, run, IsWhole}
use Rattle.ick_backtrack.specs.Asked.{finished, at_limit}
use Rattle.ick_explorer.specs.Runs.{Stop, ends, wants}
use Rattle.ick_explorer.specs.Lines.{end_text}
use Rattle.ick_outcomes.specs.Weights.{part}

-- the text of an end, as a listing shows it
abbrev pub stop_text : Stop → List ℕ
stop_text (ends finish) = end_text finish
stop_text wants = []

-- a test of outcomes
abbrev pub Test : Type 0
Test = List ℕ → List ℕ → Bool

-- c is whole, and the outcome of its run passes the test
pub record Passes (p : Program) (s : State) (limit : ℕ) (q : Test) (c : List Bool) : Type 0 where
  pub whole : IsWhole p s limit c
  pub passed : q (run p s limit c).last.output (stop_text (run p s limit c).stop) ≡ true

-- the number of some runs, their weight, and the choices of the first of them
pub record Tally : Type 0 where
  pub count : ℕ
  pub weight : ℕ
  pub first : Option (List Bool)

-- the earlier of two lists: at the first position at which they differ, it has 0 or ends
abbrev pub lesser : List Bool → List Bool → List Bool
lesser [] d = []
lesser (x ∷ c) [] = []
lesser (false ∷ c) (false ∷ d) = false ∷ lesser c d
lesser (false ∷ c) (true ∷ d) = false ∷ c
lesser (true ∷ c) (false ∷ d) = false ∷ d
lesser (true ∷ c) (true ∷ d) = true ∷ lesser c d

-- the earlier of two lists, if there are any
abbrev pub sooner : Option (List Bool) → Option (List Bool) → Option (List Bool)
sooner None b = b
sooner (Some c) None = Some c
sooner (Some c) (Some d) = Some (lesser c d)

-- the list behind a prefix, if there is one
abbrev pub lead : List Bool → Option (List Bool) → Option (List Bool)
lead w None = None
lead w (Some c) = Some (w ++ c)

-- no run
abbrev pub none : Tally
none = record { count = 0; weight = 0; first = None }

-- two groups of runs as one
abbrev pub join : Tally → Tally → Tally
join a b = record { count = a.count + b.count; weight = a.weight + b.weight; first = sooner a.first b.first }

-- the same runs, but each behind k runs that weigh v together and have w as their first choices
abbrev pub after : ℕ → ℕ → List Bool → Tally → Tally
after k v w a = record { count = k * a.count; weight = v * a.weight; first = lead w a.first }

-- a run that has ended, if it passes, with so many steps left
abbrev pub one : Bool → ℕ → Tally
one true left = record { count = 1; weight = 100 ^ left; first = Some [] }
one false left = none

-- the runs behind one choice
abbrev pub push : ℕ → Bool → Tally → Tally
push chance b a = record { count = a.count; weight = part chance b * a.weight; first = lead (b ∷ []) a.first }

-- the runs behind a step without a choice
abbrev pub pass : Tally → Tally
pass a = record { count = a.count; weight = 100 * a.weight; first = a.first }

-- a run that may make no further step
abbrev pub tally_at_limit : Test → Asking → State → Tally
tally_at_limit q (ended e) s = one (q s.output (stop_text (ends (finished e)))) 0
tally_at_limit q plain s = one (q s.output (stop_text (ends at_limit))) 0
tally_at_limit q (choice chance) s = one (q s.output (stop_text (ends at_limit))) 0

-- the runs from a state by what it asks; `rest` is the tally after a step
abbrev pub tally_on : Test → Asking → State → ℕ → (Bool → Tally) → Tally
tally_on q (ended e) s l rest = one (q s.output (stop_text (ends (finished e)))) (suc l)
tally_on q plain s l rest = pass (rest false)
tally_on q (choice chance) s l rest = join (push chance false (rest false)) (push chance true (rest true))

-- the tally of the runs from s that pass
unfoldable pub tally : Program → State → ℕ → Test → Tally
tally p s zero q = tally_at_limit q (ask p s) s
tally p s (suc l) q = tally_on q (ask p s) s l (λ b. tally p (advance p s b) l q)
