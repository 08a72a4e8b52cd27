-- Defines programs whose output may be left out, their steps and their runs.
use Prim.Native.Nat.{zero, suc}
use Rattle.std.specs.Prelude.{◌≡◌, ℕ, ◌+◌, ◌<◌, ◌≤◌, Bool, true, false, List, [], ◌++◌}
use Rattle.std.specs.List.{Contains}
use Rattle.ick_syntax.specs.StatementTree.{StatementTree}
use Rattle.ick_code.specs.meaning.State.{State}
use Rattle.ick_code.specs.meaning.Move.{Asking, plain, ask as asks, advance as step}
use Rattle.ick_explorer.specs.Order.{IsIncreasing}
use Rattle.ick_explorer.specs.Paths.{later}
use Rattle.ick_explorer.specs.Runs.{Execution, IsEnd, run_at_limit, run_on}

-- a program, and whether its output is left out
pub record Program : Type 0 where
  pub statements : List StatementTree
  pub silent : Bool

-- the program, with its output
abbrev pub spoken : List StatementTree → Program
spoken program = record { statements = program; silent = false }

-- A state without its output, if that is left out. Then it also has no place on the tape of output, which decides
-- what is printed next, and nothing else.
abbrev pub hushed : Bool → State → State
hushed false s = s
hushed true s = record s { output = []; last = 0 }

-- what a state asks for
unfoldable pub ask : Program → State → Asking
ask p s = asks p.statements s

-- one step, if the run hasn't ended
unfoldable pub advance : Program → State → Bool → State
advance p s b = hushed p.silent (step p.statements s b)

-- the state that n steps lead to, if none of them is chosen
abbrev pub after_steps : Program → State → ℕ → State
after_steps p s zero = s
after_steps p s (suc k) = advance p (after_steps p s k) false

-- nothing is asked: there is one way to go on
abbrev pub IsPlain : Program → State → Type 0
IsPlain p s = ask p s ≡ plain

-- k steps lead from one state to another, and nothing was asked before each of them
pub record RunsOn (p : Program) (old : State) (k : ℕ) (new : State) : Type 0 where
  pub leads : new ≡ after_steps p old k
  pub on : (i : ℕ) → i < k → IsPlain p (after_steps p old i)

-- the run from s with these choices, under a limit on steps
unfoldable pub run : Program → State → ℕ → List Bool → Execution
run p s zero c = run_at_limit (ask p s) s c
run p s (suc limit) c = run_on (ask p s) s c (λ b rest. run p (advance p s b) limit rest)

-- c is whole: its run ends, and no choice is left over
pub record IsWhole (p : Program) (s : State) (limit : ℕ) (c : List Bool) : Type 0 where
  pub at_end : IsEnd (run p s limit c).stop
  pub all_used : (run p s limit c).unused ≡ []

-- the listing of all runs: increasing, and its members are exactly the whole lists
pub record IsListing (p : Program) (s : State) (limit : ℕ) (cs : List (List Bool)) : Type 0 where
  pub increasing : IsIncreasing cs
  pub sound : (c : List Bool) → Contains cs c → IsWhole p s limit c
  pub complete : (c : List Bool) → IsWhole p s limit c → Contains cs c

-- the run from s uses all of c in n steps, and goes on from t
pub record Leads (p : Program) (s : State) (limit : ℕ) (c : List Bool) (t : State) (n : ℕ) : Type 0 where
  pub within : n ≤ limit
  pub goes_on : (m : ℕ) (more : List Bool) → n + m ≡ limit →
      run p s limit (c ++ more) ≡ later n (run p t m more)

-- the same run without output, if that is left out
abbrev pub heard : Bool → Execution → Execution
heard silent r = record r { last = hushed silent r.last }
