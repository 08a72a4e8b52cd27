-- What contracts see of a machine.
use Rattle.std.specs.Prelude.{ℕ, List}
use Rattle.ick_syntax.specs.StatementTree.{StatementTree}
use Rattle.ick_code.specs.meaning.State.{State}

-- a program is the list of its statements
abbrev pub Program : Type 0
Program = List StatementTree

-- the marked states stand with the latest last
pub record Machine : Type 0 where
  pub program : Program
  pub state : State
  pub marks : List State
  pub work : ℕ
