use Rattle.std.proofs.Common.{◌≡◌, ◌++◌, List, All, length}
use Rattle.clap.specs.Words.{Text}
use Rattle.ick_c.specs.Arguments.{Holds, IsArgument, ended}
use Rattle.ick_c.proofs.arguments.has_arguments.Given as goal

abbrev pub invariant-loop-rest : goal.invariant-loop-rest
invariant-loop-rest l = record {
  front : (arguments : List Text) × All IsArgument arguments × (ended arguments ++ l.rest ≡ l.bytes);
  further : (arguments : List Text) → Holds l.bytes arguments → (rest : List Text) × Holds l.rest rest;
}

abbrev pub decreases-loop-rest : goal.decreases-loop-rest
decreases-loop-rest l = length l.rest
