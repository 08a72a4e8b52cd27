use Rattle.std.proofs.Common.{◌≡◌, ◌++◌, List, All, length}
use Rattle.clap.specs.Walk.{texts}
use Rattle.clap.specs.Words.{Text}
use Rattle.ick_c.specs.Arguments.{Holds, IsArgument, ended}
use Rattle.ick_c.proofs.arguments.list_of.Given as goal

abbrev pub invariant-loop-rest : goal.invariant-loop-rest
invariant-loop-rest l = record {
  whole : ended (texts l.list.items) ++ l.rest ≡ l.bytes;
  each : All IsArgument (texts l.list.items);
  further : (rest : List Text) × Holds l.rest rest;
}

abbrev pub decreases-loop-rest : goal.decreases-loop-rest
decreases-loop-rest l = length l.rest
