-- What is appended for a statement, and what is kept of it by the shape of its operations: neither says what they do.
use Rattle.std.specs.Prelude.{ℕ, false, ◌≡◌, ◌≤◌, List, ◌++◌, length, slice_range}
use Rattle.ick_syntax.specs.declared.statements.Statement.{Statement}
use Rattle.ick_code.specs.declared.op.Op.{Op}
use Rattle.ick_code.specs.declared.emit.OpsDraft.{OpsDraft}
use Rattle.ick_code.specs.declared.code.CompiledStatement.{CompiledStatement}
use Rattle.ick_code.specs.Effects.{Slots}
use Rattle.ick_code.specs.Operations.{ops_of_body}

-- these operations are appended, unless a growth was refused
abbrev pub Emits : List Op → OpsDraft → OpsDraft → Type 0
Emits ops old new = new.refused ≡ false → (old.refused ≡ false) × (new.ops.items ≡ old.ops.items ++ ops)

-- the operations, a range of all, are those that the statement's body is compiled to
pub record IsEmitted (place : ℕ → ℕ) (slots : Slots) (ops : List Op) (compiled : CompiledStatement)
    (statement : Statement) : Type 0 where
  pub order : compiled.from ≤ compiled.to
  pub within : compiled.to ≤ length ops
  pub is : slice_range ops compiled.from compiled.to ≡ ops_of_body place slots statement.body
  pub chance : compiled.chance ≡ statement.chance
  pub abstained : compiled.abstained ≡ statement.abstained
  pub text : compiled.text.now ≡ statement.text.now
