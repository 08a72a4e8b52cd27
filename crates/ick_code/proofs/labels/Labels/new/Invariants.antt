use Rattle.std.proofs.Common.{◌≡◌, ℕ, ◌+◌, map, take, nat_cmp}
use Rattle.std.specs.BTreeMap.{get}
use Rattle.ick_syntax.specs.StatementTree.{statement_tree_of}
use Rattle.ick_code.specs.Labels.{first_place}
use Rattle.ick_code.proofs.labels.Labels.new.Given as goal

abbrev pub invariant-loop-statement : goal.invariant-loop-statement
invariant-loop-statement l = record {
  counted : l.past ≡ l.statement-index + 1;
  noted : (q : ℕ) →
      get nat_cmp l.places q ≡ first_place q (map statement_tree_of (take l.statement-index l.statements));
}
