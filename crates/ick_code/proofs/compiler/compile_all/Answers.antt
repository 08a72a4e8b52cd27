use Rattle.std.proofs.Common.{◌≡◌, ℕ, max, map, sym, ap, ◌∙◌, ◌++◌, length, length-append, take_all, arith, refl}
use Rattle.std.proofs.Common.{rules}
use Rattle.std.specs.Prelude.{slice_range}
use Rattle.std.specs.List.{list_all}
use Rattle.std.proofs.lemmas.Grind.{common_steps}
use Rattle.ick_syntax.specs.Programs.{trees_of}
use Rattle.ick_syntax.specs.StatementTree.{statement_tree_of}
use Rattle.ick_syntax.specs.NameKinds.{is_statement_kinded}
use Rattle.ick_code.specs.meaning.Control.{place_of}
use Rattle.ick_code.specs.Labels.{place_in}
use Rattle.ick_code.specs.Code.{kinds_of}
use Rattle.ick_code.specs.Tables.{table_slots}
use Rattle.ick_code.specs.Operations.{ops_of_body}
use Rattle.ick_code.specs.Emitted.{IsEmitted}
use Rattle.ick_code.specs.declared.op.Op.{Op}
use Rattle.ick_code.specs.declared.code.CompiledStatement.{CompiledStatement}
use Rattle.ick_code.specs.Counts.{peak}
use Rattle.ick_code.proofs.CompiledStatements.{none_compiled, more_compiled, range-seam, whole_code}
use Rattle.ick_code.proofs.Trees.{kinded_statement}
use Rattle.ick_code.proofs.compiler.compile_all.Goals as goal

pub loop-statement-init : goal.loop-statement-init
loop-statement-init c = record {
  so_far = none_compiled _ _ _ _ _ c.requires.compiled;
  kinds_are = c.requires.kinds;
}

pub loop-statement-preserved : goal.loop-statement-preserved
loop-statement-preserved c =
    let from = c.len-from.result in
    let to = c.len-to.result in
    let ops = c.emit_body.new.draft.ops.items in
    let statement = c.statement-item.result in
    let compiled : CompiledStatement =
    record {
      from = from;
      to = to;
      chance = statement.chance;
      abstained = statement.abstained;
      text = statement.text;
    } in
    let before = c.loop-statement.draft.ops.items in
    let grown : ops ≡ before ++ ops_of_body (place_in c.in_ok-labels.labels) (table_slots c.args.table.now) statement.body =
    (c.emit_body.ensures c.if-draft.false).1 in
    let starts : from ≡ length before = search rules in
    let ends : to ≡ length ops = search rules in
    let emitted : IsEmitted (place_in c.in_ok-labels.labels) (table_slots c.args.table.now) ops compiled statement =
    record {
      order = omega (arith, ap length grown, length-append {A = Op});
      within = omega arith;
      is = range-seam before _ ops from to grown starts ends;
      chance = refl;
      abstained = refl;
      text = refl;
    } in
    let greatest : c.max-operands.result ≡ max c.loop-statement.operands (peak (slice_range ops from to) 0) =
    c.max-operands.ensures ∙ ap (max c.loop-statement.operands)
    (c.most_operands.ensures ∙ ap (λ o. peak (slice_range o from to) 0) c.deref.ensures.value) in
    record {
      so_far =
          more_compiled _ _ c.statements-statements.result.now _ _ _ _ _ _ _ c.loop-statement.statement-index compiled
          statement c.loop-statement.invariant.so_far
          emitted grown c.in_ok-push.ensures.items greatest
          c.loop-statement-test.true c.statement-item.is;
      kinds_are = grind (arith, common_steps);
    }

pub returns : goal.returns
returns c =
    let statements = c.statements-statements.result.now in
    let program = trees_of c.args.program.now in
    let trees : program ≡ map statement_tree_of statements =
    ap (map statement_tree_of) (sym c.statements-statements.ensures) in
    let places : (label : ℕ) → place_in c.in_ok-labels.labels label ≡ place_of label program =
    λ label. c.in_ok-labels.ensures label ∙ ap (place_of label) (sym trees) in
    let kinds : c.loop-statement.kinds.items ≡ kinds_of program =
    c.loop-statement.invariant.kinds_are
    ∙ ap (λ l. kinds_of (map statement_tree_of l))
    (take_all c.loop-statement.statement-index statements c.loop-statement-test.false)
    ∙ ap kinds_of (sym trees) in
    whole_code program statements _ _ _ _ c.loop-statement.kinds.items _ c.loop-statement.statement-index
    c.loop-statement.invariant.so_far c.loop-statement.auto.statement-index-end c.loop-statement-test.false trees
    places c.args.program.now.kinded c.args.program.now.sound c.requires.slots kinds

pub emit_body-requires : goal.emit_body-requires
emit_body-requires c =
    kinded_statement c.statements-statements.result.now c.loop-statement.statement-index c.statement-item.result
    (ap (λ l. list_all is_statement_kinded (map statement_tree_of l)) c.statements-statements.ensures
    ∙ c.args.program.now.kinded) c.loop-statement-test.true c.statement-item.is
