use Rattle.std.proofs.Common.{◌≡◌, ◌+◌, ◌<◌, ◌≤◌, [], ap, arith, length, refl, subst, sym}
use Rattle.std.proofs.lemmas.List.{append-nil}
use Rattle.ick_code.specs.Compiled.{code_ops, code_program}
use Rattle.ick_inspect.specs.Positions.{texts_of}
use Rattle.ick_lowering.proofs.Programs.{laid_of}
use Rattle.ick_lowering.specs.Programs.{CanLower}
use Rattle.ick_stages.specs.Stages.{no_line}
use Rattle.ick_stages.proofs.StagesLaws.{ended, first_more, first_none, reaches_more, stopped, tree_at}
use Rattle.ick_stages.specs.Starts.{Reaches, no_text}
use Rattle.ick_stages.proofs.writing.write_stages.Goals as goal

pub returns-in-Err-clause-written : goal.returns-in-Err-clause-written
returns-in-Err-clause-written g c = λ told. ([], no_line, sym (append-nil _))

pub loop-at-init : goal.loop-at-init
loop-at-init g c = record {
  there = λ k d within. absurd (omega (arith, within, ap length c.new-work.ensures.subscripts));
  count = refl;
  point = c.first-point.ensures.point _;
  reaches = subst (λ k. Reaches c.args.source.now (texts_of (code_program c.args.code.now)) 0 k) (sym c.first-point.ensures.at) no_text;
  first = λ told. first_none c.new-work.result.draft _ c.new-work.ensures.subscripts c.new-work.ensures.constants;
}

pub write_stage-requires-clause-lowers : goal.write_stage-requires-clause-lowers
write_stage-requires-clause-lowers g c =
    let law = c.law.ensures in
    let is = c.in-Ok.ensures.ready in
    let n = c.loop-at.at + 1 in
    let first : 1 ≤ n = omega arith in
    let last : n ≤ length (code_program c.args.code.now) =
    omega (arith, c.loop-at-test.true, c.count-at-end.ensures) in
    subst (λ code. CanLower code c.in-Ok.ready.layout (code_ops code n) c.loop-at.work.draft)
    (sym is.code_is) (record {
      room = is.room.room n first last;
      laid = laid_of law is.room;
      named = law.named n;
      finds = law.finds n;
      there = c.loop-at.invariant.there;
    })

pub loop-at-preserved : goal.loop-at-preserved
loop-at-preserved g c =
    let stage = c.in-Ok-write_stage.ensures in
    let within : c.loop-at.at < length (code_program c.args.code.now) =
    omega (arith, c.loop-at-test.true, c.count-at-end.ensures) in
    let gap = c.past_white-start.ensures.gap in
    let tree = tree_at _ _ c.loop-at.at c.index-statements-at.result c.statements-statements.ensures c.requires.same
    c.index-statements-at.is within in
    record {
      there = stage.lowers.reached.stays.there.subscripts;
      count = omega (arith, stage.count, c.loop-at.invariant.count);
      point = c.past_text-point.ensures.point;
      reaches = reaches_more _ _ _ _ _ _ _ c.loop-at.invariant.reaches tree gap c.past_text-point.ensures.at;
      first = λ told.
          let wrote = stage.written told in
          first_more wrote.0 (c.loop-at.invariant.first told) tree
          (record { at = c.loop-at.point.at; reaches = c.loop-at.invariant.reaches; gap = gap }) wrote.1 wrote.2;
    }

pub returns-in-Err-write_stage-clause-written : goal.returns-in-Err-write_stage-clause-written
returns-in-Err-write_stage-clause-written g c = λ told.
    let within : c.loop-at.at < length (code_program c.args.code.now) =
    omega (arith, c.loop-at-test.true, c.count-at-end.ensures) in
    let gap = c.past_white-start.ensures.gap in
    stopped c.in-Ok.ensures.ready refl (Unit {0}) (Unit {0}) c.loop-at.at _ _ _ _ _ _ _ _ (c.loop-at.invariant.first told)
    (tree_at _ _ c.loop-at.at c.index-statements-at.result c.statements-statements.ensures c.requires.same
    c.index-statements-at.is within)
    (record { at = c.loop-at.point.at; reaches = c.loop-at.invariant.reaches; gap = gap })
    (c.in-Err-write_stage.ensures.written told)

pub returns-clause-written : goal.returns-clause-written
returns-clause-written g c = λ told.
    let at : c.loop-at.at ≡ length (code_program c.args.code.now) =
    omega (arith, c.loop-at-test.false, c.loop-at.auto.at-end, c.count-at-end.ensures) in
    ended c.in-Ok.ensures.ready refl _ c.write_bytes.result (c.loop-at.invariant.first told) at
    (c.write_bytes.ensures.written told)
