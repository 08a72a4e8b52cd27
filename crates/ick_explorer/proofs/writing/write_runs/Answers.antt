use Rattle.std.proofs.Common.{◌≡◌, ◌<◌, ◌≤◌, rules, arith, sym, subst, ◌∙◌}
use Rattle.std.proofs.lemmas.Grind.{common_steps}
use Rattle.ick_explorer.specs.Lines.{last_line}
use Rattle.ick_explorer.specs.Explorers.{explored}
use Rattle.ick_explorer.specs.declared.errors.RunsError.TheVariants.{NoMemory, WorkFull}
use Rattle.ick_explorer.specs.WritingSteps.{AtEnd}
use Rattle.ick_explorer.proofs.WritingLaws.{one_more_limit, along-on, Through, through_all, through_none}
use Rattle.ick_explorer.proofs.WritingLaws.{next_refused, is_one, is_none, refused_errors, refused_memory, refused_full}
use Rattle.ick_explorer.proofs.WritingLaws.{end_more, end_done, last_writes, told_beginning}
use Rattle.ick_explorer.proofs.writing.write_runs.Goals as goal
use Rattle.ick_explorer.proofs.writing.write_runs.Goals.{else-each-test, then-each-test+in-Ok-false, then-more, else-more}

pub returns-in-Err-clause-listing : goal.returns-in-Err-clause-listing
returns-in-Err-clause-listing g c = λ s cs h k.
    let written = g.W.ByteSink.written in
    let a = c.each.invariant.along s cs h k in
    let lt : c.each._i < c.args.count = grind (arith, common_steps) in
    next_refused g.W.ByteSink.told s cs c.each._i c.args.count (explored c.args.explorer.now)
    (explored c.each.explorer) (explored c.write_next.new.self)
    (written c.args.writer.now) (written c.each.writer) (written c.write_next.new.writer) c.in-Err.refused lt a
    (c.in-Err.ensures.next s _ a.gave.stands a.rest)

pub each-preserved : goal.each-preserved
each-preserved g c = record {
  sound = c.in-Ok-true.ensures.moves.sound;
  limit = c.in-Ok-true.ensures.moves.limit ∙ c.each.invariant.limit;
  work = one_more_limit _ _ _ _ _ _ c.each.invariant.work c.in-Ok-true.ensures.moves.work c.each.invariant.limit;
  count = search rules;
  along = λ s cs h k.
      let a = c.each.invariant.along s cs h k in
      along-on g.W.ByteSink.told s cs c.each._i (explored c.args.explorer.now) (explored c.each.explorer)
      (explored c.write_next.new.self)
      (g.W.ByteSink.written c.args.writer.now) (g.W.ByteSink.written c.each.writer)
      (g.W.ByteSink.written c.write_next.new.writer) a
      (is_one g.W.ByteSink.told s _ _ _ _ _ c.in-Ok-true.field-0 c.in-Ok-true.field-0-test
      (c.in-Ok-true.ensures.next s _ a.gave.stands a.rest));
}

pub returns-clause-listing : goal.returns-clause-listing
returns-clause-listing g c = λ s cs h k.
    let told = g.W.ByteSink.told in
    let written = g.W.ByteSink.written in
    let count = c.args.count in
    let old = explored c.args.explorer.now in
    let now = explored c.each-test.explorer in
    let before = written c.args.writer.now in
    let after = written c.each-test.writer in
    let last = written c.write_last.new.writer in
    let listed = c.if-more.listed in
    let a = c.each.invariant.along s cs h k in
    let through : Through told s cs count old now before after = elim c.each-test.branch [
      | else-each-test w ↦
          let all : c.each._i ≡ count = omega (arith, w.each-test.false, c.each.auto._i-end) in
          subst (λ x. Through told s cs count old (explored x) before after) (sym w.explorer-is)
          (subst (λ x. Through told s cs count old (explored c.each.explorer) before (written x)) (sym w.writer-is)
          (through_all told s cs c.each._i count old (explored c.each.explorer) before (written c.each.writer) all a))
      | then-each-test+in-Ok-false w ↦
          let mid = w.write_next.new.self in
          let lt : c.each._i ≤ count = omega (arith, w.each-test.true) in
          subst (λ x. Through told s cs count old (explored x) before after) (sym w.explorer-is)
          (subst (λ x. Through told s cs count old (explored mid) before (written x)) (sym w.writer-is)
          (through_none told s cs c.each._i count old (explored c.each.explorer) (explored mid) before
          (written c.each.writer) (written w.write_next.new.writer) lt a
          (is_none told s _ _ _ _ _ w.in-Ok-false.field-0 w.in-Ok-false.field-0-test
          (w.in-Ok-false.ensures.next s _ a.gave.stands a.rest))))
    ] in
    let stands = through.along.gave.stands in
    let ends : AtEnd told s cs count old now before after listed = elim c.if-more.branch [
      | then-more v ↦
          subst (λ x. AtEnd told s cs count old now before after x) (sym v.listed-is)
          (end_more told s cs count old now before after through (c.more.ensures.further s stands v.if-more.true))
      | else-more v ↦
          subst (λ x. AtEnd told s cs count old now before after x) (sym v.listed-is)
          (end_done told s cs count old now before after through (c.more.ensures.last s stands v.if-more.false))
    ] in
    last_writes told s cs count old now before after last listed c.write_last.result ends
    c.write_last.ensures.listed c.write_last.ensures.errors
    (told_beginning told after last (last_line listed) c.write_last.ensures.beginning) c.write_last.ensures.all

pub returns-in-Err-clause-errors : goal.returns-in-Err-clause-errors
returns-in-Err-clause-errors g c =
    refused_errors (explored c.each.explorer) (explored c.write_next.new.self) c.in-Err.refused
    c.in-Err.ensures.moves

pub returns-in-Err-clause-no_memory : goal.returns-in-Err-clause-no_memory
returns-in-Err-clause-no_memory g c = λ is.
    let same : c.in-Err.refused ≡ NoMemory = cc in
    refused_memory (explored c.each.explorer) (explored c.write_next.new.self) c.in-Err.refused
    c.in-Err.ensures.moves same

pub returns-in-Err-clause-enough : goal.returns-in-Err-clause-enough
returns-in-Err-clause-enough g c = λ is.
    let i = c.each.invariant in
    let same : c.in-Err.refused ≡ WorkFull = cc in
    let lt : c.each._i < c.args.count = grind (arith, common_steps) in
    refused_full (explored c.args.explorer.now) (explored c.each.explorer) (explored c.write_next.new.self)
    c.each._i c.args.count c.in-Err.refused c.in-Err.ensures.moves i.limit i.work lt same
