use Rattle.std.proofs.Common.{◌≡◌, ◌∙◌, List, ℕ, ap, arith, false, true, refl, rules, subst, sym}
use Rattle.std.proofs.lemmas.List.{append-nil}
use Rattle.ick_session.specs.Session.{Settings, settings, seen}
use Rattle.ick_step_cli.specs.Left.{IsQuit}
use Rattle.ick_step_cli.specs.Talk.{lines_of, typed}
use Rattle.ick_step_cli.proofs.TalkLaws.{Said, all_said, answered_more, begins, cut_after, cut_short, ended, failed}
use Rattle.ick_step_cli.proofs.TalkLaws.{many_lines}
use Rattle.ick_step_cli.proofs.TalkLaws.{line_answered, line_taken, quit}
use Rattle.ick_step_cli.proofs.Leaving.{answered_goes, begins_lines, empty_goes, goes_more, left_by_end}
use Rattle.ick_step_cli.proofs.Leaving.{left_by_quit, where_failed}
use Rattle.ick_job.proofs.Ends.{where_answered}
use Rattle.ick_step_cli.proofs.session.talk.Given.{Over}
use Rattle.ick_step_cli.proofs.session.talk.Goals as goal
use Rattle.ick_step_cli.proofs.session.talk.Goals.{In_default}

pub loop-at-init : goal.loop-at-init
loop-at-init g c = record {
  same = refl;
  reads = refl;
  writes = refl;
  talking = λ r w. begins (settings c.args.session.now) c.args.positions.now (seen c.args.session.now)
      (typed c.args.terminal (g.R.ByteSource.left c.args.reader.now)) _ (g.W.ByteSink.written c.args.writer.now)
      c.new-out.result c.append_here.new.out c.append_prompt.new.out c.new-out.ensures.empty c.append_here.ensures
      c.append_prompt.ensures c.new-last.ensures.items;
  last_goes = subst (λ (l : List ℕ). ¬ IsQuit l) (sym c.new-last.ensures.items) empty_goes;
  goes = λ r. begins_lines (g.R.ByteSource.left c.args.reader.now);
}

pub returns-in-Err-clause-writes : goal.returns-in-Err-clause-writes
returns-in-Err-clause-writes g c = λ r w.
    let told = c.in-Err.ensures.cut w in
    let after = g.W.ByteSink.written c.say.new.writer in
    failed _ _ _ _ c.in-Err.job_end _ _ c.in-Err.ensures.failure
    (cut_short _ _ _ _ _ _ _ _ _ _ after told.0 _ _ (c.loop-at.invariant.talking r w) told.1 told.2)

-- what was said before the line is read
said : (g : Over) (c : In_default g) → g.R.ByteSource.told ≡ true → g.W.ByteSink.told ≡ true →
    Said (settings c.args.session.now) (settings c.loop-at.session) c.args.positions.now (seen c.args.session.now)
    (seen c.loop-at.session)
    (typed c.args.terminal (g.R.ByteSource.left c.args.reader.now)) (lines_of (g.R.ByteSource.left c.loop-at.reader))
    c.loop-at.last.items
    (g.W.ByteSink.written c.args.writer.now) (g.W.ByteSink.written c.say.new.writer) c.loop-at._at
said g c r w =
    let told = c.in_default.ensures.all w in
    all_said _ _ _ _ _ _ _ _ _ _ (g.W.ByteSink.written c.say.new.writer) _ _ (c.loop-at.invariant.talking r w)
    told.0 told.1

pub returns-in-Ok-false-clause-writes : goal.returns-in-Ok-false-clause-writes
returns-in-Ok-false-clause-writes g c = λ r w.
    let none = c.in-Ok-false.ensures.end r c.in-Ok-false.field-0-test in
    let over = ended _ _ _ _ _ _ _ _ _ _ _ (said g (goal.at.returns-in-Ok-false-clause-writes g c).In_default r w)
    (ap lines_of none.0) in
    rw c.over.ensures (refl, refl, over)

pub returns-in-Err-NoMemory-clause-writes : goal.returns-in-Err-NoMemory-clause-writes
returns-in-Err-NoMemory-clause-writes g c = λ r w.
    cut_after _ _ _ _ _ _ _ _ _ _ _ (said g (goal.at.returns-in-Err-NoMemory-clause-writes g c).In_default r w)

pub returns-in-Err-Failed-clause-writes : goal.returns-in-Err-Failed-clause-writes
returns-in-Err-Failed-clause-writes g c = λ r w.
    cut_after _ _ _ _ _ _ _ _ _ _ _ (said g (goal.at.returns-in-Err-Failed-clause-writes g c).In_default r w)

pub returns-then-not-answer_line-clause-writes : goal.returns-then-not-answer_line-clause-writes
returns-then-not-answer_line-clause-writes g c = λ r w.
    let found = c.answer_line.ensures.answers in
    let answers = line_answered (settings c.loop-at.session) (settings c.answer_line.new.session) c.args.positions.now
    (seen c.loop-at.session) (seen c.answer_line.new.session) c.deref.result.now _ found.0
    c.answer_line.result false (c.deref.ensures.value ∙ c.take_line.ensures) c.if-not-answer_line.true found.1 in
    let over = quit _ _ _ _ _ _ _ _ _ _ _ _ _ _ _ _
    (said g (goal.at.returns-then-not-answer_line-clause-writes g c).In_default r w)
    (line_taken _ _ _ (c.in-Ok-true.ensures.line r c.in-Ok-true.field-0-test)) answers in
    rw c.over-then-not-answer_line.ensures (refl, refl, over)

pub loop-at-preserved : goal.loop-at-preserved
loop-at-preserved g c =
    let inv = c.loop-at.invariant in
    let set = settings c.answer_line.new.session in
    record {
      same = c.answer_line.ensures.fixed ∙ ap (λ (f : Settings). record f { breakpoints = set.breakpoints }) inv.same;
      reads = c.read_line.ensures.count ∙ search rules;
      writes = c.in_default.ensures.ok ∙ inv.writes;
      talking = λ r w.
          let found = c.answer_line.ensures.answers in
          let answers = line_answered (settings c.loop-at.session) set c.args.positions.now (seen c.loop-at.session)
          (seen c.answer_line.new.session) c.deref.result.now _ found.0
          c.answer_line.result true (c.deref.ensures.value ∙ c.take_line.ensures) c.if-not-answer_line.false found.1 in
          answered_more _ _ _ _ _ _ _ _ _ _ _ _ _ _ _ _ _ _ _ (said g (goal.at.loop-at-preserved g c).In_default r w)
          (line_taken _ _ _ (c.in-Ok-true.ensures.line r c.in-Ok-true.field-0-test)) c.take_line.ensures
          answers found.2 c.append_prompt-in-loop-at.ensures;
      last_goes =
          let found = c.answer_line.ensures.answers in
          answered_goes (settings c.loop-at.session) set c.args.positions.now (seen c.loop-at.session)
          (seen c.answer_line.new.session) c.deref.result.now _ found.0 c.answer_line.result c.deref.ensures.value
          c.if-not-answer_line.false found.1;
      goes = λ r.
          let found = c.answer_line.ensures.answers in
          goes_more (settings c.loop-at.session) set c.args.positions.now (seen c.loop-at.session)
          (seen c.answer_line.new.session) c.args.terminal _ _ c.deref.result.now c.loop-at.last.items
          c.read_line.new.line.items _ found.0 c.answer_line.result (inv.goes r)
          (c.in-Ok-true.ensures.line r c.in-Ok-true.field-0-test)
          (c.deref.ensures.value ∙ c.take_line.ensures) c.if-not-answer_line.false found.1;
    }

pub returns-clause-writes : goal.returns-clause-writes
returns-clause-writes g c = λ r w.
    let now = g.W.ByteSink.written c.loop-at.writer in
    let talking = c.loop-at.invariant.talking r w in (
      many_lines _ _ _ _ _ _ _ _ _ _ _ _ talking (omega (arith, c.loop-at-test.false)),
      cut_short _ _ _ _ _ _ _ _ _ _ now 0 _ _ talking (sym (append-nil now)) (λ _. refl),
    )

-- the lines that are left in the reader
pub returns-in-Err-clause-left : goal.returns-in-Err-clause-left
returns-in-Err-clause-left g c = λ r. where_failed c.in-Err.job_end _ c.in-Err.ensures.failure

pub returns-in-Ok-false-clause-left : goal.returns-in-Ok-false-clause-left
returns-in-Ok-false-clause-left g c = λ r.
    let none = c.in-Ok-false.ensures.end r c.in-Ok-false.field-0-test in
    where_answered c.over.result _ (left_by_end _ _ _ (c.loop-at.invariant.goes r) none.0 none.1)

pub returns-then-not-answer_line-clause-left : goal.returns-then-not-answer_line-clause-left
returns-then-not-answer_line-clause-left g c = λ r.
    let found = c.answer_line.ensures.answers in
    where_answered c.over-then-not-answer_line.result _
    (left_by_quit (settings c.loop-at.session) (settings c.answer_line.new.session) c.args.positions.now
    (seen c.loop-at.session) (seen c.answer_line.new.session) c.args.terminal _ _ c.deref.result.now
    c.loop-at.last.items c.read_line.new.line.items _ found.0 c.answer_line.result (c.loop-at.invariant.goes r)
    c.loop-at.invariant.last_goes (c.in-Ok-true.ensures.line r c.in-Ok-true.field-0-test)
    (c.deref.ensures.value ∙ c.take_line.ensures) c.if-not-answer_line.true found.1)
