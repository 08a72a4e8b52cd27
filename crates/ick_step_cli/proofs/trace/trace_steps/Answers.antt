use Rattle.std.proofs.Common.{◌∙◌, ◌+◌, ap, arith, refl, rules, subst, sym}
use Rattle.ick_code.specs.Compiled.{IsCompiled}
use Rattle.ick_code.specs.meaning.Move.{ask}
use Rattle.ick_machine.specs.Seen.{trailed_machine}
use Rattle.ick_session.specs.Given.{given_by}
use Rattle.ick_session.specs.Travel.{answer_to}
use Rattle.ick_step_cli.specs.Traced.{traced_run}
use Rattle.ick_step_cli.proofs.TraceLaws.{Tracing, on_err, small_bool, trace_cut, trace_cut_flush, traces_flushed}
use Rattle.ick_step_cli.proofs.TraceLaws.{traces_more, traces_none}
use Rattle.ick_step_cli.proofs.trace.trace_steps.Given.{Over}
use Rattle.ick_step_cli.proofs.trace.trace_steps.Goals as goal
use Rattle.ick_step_cli.proofs.trace.trace_steps.Goals.{After-flush_block}

pub on-init : goal.on-init
on-init g c = record {
  same = c.requires.same;
  program = refl;
  work = omega arith;
  within = omega arith;
  chosen = omega arith;
  given = refl;
  writes = refl;
  tracing =
      traces_none (trailed_machine c.args.machines.now.before) (given_by c.args.given.now) c.args.limit
      c.args.code.now c.args.positions.now g.W.ByteSink.told (g.W.ByteSink.written c.args.writer.now) c.args.out.now
      c.requires.empty;
}

pub returns-in_err-answer : goal.returns-in_err-answer
returns-in_err-answer g c = record {
  writes = search rules;
  errors = search rules;
  traces = search rules;
  cut = λ told. on_err _ (trace_cut _ _ _ _ _ _ _ _ _ _ c.on.invariant.tracing c.on.invariant.within
      (subst (λ p. IsCompiled p c.args.code.now) c.requires.code c.law.ensures) told);
}

pub returns-in_err-append_lines : goal.returns-in_err-append_lines
returns-in_err-append_lines g c = record {
  writes = search rules;
  errors = search rules;
  traces = search rules;
  cut = λ told. on_err _ (trace_cut _ _ _ _ _ _ _ _ _ _ c.on.invariant.tracing c.on.invariant.within
      (subst (λ p. IsCompiled p c.args.code.now) c.requires.code c.law.ensures) told);
}

-- the run after one more step
more : (g : Over) (c : After-flush_block g) →
    Tracing (traced_run (trailed_machine c.args.machines.now.before) (given_by c.args.given.now) c.args.limit)
    c.args.code.now c.args.positions.now (trailed_machine c.append_lines.new.machines.before) (c.on.steps + 1)
    (c.on.chosen + c.from-chosen.result) g.W.ByteSink.told (g.W.ByteSink.written c.args.writer.now)
    (g.W.ByteSink.written c.on.writer) c.append_lines.new.out
more g c =
    let inv = c.on.invariant in
    let m = trailed_machine c.on.machines.before in
    let step = c.in_ok-append_lines.ensures.step in
    let given = sym c.in-Some.is ∙ (c.in_ok-answer.ensures.is
    ∙ ap (λ x. answer_to x c.on.chosen (ask m.program m.state)) inv.given) in
    traces_more _ _ _ m _ _ _ _ _ _ _ _ _ c.in-Some.answer c.is_some.result inv.tracing given
    (ap (λ n. n.program) step) (ap (λ n. n.state) step) c.in_ok-append_lines.ensures.lines c.is_some.ensures
    (ap (λ n. c.on.chosen + n) c.from-chosen.ensures)

pub on-preserved : goal.on-preserved
on-preserved g c =
    let inv = c.on.invariant in
    let step = c.in_ok-append_lines.ensures.step in
    record {
      same = c.in_ok-append_lines.ensures.same;
      program = ap (λ m. m.program) step ∙ inv.program;
      work = let moved = ap (λ m. m.work) step in omega (arith, moved, inv.work);
      within = omega (arith, inv.within, c.if-steps-limit.false);
      chosen = omega (arith, c.from-chosen.ensures, small_bool c.is_some.result, inv.chosen);
      given = c.next_answer.ensures.same ∙ inv.given;
      writes = omega (arith, c.in_ok-flush_block.ensures.writes, inv.writes);
      tracing = traces_flushed _ _ _ _ _ _ _ _ _ _ _ _ (more g (goal.at.on-preserved g c).After-flush_block)
          c.in_ok-flush_block.ensures.flushes;
    }

pub returns-in_err-flush_block : goal.returns-in_err-flush_block
returns-in_err-flush_block g c = record {
  writes = search rules;
  errors = search rules;
  traces = search rules;
  cut = λ told.
      let short = c.in_err-flush_block.ensures.cut told in
      on_err _ (trace_cut_flush _ _ _ _ _ _ _ _ _ _ _ short.0
      (more g (goal.at.returns-in_err-flush_block g c).After-flush_block)
      (omega (arith, c.on.invariant.within, c.if-steps-limit.false))
      (subst (λ p. IsCompiled p c.args.code.now) c.requires.code c.law.ensures) told short.1 short.2);
}
