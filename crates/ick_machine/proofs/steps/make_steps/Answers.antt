use Rattle.std.proofs.Common.{refl, arith}
use Rattle.ick_backtrack.specs.Steps.{IsPlain}
use Rattle.ick_runtime.{specs.Memory.view_in, proofs.Undoing.{like_moved, like_refl}}
use Rattle.ick_machine.proofs.{AnswerLemmas.some_bound, StepLemmas.{has_made, has_moved, has_stepped, ready_by}}
use Rattle.ick_machine.proofs.{StepLemmas.steady_by, StepsLemmas.no_step, WholeLemmas.{if_ok, if_so}}
use Rattle.ick_machine.proofs.steps.make_steps.Goals as goal

-- the run had ended
pub returns-in_default : goal.returns-in_default
returns-in_default g c = record {
  low_within = c.requires.low;
  base_same = refl;
  follows = λ k m h. h;
  steady = c.requires.ready.steady;
  ready = c.requires.ready;
  held_same = refl;
  end_same = tt;
  within = omega arith;
  moves = λ none goes enough some input still.
      absurd (some_bound c.args.lowered.now.code.now c.args.lowered.now.parts input (view_in c.args.memory.now)
      c.args.end.now c.in_default.not-None still);
  runs = λ none after has. (after, has, no_step IsPlain _ _);
  steps = λ done same one going goes enough. absurd (c.in_default.not-None going);
}

pub returns : goal.returns
returns g c =
    let call = c.run_steps-exit in
    let ran = call.ensures in
    let code = c.args.lowered.now.code.now in
    let lowered = c.args.lowered.now.parts in
    let w = view_in call.new.memory in
    let ok = c.steps_of_exit.ensures.ok in
    record {
      low_within = ran.noted.low_within;
      base_same = ran.noted.base_same;
      follows = λ k m h. c.law-2.ensures.alike k _ _ m (like_moved _ _ (like_refl _ _ _)) (ran.noted.follows k m
          (c.law.ensures.alike k _ _ m (like_moved 0 0 (like_refl _ _ _)) h));
      steady = steady_by call.result code lowered w ran.stopped.remains;
      ready = if_so c.steps_of_exit.result _ _ ok (λ k is. ready_by call.result code lowered w is.1 ran.stopped.remains);
      held_same = ran.held_same;
      end_same = c.steps_of_exit.ensures.err;
      within = if_ok c.steps_of_exit.result _ _ ok (λ k is. omega (arith, is.0));
      moves = λ none goes enough some. if_ok c.steps_of_exit.result _ _ ok (λ k is.
          has_moved code lowered g.R.Reader.Has c.args.reader.now call.new.reader c.args.limit call.new.memory.point.left
          c.args.answer call.new.memory.answer (view_in c.args.memory.now) w call.result _ _ _ _ ran.is_short
          ran.has_waited ran.fewer ran.stopped.comes k c.steps_of_exit.new.end is
          (g.R.Reader.some call.new.reader) none goes enough some);
      runs = λ none. if_ok c.steps_of_exit.result _ _ ok (λ k is. rw c.in-None.is (
          has_made code lowered g.R.Reader.Has c.args.reader.now call.new.reader c.args.limit call.new.memory.point.left
          c.args.answer call.new.memory.answer (view_in c.args.memory.now) w call.result _ _ _ _ ran.is_short
          ran.has_waited ran.fewer ran.stopped.comes k c.steps_of_exit.new.end is none));
      steps = λ done same one going goes enough. if_so c.steps_of_exit.result _ _ ok (λ k is. rw c.in-None.is (
          has_stepped code lowered g.R.Reader.Has c.args.reader.now call.new.reader c.args.limit call.new.memory.point.left
          c.args.answer call.new.memory.answer (view_in c.args.memory.now) w call.result _ _ _ _ ran.is_short
          ran.has_waited ran.fewer ran.stopped.comes k c.steps_of_exit.new.end is goes enough done same one));
    }

pub run_steps-exit-requires-clause-prints : goal.run_steps-exit-requires-clause-prints
run_steps-exit-requires-clause-prints g c = c.requires.prints c.in-None.is
