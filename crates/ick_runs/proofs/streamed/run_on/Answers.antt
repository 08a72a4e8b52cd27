use Rattle.std.proofs.Common.{◌≡◌, ◌+◌, ◌<◌, List, Bool, true, length, rules, refl, ap, sym, subst, ◌∙◌, arith}
use Rattle.std.specs.Prelude.{Err, Some, None}
use Rattle.std.proofs.lemmas.Grind.{common_steps}
use Rattle.ick_code.proofs.AskLaws.{chance_between}
use Rattle.ick_machine.specs.Live.{seen, fed}
use Rattle.ick_explorer.specs.Errors.{error_of}
use Rattle.ick_explorer.specs.declared.errors.RunsError.TheVariants.{NoMemory, Read}
use Rattle.ick_runs.specs.Chosen.{Chosen, IsChosen, Picks, answer_of}
use Rattle.ick_runs.specs.Streaming.{IsAlong, AreTaken}
use Rattle.ick_runs.proofs.ChosenLaws.{all_taken, picked, one_more}
use Rattle.ick_runs.proofs.StreamLaws.{Here, along_start, none_taken, asks_chance, here_stays, here_ended}
use Rattle.ick_runs.proofs.StreamLaws.{all_made, feed_read, here_limit, here_wants, leads_by_choice, may_go_on, same_error}
use Rattle.ick_runs.proofs.StreamLaws.{step_at_input, step_made, stride_at_input, stride_cut, strode, taken_choice}
use Rattle.ick_runs.proofs.streamed.run_on.Given.{Over}
use Rattle.ick_runs.proofs.streamed.run_on.Goals.{After-asks-asked, After-step}
use Rattle.ick_runs.proofs.streamed.run_on.Goals as goal

pub along-init : goal.along-init
along-init g c =
    let first = seen c.args.machine.now in
    let begin = fed (g.F.Feed.left c.args.feed.now) first.state in
    let start = g.W.ByteSink.written c.args.writer.now in
    let none = c.requires.unused in
    record {
      reads = refl;
      writes = refl;
      held = refl;
      sound = c.requires.sound;
      program = refl;
      within = omega arith;
      picks = λ chosen at. subst (λ k. Picks chosen k c.args.picker.now) (sym (ap length none)) at;
      along = λ _. subst (λ x. IsAlong g.W.ByteSink.told first.program begin c.args.limit x begin start start 0)
          (sym none) (along_start g.W.ByteSink.told first.program begin c.args.limit start);
      taken = λ _ _ _ c' _. subst (λ x. AreTaken c' x) (sym none) (none_taken c');
    }

-- where the run is after the steps that it made by itself
here : (g : Over) (c : After-asks-asked g) → g.F.Feed.told ≡ true →
    Here g.W.ByteSink.told (seen c.args.machine.now).program
    (fed (g.F.Feed.left c.args.feed.now) (seen c.args.machine.now).state) c.args.limit c.along.choices.items
    (seen c.stride.new.machine) (g.F.Feed.left c.stride.new.feed) (g.W.ByteSink.written c.args.writer.now)
    (g.W.ByteSink.written c.stride.new.writer) (c.along.steps + c.in_ok-made.made)
here g c t =
    let i = c.along.invariant in
    let left = c.stride.ensures.leaves in
    strode _ _ _ _ (seen c.along.machine) (g.F.Feed.left c.along.feed) (i.along t) i.program c.in_ok-made.made (seen c.stride.new.machine)
    (g.F.Feed.left c.stride.new.feed) (g.W.ByteSink.written c.stride.new.writer) left.program
    c.in_ok-made.ensures.leaves.failed left.empty c.in_ok-made.ensures.rests.within (c.in_ok-made.ensures.prints t)

pub returns-in_err-made-clause-run : goal.returns-in_err-made-clause-run
returns-in_err-made-clause-run g c = λ t chosen at c' is_chosen.
    let i = c.along.invariant in
    let e : c.from_residual.result ≡ Err c.in_err-made.field-0.0 = search rules in
    rw e (stride_cut _ _ _ _ (seen c.along.machine) (g.F.Feed.left c.along.feed) (i.along t) i.program c' (i.taken t chosen at c' is_chosen)
    (fed (g.F.Feed.left c.stride.new.feed) (seen c.stride.new.machine).state)
    (g.W.ByteSink.written c.stride.new.writer) c.in_err-made.field-0.0 (c.in_err-made.ensures.prints t))

pub returns-in_err-made-clause-input : goal.returns-in_err-made-clause-input
returns-in_err-made-clause-input g c = λ t chosen at c' is_chosen is_read.
    let i = c.along.invariant in
    let e : c.from_residual.result ≡ Err c.in_err-made.field-0.0 = search rules in
    let read = ap Err (same_error c.from_residual.result c.in_err-made.field-0.0 Read e is_read) in
    stride_at_input _ _ _ _ (seen c.along.machine) (g.F.Feed.left c.along.feed) (i.along t) i.program c' (i.taken t chosen at c' is_chosen)
    (g.W.ByteSink.written c.stride.new.writer) (c.in_err-made.ensures.input t read)

pub returns-in-Ended-clause-run : goal.returns-in-Ended-clause-run
returns-in-Ended-clause-run g c = λ t chosen at c' is_chosen.
    let stage = (goal.at.returns-in-Ended-clause-run g c).After-asks-asked in
    here_ended _ _ _ _ (here g stage t) c' (c.along.invariant.taken t chosen at c' is_chosen)
    c.asks-asked.result c.in-Ended.end c.asks-asked.ensures c.in-Ended.is

pub returns-then-steps-limit-clause-run : goal.returns-then-steps-limit-clause-run
returns-then-steps-limit-clause-run g c = λ t chosen at c' is_chosen.
    let stage = (goal.at.returns-then-steps-limit-clause-run g c).After-asks-asked in
    let all : c.along.steps + c.in_ok-made.made ≡ c.args.limit = grind (arith, common_steps) in
    here_limit _ _ _ _ (here g stage t) c' (c.along.invariant.taken t chosen at c' is_chosen)
    c.asks-asked.result c.asks-asked.ensures c.in_default.not-Ended all

pub returns-in_default-asked-clause-run : goal.returns-in_default-asked-clause-run
returns-in_default-asked-clause-run g c = λ t chosen at c' is_chosen.
    let stage = (goal.at.returns-in_default-asked-clause-run g c).After-asks-asked in
    let all = all_made (seen c.stride.new.machine) c.asks-asked.result c.in_ok-made.ensures.leaves.failed
    c.asks-asked.ensures c.in_default-asked.not-Choice c.in_default.not-Ended c.args.limit c.along.steps c.in_ok-made.made
    c.along.invariant.within c.in_ok-made.ensures.rests in
    here_limit _ _ _ _ (here g stage t) c' (c.along.invariant.taken t chosen at c' is_chosen)
    c.asks-asked.result c.asks-asked.ensures c.in_default.not-Ended all

pub pick-requires : goal.pick-requires
pick-requires g c =
    let now = seen c.stride.new.machine in
    let asks = asks_chance now c.asks-asked.result c.in-Choice.chance c.in_ok-made.ensures.leaves.failed c.asks-asked.ensures
    c.in-Choice.is in
    let between = chance_between now.program now.state c.in-Choice.chance asks in
    record { low = between.0; high = between.1 }

pub returns-in_default-pick-clause-run : goal.returns-in_default-pick-clause-run
returns-in_default-pick-clause-run g c = λ t chosen at c' is_chosen.
    let stage = (goal.at.returns-in_default-pick-clause-run g c).After-asks-asked in
    let i = c.along.invariant in
    let taken = c.along.choices.items in
    let lt : c.along.steps + c.in_ok-made.made < c.args.limit = grind (arith, common_steps) in
    let size : length taken ≡ c.len.result = omega (arith, c.len.ensures, c.along.choices.ok.0) in
    let none : None ≡ answer_of chosen (length taken) c.in-Choice.chance =
    picked chosen c.along.picker c.len.result (length taken) c.in-Choice.chance None size (i.picks chosen at)
    (c.in_default-pick.ensures.answer chosen) in
    here_wants _ _ _ _ (here g stage t) c.asks-asked.ensures c.in-Choice.is lt c'
    (all_taken _ _ _ chosen c' taken c.in-Choice.chance is_chosen (i.taken t chosen at c' is_chosen) none)

pub returns-in_err-push-clause-run : goal.returns-in_err-push-clause-run
returns-in_err-push-clause-run g c = λ t chosen at c' is_chosen.
    let stage = (goal.at.returns-in_err-push-clause-run g c).After-asks-asked in
    let e : c.from_residual-in_err-push.result ≡ Err NoMemory = search rules in
    rw e (here_stays _ _ _ _ (here g stage t) c' (c.along.invariant.taken t chosen at c' is_chosen))

pub step-requires : goal.step-requires
step-requires g c =
    record {
      sound = c.in_ok-made.ensures.leaves.failed;
      going = may_go_on (seen c.stride.new.machine) c.asks-asked.result c.in_ok-made.ensures.leaves.failed
          c.asks-asked.ensures c.in_default.not-Ended;
      room = search rules;
    }

-- the choices are those that were taken, with the one that was answered
are_taken : (g : Over) (c : After-step g) → g.F.Feed.told ≡ true →
    Here g.W.ByteSink.told (seen c.args.machine.now).program
    (fed (g.F.Feed.left c.args.feed.now) (seen c.args.machine.now).state) c.args.limit c.along.choices.items
    (seen c.stride.new.machine) (g.F.Feed.left c.stride.new.feed) (g.W.ByteSink.written c.args.writer.now)
    (g.W.ByteSink.written c.stride.new.writer) (c.along.steps + c.in_ok-made.made) →
    (chosen : Chosen) → Picks chosen 0 c.args.picker.now → (c' : List Bool) →
    IsChosen (seen c.args.machine.now).program
    (fed (g.F.Feed.left c.args.feed.now) (seen c.args.machine.now).state) c.args.limit chosen c' →
    AreTaken c' c.push.new.self.items
are_taken g c t now chosen at c' is_chosen =
    let i = c.along.invariant in
    let taken = c.along.choices.items in
    let lt : c.along.steps + c.in_ok-made.made < c.args.limit = grind (arith, common_steps) in
    let size : length taken ≡ c.len.result = omega (arith, c.len.ensures, c.along.choices.ok.0) in
    let some : Some c.in-Some.done ≡ answer_of chosen (length taken) c.in-Choice.chance =
    picked chosen c.along.picker c.len.result (length taken) c.in-Choice.chance (Some c.in-Some.done) size
    (i.picks chosen at) (c.in-Some.ensures.answer chosen) in
    taken_choice _ _ _ _ now c.asks-asked.ensures c.in-Choice.is lt
    chosen c' c.push.new.self.items c.in-Some.done is_chosen (i.taken t chosen at c' is_chosen) some
    c.in_ok-push.ensures.items

pub returns-in_err-step-clause-run : goal.returns-in_err-step-clause-run
returns-in_err-step-clause-run g c = λ t chosen at c' is_chosen.
    let stage = (goal.at.returns-in_err-step-clause-run g c).After-asks-asked in
    let e : c.from_residual-in_err-step.result ≡ Err (error_of c.in_err-step.field-0.0) = search rules in
    rw e (here_stays _ _ _ _ (here g stage t) c' (c.along.invariant.taken t chosen at c' is_chosen))

pub returns-in_err-step-clause-input : goal.returns-in_err-step-clause-input
returns-in_err-step-clause-input g c = λ t chosen at c' is_chosen is_read.
    let stage = goal.at.returns-in_err-step-clause-input g c in
    let now = here g stage.After-asks-asked t in
    let lt : c.along.steps + c.in_ok-made.made < c.args.limit = grind (arith, common_steps) in
    let e : c.from_residual-in_err-step.result ≡ Err (error_of c.in_err-step.field-0.0) = search rules in
    let read = ap Err (feed_read c.in_err-step.field-0.0 (same_error c.from_residual-in_err-step.result
    (error_of c.in_err-step.field-0.0) Read e is_read)) in
    step_at_input _ _ _ _ now lt c.in-Some.done
    (leads_by_choice _ _ _ _ now c.asks-asked.ensures c.in-Choice.is lt c.in-Some.done c.in_ok-push.ensures.items) c'
    (c.along.invariant.taken t chosen at c' is_chosen)
    (are_taken g stage.After-step t now chosen at c' is_chosen) (c.in_err-step.ensures.reads read)

pub along-preserved : goal.along-preserved
along-preserved g c =
    let stage = goal.at.along-preserved g c in
    let i = c.along.invariant in
    let taken = c.along.choices.items in
    let lt : c.along.steps + c.in_ok-made.made < c.args.limit = grind (arith, common_steps) in
    let size : length taken ≡ c.len.result = omega (arith, c.len.ensures, c.along.choices.ok.0) in
    let more = one_more taken c.push.new.self.items c.in-Some.done c.len.result c.in_ok-push.ensures.items size in
    record {
      reads = search rules;
      writes = search rules;
      held = c.step.ensures.held ∙ c.stride.ensures.held ∙ i.held;
      sound = c.in_ok-step.ensures.ok;
      program = c.step.ensures.program ∙ c.stride.ensures.leaves.program ∙ i.program;
      within = omega (arith, lt);
      picks = λ chosen at. subst (λ k. Picks chosen k c.pick.new.self) more
          (c.in-Some.ensures.on chosen (subst (λ k. Picks chosen k c.along.picker) size (i.picks chosen at)));
      along = λ t.
          step_made _ _ _ _ (here g stage.After-asks-asked t) lt c.in-Some.done
          (leads_by_choice _ _ _ _ (here g stage.After-asks-asked t) c.asks-asked.ensures c.in-Choice.is lt c.in-Some.done
          c.in_ok-push.ensures.items) _ (search rules);
      taken = λ t chosen at c' is_chosen.
          are_taken g stage.After-step t (here g stage.After-asks-asked t) chosen at c' is_chosen;
    }
