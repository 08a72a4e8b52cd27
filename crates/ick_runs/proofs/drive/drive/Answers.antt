use Rattle.std.proofs.Common.{◌≡◌, ◌<◌, ◌+◌, length, ap, sym, ◌∙◌, subst, arith}
use Rattle.std.specs.Prelude.{Some}
use Rattle.std.proofs.lemmas.Grind.{common_steps}
use Rattle.ick_code.specs.meaning.Move.{ask, choice}
use Rattle.ick_code.proofs.AskLaws.{chance_between}
use Rattle.ick_explorer.specs.Paths.{RunsTo}
use Rattle.ick_explorer.proofs.RunLaws.{ends_limit}
use Rattle.ick_explorer.proofs.Walking.{asks_end, asks_chance, asks_plain, asks_going, made_some}
use Rattle.ick_runs.specs.Chosen.{chosen_of, answer_of, Picks}
use Rattle.ick_runs.proofs.OrdinaryLaws.{runs_plain, runs_choice}
use Rattle.ick_runs.proofs.ChosenLaws.{one_more}
use Rattle.ick_runs.proofs.DriveLaws.{given_more}
use Rattle.ick_runs.proofs.drive.drive.Goals as goal

pub returns-in-Ended-clause-end : goal.returns-in-Ended-clause-end
returns-in-Ended-clause-end g c =
    asks_end c.asks-asked.result c.in-Ended.end c.args.limit c.on.steps (g.M.Backtrack.seen c.on.machine)
    c.in-Ended.is c.asks-asked.ensures

pub returns-then-steps-limit : goal.returns-then-steps-limit
returns-then-steps-limit g c =
    let m = g.M.Backtrack.seen c.on.machine in
    let at : c.on.steps ≡ c.args.limit = grind (arith, common_steps) in
    record {
      runs = c.on.invariant.runs;
      given = c.on.invariant.given;
      end =
          ends_limit c.args.limit m c.on.steps at
          (asks_going c.asks-asked.result m c.in_default.not-Ended c.asks-asked.ensures);
      without = tt;
    }

pub pick-requires : goal.pick-requires
pick-requires g c =
    let m = g.M.Backtrack.seen c.on.machine in
    let h = chance_between m.program m.state c.in-Choice.chance
    (asks_chance c.asks-asked.result c.in-Choice.chance m c.in-Choice.is c.asks-asked.ensures) in
    record { low = h.0; high = h.1 }

pub on-preserved-in-Choice : goal.on-preserved-in-Choice
on-preserved-in-Choice g c =
    let first = g.M.Backtrack.seen c.args.machine.now in
    let m = g.M.Backtrack.seen c.on.machine in
    let i = c.on.invariant in
    let chosen = chosen_of c.args.chooser in
    let taken = c.on.choices.items in
    let done = c.in-Some.done in
    let lt : c.on.steps < c.args.limit = grind (arith, common_steps) in
    let count : c.len.result ≡ length taken = grind (arith, common_steps) in
    let asks : ask m.program m.state ≡ choice c.in-Choice.chance =
    asks_chance c.asks-asked.result c.in-Choice.chance m c.in-Choice.is c.asks-asked.ensures in
    let picks : Picks chosen c.len.result c.on.picker =
    subst (λ n. Picks chosen n c.on.picker) (sym count) i.picks in
    let answer : Some done ≡ answer_of chosen (length taken) c.in-Choice.chance =
    sym c.in-Some.is ∙ (c.pick.ensures.answer chosen picks
    ∙ ap (λ n. answer_of chosen n c.in-Choice.chance) count) in
    record {
      runs =
          subst (λ x. RunsTo c.args.limit first x (g.M.Backtrack.seen c.step.new.self) (c.on.steps + 1))
          (sym c.in_ok-push.ensures.items)
          (runs_choice c.args.limit first m (g.M.Backtrack.seen c.step.new.self) taken c.on.steps
          c.in-Choice.chance done i.runs asks lt c.in_ok-step.ensures.ok);
      given =
          given_more first.program first.state c.args.limit chosen taken c.push.new.self.items m.state c.on.steps
          c.in-Choice.chance done i.given i.runs.leads (ap (λ p. ask p m.state) (sym i.runs.program) ∙ asks) lt answer
          c.in_ok-push.ensures.items;
      picks =
          subst (λ n. Picks chosen n c.pick.new.self)
          (one_more taken c.push.new.self.items done c.len.result c.in_ok-push.ensures.items (sym count))
          (c.pick.ensures.on chosen picks);
    }

pub on-preserved : goal.on-preserved
on-preserved g c =
    let seen = g.M.Backtrack.seen in
    let i = c.on.invariant in
    let lt : c.on.steps < c.args.limit = grind (arith, common_steps) in
    let made = c.in_ok-made.ensures in
    record {
      runs = runs_plain c.args.limit (seen c.args.machine.now) (seen c.on.machine) (seen c.run.new.self)
          c.on.choices.items c.on.steps c.in_ok-made.made i.runs made.ok (omega (arith, made.within, lt));
      given = i.given;
      picks = i.picks;
    }

pub on-smaller : goal.on-smaller
on-smaller g c =
    let m = g.M.Backtrack.seen c.on.machine in
    let lt : c.on.steps < c.args.limit = grind (arith, common_steps) in
    let some = made_some m (g.M.Backtrack.seen c.run.new.self) c.args.limit c.on.steps c.in_ok-made.made
    c.in_ok-made.ensures.ok c.in_ok-made.ensures.rests
    (asks_plain c.asks-asked.result m c.in_default-asked.not-Choice c.in_default.not-Ended c.asks-asked.ensures) lt in
    omega (arith, some, lt)
