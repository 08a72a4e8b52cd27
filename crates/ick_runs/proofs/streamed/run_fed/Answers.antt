use Rattle.std.proofs.Common.{subst}
use Rattle.ick_machine.specs.Live.{LiveMachine, seen, fed, fault_message}
use Rattle.ick_explorer.specs.Runs.{run}
use Rattle.ick_runs.specs.Chosen.{IsChosen, chosen_of}
use Rattle.ick_runs.specs.Streams.{StopsAtInput}
use Rattle.ick_runs.specs.Streaming.{Stops}
use Rattle.ick_runs.proofs.streamed.run_fed.Goals as goal

pub returns-clause-run : goal.returns-clause-run
returns-clause-run g c = λ t c' is_chosen.
    let told = g.W.ByteSink.told in
    let left = g.F.Feed.left in
    let written = g.W.ByteSink.written in
    let holds : LiveMachine → Type 0 = λ m. IsChosen m.program (fed (left c.args.feed.now) m.state) c.args.limit
    (chosen_of c.args.chooser) c' →
    Stops told (run m.program (fed (left c.args.feed.now) m.state) c.args.limit c') c'
    c.run_on-ran.new.choices.items (fault_message (seen c.run_on-ran.new.machine)) (written c.args.writer.now)
    (written c.run_on-ran.new.writer) (left c.run_on-ran.new.feed) c.run_on-ran.result in
    let stops = subst holds c.in_ok-machine.ensures
    (c.run_on-ran.ensures.run t (chosen_of c.args.chooser) c.new-picker.ensures c') is_chosen in
    c.finish.ensures.run told _ c' _ _ _ stops

pub returns-clause-input : goal.returns-clause-input
returns-clause-input g c = λ t c' is_chosen is_read.
    let left = g.F.Feed.left in
    let written = g.W.ByteSink.written in
    let holds : LiveMachine → Type 0 = λ m. IsChosen m.program (fed (left c.args.feed.now) m.state) c.args.limit
    (chosen_of c.args.chooser) c' →
    StopsAtInput g.W.ByteSink.told m.program (fed (left c.args.feed.now) m.state) c.args.limit c'
    (written c.args.writer.now) (written c.run_on-ran.new.writer) in
    subst holds c.in_ok-machine.ensures
    (λ is. c.run_on-ran.ensures.input t (chosen_of c.args.chooser) c.new-picker.ensures c' is
    (c.finish.ensures.input is_read)) is_chosen
