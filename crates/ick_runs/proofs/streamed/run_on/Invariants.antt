use Rattle.std.proofs.Common.{◌≡◌, ◌≤◌, ◌-◌, length, true, false, List, Bool}
use Rattle.ick_machine.specs.Live.{seen, fed}
use Rattle.ick_runs.specs.Chosen.{Chosen, IsChosen, Picks}
use Rattle.ick_runs.specs.Streaming.{AreTaken, IsAlong}
use Rattle.ick_runs.proofs.streamed.run_on.Given as goal

abbrev pub invariant-along : goal.invariant-along
invariant-along g l =
    let left = g.F.Feed.left in
    let written = g.W.ByteSink.written in
    let first = seen l.fn.machine in
    let now = seen l.machine in
    record {
      reads : g.F.Feed.failed l.feed ≡ g.F.Feed.failed l.fn.feed;
      writes : g.W.ByteSink.failed l.writer ≡ g.W.ByteSink.failed l.fn.writer;
      held : g.F.Feed.held l.feed ≡ g.F.Feed.held l.fn.feed;
      sound : now.failed ≡ false;
      program : now.program ≡ first.program;
      within : l.steps ≤ l.limit;
      picks : (chosen : Chosen) → Picks chosen 0 l.fn.picker → Picks chosen (length l.choices.items) l.picker;
      along : g.F.Feed.told ≡ true →
          IsAlong g.W.ByteSink.told first.program (fed (left l.fn.feed) first.state) l.limit l.choices.items
          (fed (left l.feed) now.state) (written l.fn.writer) (written l.writer) l.steps;
      taken : g.F.Feed.told ≡ true → (chosen : Chosen) → Picks chosen 0 l.fn.picker → (c : List Bool) →
          IsChosen first.program (fed (left l.fn.feed) first.state) l.limit chosen c →
          AreTaken c l.choices.items;
    }

abbrev pub decreases-along : goal.decreases-along
decreases-along g l = l.limit - l.steps
