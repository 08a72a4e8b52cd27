use Rattle.std.proofs.Common.{◌≡◌, ◌≤◌, ◌+◌, ◌*◌, false, Bool, List}
use Rattle.ick_code.specs.meaning.State.{State}
use Rattle.ick_explorer.specs.Listings.{IsListing}
use Rattle.ick_explorer.specs.Standing.{Stands}
use Rattle.ick_explorer.specs.WritingSteps.{Along}
use Rattle.ick_explorer.specs.Explorers.{explored}
use Rattle.ick_explorer.proofs.writing.write_runs.Given as goal

abbrev pub invariant-each : goal.invariant-each
invariant-each g l = record {
  sound : (explored l.explorer).failed ≡ false;
  limit : (explored l.explorer).limit ≡ (explored l.initial.explorer).limit;
  work : (explored l.explorer).work ≤ (explored l.initial.explorer).work + l._i * (explored l.initial.explorer).limit;
  count : g.W.ByteSink.failed l.writer ≡ g.W.ByteSink.failed l.initial.writer;
  along : (s : State) (cs : List (List Bool)) → Stands s (explored l.initial.explorer) →
      IsListing (explored l.initial.explorer).program s (explored l.initial.explorer).limit
      (explored l.initial.explorer).from cs →
      Along g.W.ByteSink.told s cs l._i (explored l.initial.explorer) (explored l.explorer)
      (g.W.ByteSink.written l.initial.writer) (g.W.ByteSink.written l.writer);
}
