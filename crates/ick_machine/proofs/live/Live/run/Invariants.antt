use Rattle.std.proofs.Common.{◌≡◌, ◌≤◌, ◌-◌, true, false}
use Rattle.ick_machine.{proofs.AlongLemmas.IsAlong, specs.Live.{fed, seen}}
use Rattle.ick_machine.proofs.live.Live.run.Given as goal

abbrev pub invariant-on : goal.invariant-on
invariant-on g l =
    let left = g.F.Feed.left in
    let first = seen l.fn.self in
    record {
      reads : g.F.Feed.failed l.feed ≡ g.F.Feed.failed l.fn.feed;
      writes : g.O.Outlet.failed l.outlet ≡ g.O.Outlet.failed l.fn.outlet;
      held : g.F.Feed.held l.feed ≡ g.F.Feed.held l.fn.feed;
      given : g.O.Outlet.held l.outlet ≡ g.O.Outlet.held l.fn.outlet;
      sound : (seen l.self).failed ≡ false;
      program : (seen l.self).program ≡ first.program;
      within : l.made ≤ l.limit;
      along : g.F.Feed.told ≡ true → IsAlong g.O.Outlet.told first.program (fed (left l.fn.feed) first.state)
          (fed (left l.feed) (seen l.self).state) (g.O.Outlet.written l.fn.outlet) (g.O.Outlet.written l.outlet) l.made;
    }

abbrev pub decreases-on : goal.decreases-on
decreases-on g l = l.limit - l.made
