use Rattle.std.proofs.Common.{◌≡◌, ◌^◌, ◌-◌, ◌++◌, length, true, false}
use Rattle.ick_devices.specs.Feeds.{HasNoEnd}
use Rattle.ick_devices.proofs.source_feed.SourceFeedFeed.line.Given as goal

abbrev pub invariant-reads : goal.invariant-reads
invariant-reads g l = record {
  count : g.R.ByteSource.failed l.self.source.now ≡ g.R.ByteSource.failed l.initial.self.source.now;
  held : l.self.source.ghost_name ≡ l.initial.self.source.ghost_name;
  given : l.self.is_empty ≡ false;
  so_far : g.R.ByteSource.told ≡ true →
      g.R.ByteSource.left l.initial.self.source.now ≡ l.target.items ++ g.R.ByteSource.left l.self.source.now;
  no_end : HasNoEnd l.target.items;
}

abbrev pub decreases-reads : goal.decreases-reads
decreases-reads g l = 2 ^ 64 - length l.target.items
