use Rattle.std.proofs.Common.{◌≡◌, true}
use Rattle.ick_session.specs.Session.{settings, seen}
use Rattle.ick_step_cli.specs.Left.{IsQuit}
use Rattle.ick_step_cli.specs.Talk.{lines_of, typed}
use Rattle.ick_step_cli.proofs.Leaving.{Goes}
use Rattle.ick_step_cli.proofs.TalkLaws.{Talking}
use Rattle.ick_step_cli.proofs.session.talk.Given as goal

abbrev pub invariant-loop-at : goal.invariant-loop-at
invariant-loop-at g l = record {
  same : settings l.session ≡ record (settings l.initial.session) { breakpoints = (settings l.session).breakpoints };
  reads : g.R.ByteSource.failed l.reader ≡ g.R.ByteSource.failed l.initial.reader;
  writes : g.W.ByteSink.failed l.writer ≡ g.W.ByteSink.failed l.initial.writer;
  talking : g.R.ByteSource.told ≡ true → g.W.ByteSink.told ≡ true →
      Talking (settings l.initial.session) (settings l.session) l.positions (seen l.initial.session) (seen l.session)
      (typed l.terminal (g.R.ByteSource.left l.initial.reader)) (lines_of (g.R.ByteSource.left l.reader))
      l.last.items
      (g.W.ByteSink.written l.initial.writer) (g.W.ByteSink.written l.writer) l.out l._at;
  last_goes : ¬ IsQuit l.last.items;
  goes : g.R.ByteSource.told ≡ true → Goes (g.R.ByteSource.left l.initial.reader) (g.R.ByteSource.left l.reader);
}
