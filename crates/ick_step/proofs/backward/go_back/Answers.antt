use Rattle.std.proofs.Common.{sym, ◌∙◌, subst}
use Rattle.ick_step.specs.History.{IsHistory}
use Rattle.ick_step.specs.Seen.{start_of}
use Rattle.ick_step.proofs.HistoryLaws.{history-take, history-same}
use Rattle.ick_step.proofs.backward.go_back.Goals as goal

pub replay-reached-requires-clause-history : goal.replay-reached-requires-clause-history
replay-reached-requires-clause-history g c =
    let old = g.M.Backtrack.seen c.args.machine.now in
    let m = g.M.Backtrack.seen c.rewind-from.new.machine in
    let xs = c.args.answers.now.items in
    subst (IsHistory m.program (start_of m)) (sym (c.deref-2.ensures.value ∙ c.truncate.ensures.items))
    (history-same old.program m.program (start_of old) (start_of m) _ c.rewind-from.ensures.program
    c.rewind-from.ensures.start (history-take old.program (start_of old) c.args.target xs c.requires.kept.history))
