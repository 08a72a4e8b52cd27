use Rattle.std.proofs.Common.{◌≡◌, ◌≤◌, count_by, take}
use Rattle.ick_source.specs.declared.seen.Seen.{Seen}
use Rattle.ick_source.proofs.survey.polite_in.Given as goal

abbrev pub invariant-loop-one : goal.invariant-loop-one
invariant-loop-one l = record {
  counted : l.polite ≡ count_by (λ (x : Seen). x.statement.polite) (take l.one-index l.seen);
  low : l.polite ≤ l.one-index;
}
