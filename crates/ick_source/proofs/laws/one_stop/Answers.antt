use Rattle.std.proofs.Common.{sym, ◌∙◌}
use Rattle.ick_source.specs.BodyGrammar.{bodies}
use Rattle.ick_source.proofs.GrammarLaws.{found}
use Rattle.ick_source.proofs.Readings.{found_nothing}
use Rattle.ick_source.proofs.StopLemmas.{one_stop, stop_there, stopped}
use Rattle.ick_source.proofs.laws.one_stop.Goals as goal

pub returns : goal.returns
returns c = λ from. record {
  stopped = λ absent. stop_there bodies from from (found_nothing bodies from absent);
  one = λ at at' w w' p q. one_stop bodies from from at at' w w' p q;
  never_both = λ to at x w p q.
      let e = sym (found bodies from to x p) ∙ stopped bodies from from at w q in absurd (cc);
}
