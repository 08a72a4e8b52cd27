-- How one run goes whose choices are drawn.
use Rattle.std.proofs.Common.{◌≡◌, ◌∙◌, ℕ, Bool, List, length, sym, subst, arith}
use Rattle.std.specs.Prelude.{Result, Ok, Option, Some, None, IfSome, IfNone}
use Rattle.ick_bits.specs.declared.memory.NoMemory.{NoMemory}
use Rattle.ick_backtrack.specs.Machine.{Machine}
use Rattle.ick_backtrack.specs.Asked.{Finish, finish_of}
use Rattle.ick_backtrack.specs.declared.asking.End.{End}
use Rattle.ick_explorer.specs.Runs.{run}
use Rattle.ick_explorer.specs.Paths.{RunsTo}
use Rattle.ick_explorer.specs.Walks.{EndsHere}
use Rattle.ick_runs.specs.Ordinary.{IsRan, HasEnded, HasStopped, UsesAll}
use Rattle.ick_runs.specs.Draws.{IsDrawn, AreDrawn, word_of}
use Rattle.ick_runs.specs.Chosen.{IsWithout, seeded}
use Rattle.ick_runs.specs.declared.ordinary.Ran.{Ran}
use Rattle.ick_runs.specs.declared.ordinary.Ran.TheVariants.{Ended, Wants}
use Rattle.ick_runs.proofs.OrdinaryLaws.{take_whole, ran_ended}
use Rattle.ick_runs.proofs.DrawLaws.{drawn-whole}

-- what a seeded run answers
pub record IsSeeded (l : ℕ) (word : ℕ → ℕ) (m₀ : Machine) (c : List Bool) (r : Ran) : Type 0 where
  pub choices : IsDrawn m₀.program m₀.state l word c
  pub all : UsesAll c r
  pub ran : IsRan c (run m₀.program m₀.state l c) r

uses_all : (c : List Bool) (output : List ℕ) (f : Finish) (used n : ℕ) (ran : Ran) → used ≡ length c →
    HasEnded output f used n ran → UsesAll c ran
uses_all c output f used n (Ended o e u k) count (a, b, d, g) = d ∙ count
uses_all c output f used n (Wants o k) count has = absurd has

-- a seed never lacks a choice, so a run that stopped has ended
pub seeded_stopped : (l seed : ℕ) (m₀ m : Machine) (c : List Bool) (used n : ℕ) (end : Option End) →
    AreDrawn m₀.program m₀.state l (word_of seed) c → used ≡ length c → RunsTo l m₀ c m n →
    IfSome end (λ e. EndsHere l m n (finish_of e)) → IfNone end (IsWithout (seeded seed) l c m n) → (ran : Ran) →
    HasStopped m.state.output end used n ran → IsSeeded l (word_of seed) m₀ c ran
seeded_stopped l seed m₀ m c used n (Some e) drawn count runs here without ran has =
    let answer : Result Ran NoMemory = Ok ran in
    record {
      choices = drawn-whole l (word_of seed) m₀ m c n (finish_of e) drawn runs here;
      all = uses_all c m.state.output (finish_of e) used n ran count has;
      ran = (ran_ended l m₀ m c used n (finish_of e) (omega (arith, count))
          (subst (λ x. RunsTo l m₀ x m n) (sym (take_whole c used count)) runs) here answer has).is_run;
    }
seeded_stopped l seed m₀ m c used n None drawn count runs here without ran has =
    absurd (let none = without.none in cc)
