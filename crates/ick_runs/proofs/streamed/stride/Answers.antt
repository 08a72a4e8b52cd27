use Rattle.std.proofs.Common.{◌≡◌, ℕ, List, [], true, rules, subst, Ok, Err}
use Rattle.std.specs.Prelude.{Result}
use Rattle.ick_machine.specs.Live.{fed, seen}
use Rattle.ick_machine.specs.Printing.{Prints}
use Rattle.ick_machine.specs.declared.outlet.RunFault.{RunFault}
use Rattle.ick_runs.proofs.streamed.stride.Given.{Over}
use Rattle.ick_runs.proofs.streamed.stride.Goals.{After-run-made}
use Rattle.ick_runs.proofs.streamed.stride.Goals as goal

to : (P : List ℕ → Type 0) {x y : List ℕ} → P x → x ≡ y → P y
to P p same = subst P same p

along : (P : List ℕ → List ℕ → Type 0) {a b x y : List ℕ} → P a b → a ≡ x → b ≡ y → P x y
along P {b = b} {x = x} p first second = subst (λ w. P x w) second (subst (λ l. P l b) first p)

module _ (g : Over) (c : After-run-made g) where
  -- what was written, if this input is left
  abbrev at : (left written : List ℕ) → Result ℕ RunFault → Type 0
  at left written r =
      let old = seen c.args.machine.now in
      Prints g.W.ByteSink.told old.program (fed (g.F.Feed.left c.args.feed.now) old.state) c.args.limit
      (fed left (seen c.run-made.new.self).state) (g.W.ByteSink.written c.args.writer.now) written r

  ran : g.F.Feed.told ≡ true → (r : Result ℕ RunFault) → c.run-made.result.0 ≡ r →
      at (g.F.Feed.left c.run-made.new.feed) (g.W.ByteSink.written c.run-made.result.1.sink.now) r
  ran t r is =
      let old = seen c.args.machine.now in
      let new = seen c.run-made.new.self in
      subst (λ r. Prints g.W.ByteSink.told old.program (fed (g.F.Feed.left c.args.feed.now) old.state) c.args.limit
      (fed (g.F.Feed.left c.run-made.new.feed) new.state) (g.W.ByteSink.written c.args.writer.now)
      (g.W.ByteSink.written c.run-made.result.1.sink.now) r) is (c.run-made.ensures.prints t)

pub returns-in-Ok-clause-prints : goal.returns-in-Ok-clause-prints
returns-in-Ok-clause-prints g c = λ t.
    let stage = (goal.at.returns-in-Ok-clause-prints g c).After-run-made in
    along (λ left w. at g stage left w (Ok c.in-Ok.made)) (ran g stage t (Ok c.in-Ok.made) c.in-Ok.is) (search rules) (search rules)

pub returns-in-Err-NoMemory-clause-prints : goal.returns-in-Err-NoMemory-clause-prints
returns-in-Err-NoMemory-clause-prints g c = λ t.
    let stage = (goal.at.returns-in-Err-NoMemory-clause-prints g c).After-run-made in
    to (λ w. at g stage [] w (Err c.in-Err-NoMemory.field-0)) (ran g stage t (Err c.in-Err-NoMemory.field-0) c.in-Err-NoMemory.is) (search rules)

pub returns-in-Err-Read-clause-prints : goal.returns-in-Err-Read-clause-prints
returns-in-Err-Read-clause-prints g c = λ t.
    let stage = (goal.at.returns-in-Err-Read-clause-prints g c).After-run-made in
    to (λ w. at g stage [] w (Err c.in-Err-Read.field-0)) (ran g stage t (Err c.in-Err-Read.field-0) c.in-Err-Read.is) (search rules)

pub returns-in-Err-Write-clause-prints : goal.returns-in-Err-Write-clause-prints
returns-in-Err-Write-clause-prints g c = λ t.
    let stage = (goal.at.returns-in-Err-Write-clause-prints g c).After-run-made in
    to (λ w. at g stage [] w (Err c.in-Err-Write.field-0)) (ran g stage t (Err c.in-Err-Write.field-0) c.in-Err-Write.is) (search rules)
