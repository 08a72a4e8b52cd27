use Rattle.std.proofs.Common.{◌≡◌, rules, if◌then◌else◌, Bool, false, List, [], ℕ, ap, subst}
use Rattle.ick_code.specs.{Compiled.code_program, meaning.Move.first_state}
use Rattle.ick_explorer.specs.Runs.{run}
use Rattle.ick_runs.specs.Streams.{Streams}
use Rattle.ick_runs.proofs.streamed.run_stream.Goals as goal

-- a feed that isn't empty has left what its source has left
rest : {R : Type 0} (left : R → List ℕ) (is_empty : Bool) (now after : R) → is_empty ≡ false → now ≡ after →
    (if is_empty then [] else left now) ≡ left after
rest left is_empty now after given same = rw given (ap left same)

pub returns-clause-run : goal.returns-clause-run
returns-clause-run g c = λ t c' chosen.
    let program = code_program c.args.code.now in
    let first = first_state program (g.R.ByteSource.left c.args.reader.now) in
    let written = g.W.ByteSink.written in
    subst (λ left. Streams g.W.ByteSink.told (run program first c.args.limit c') c' (written c.args.writer.now)
    (written c.run_fed.new.writer) left c.run_fed.result)
    (rest g.R.ByteSource.left c.run_fed.new.feed.is_empty c.run_fed.new.feed.source.now _
    (ap (λ held. held.1) c.run_fed.ensures.held) (search rules))
    (c.run_fed.ensures.run t c' chosen)
