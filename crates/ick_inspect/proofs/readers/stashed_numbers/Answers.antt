use Rattle.std.proofs.Common.{arith, ap, reverse, sym, take, ◌∙◌}
use Rattle.std.proofs.lemmas.List.{length-map}
use Rattle.ick_runtime.specs.View.{numbers_of, scalar_names}
use Rattle.ick_machine.specs.StateView.{present_state}
use Rattle.ick_inspect.proofs.ReaderLemmas.{map_of-used}
use Rattle.ick_inspect.proofs.readers.stashed_numbers.Goals as goal

pub returns-in-Some : goal.returns-in-Some
unfolding present_state
returns-in-Some c =
    let stashes = c.args.present.now.memory.now.rest.scalar_stashes.items in
    let stash = c.index-stash.result.now in
    ap reverse (map_of-used (scalar_names c.args.present.now.lowered.now.code.now) numbers_of stashes c.in-Some.slot c.args.name
    stash c.law.ensures.program.compiled.scalars_once
    (omega (arith, c.law.ensures.ready.steady.scalar_stashes, length-map stashes numbers_of)) c.in-Some.ensures c.index-stash.ensures)
    ∙ ap (λ l. reverse (take stash.depth l)) (sym c.deref.ensures.value)
