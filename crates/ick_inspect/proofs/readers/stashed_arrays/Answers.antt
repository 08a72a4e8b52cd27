use Rattle.std.proofs.Common.{arith, ap, map, reverse, sym, take, ◌∙◌}
use Rattle.std.proofs.lemmas.List.{length-map, take-map}
use Rattle.ick_runtime.specs.View.{array_names, array_of, arrays_of}
use Rattle.ick_machine.specs.StateView.{present_state}
use Rattle.ick_inspect.proofs.ReaderLemmas.{map_of-used}
use Rattle.ick_inspect.proofs.readers.stashed_arrays.Goals as goal

pub returns-in-Some : goal.returns-in-Some
unfolding present_state
returns-in-Some c =
    let stashes = c.args.present.now.memory.now.rest.array_stashes.items in
    let stash = c.index-stash.result.now in
    ap reverse (map_of-used (array_names c.args.present.now.lowered.now.code.now) arrays_of stashes c.in-Some.slot c.args.name
    stash c.law.ensures.program.compiled.arrays_once
    (omega (arith, c.law.ensures.ready.steady.array_stashes, length-map stashes arrays_of)) c.in-Some.ensures c.index-stash.ensures)
    ∙ ap reverse (take-map array_of stash.depth stash.items.items)
    ∙ ap (λ l. reverse (map array_of (take stash.depth l))) (sym c.deref.ensures.value)
