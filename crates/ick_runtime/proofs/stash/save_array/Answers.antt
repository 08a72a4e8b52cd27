use Rattle.std.proofs.Common.{get_or, map, rules, slice_set, ◌≡◌}
use Rattle.ick_runtime.proofs.Names.{array_of, arrays_of, ChangesAt, get_or-map, IsPutOn, no_array, with_array_stashes}
use Rattle.ick_runtime.proofs.StashingLemmas.{changes_at, like_arrays, like_at, saved_like}
use Rattle.ick_runtime.proofs.stash.save_array.Goals as goal

pub returns-in_err-save-clause-notes : goal.returns-in_err-save-clause-notes
returns-in_err-save-clause-notes g c = search (rules, like_arrays, like_at)

pub returns-clause-saved : goal.returns-clause-saved
returns-clause-saved g c =
    let arrays = c.args.arrays.now.items in
    let array : array_of c.index.result.now ≡ get_or (map array_of arrays) c.args.slot no_array =
    cc (c.index.ensures, get_or-map array_of arrays c.args.slot c.index.result.now no_array c.requires.array) in
    rw (← array) (changes_at arrays_of (IsPutOn (array_of c.index.result.now)) c.args.stashes.now.items c.args.slot
    c.index_mut.result.now c.save.new.self c.requires.slot c.index_mut.ensures.value c.in_ok-save.ensures.ok)

pub returns-clause-notes : goal.returns-clause-notes
returns-clause-notes g c = λ k v m same h.
    let old = map arrays_of c.args.stashes.now.items in
    let new = map arrays_of (slice_set c.args.stashes.now.items c.args.slot c.save.new.self) in
    let x = array_of c.index.result.now in
    let at : ChangesAt c.args.slot (IsPutOn x) old new =
    changes_at arrays_of (IsPutOn x) c.args.stashes.now.items c.args.slot c.index_mut.result.now c.save.new.self
    c.requires.slot c.index_mut.ensures.value c.in_ok-save.ensures.ok in
    c.note.ensures.notes k (with_array_stashes new v) m tt (c.law.ensures.alike k v _ m
    (like_arrays _ _ v _ (saved_like x c.args.slot _ old new same at)) h)
