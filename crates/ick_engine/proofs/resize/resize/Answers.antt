use Rattle.std.proofs.Common.{arith}
use Rattle.ick_runtime.proofs.DimensionLemmas.{sized_back}
use Rattle.ick_engine.proofs.CountLemmas.{no_fault, stays_hidden}
use Rattle.ick_engine.proofs.resize.resize.Goals as goal

pub returns-then-array-clause-resized : goal.returns-then-array-clause-resized
returns-then-array-clause-resized g c = (
  no_fault _ _ c.count_of-count.ensures c.if-count-eq0.false (omega (arith, c.if-count-gt65536.false)),
  stays_hidden c.args.arrays.now.items c.args.slot c.index_mut-array.result.now c.index_mut-array.ensures.value
      c.requires.slot c.if-array.true _,
)

pub returns-in-Ok-set_dimensions-clause-notes : goal.returns-in-Ok-set_dimensions-clause-notes
returns-in-Ok-set_dimensions-clause-notes g c =
    sized_back c.args.arrays.now.items c.args.slot c.set_dimensions.new.array c.index_mut-array.result.now
    c.index_mut-array.ensures.value g.N.Notes.Undoes c.args.notes.now c.note_array.new.self
    c.in-Ok.ensures.notes

pub returns-in-Err-clause-notes : goal.returns-in-Err-clause-notes
returns-in-Err-clause-notes g c =
    sized_back c.args.arrays.now.items c.args.slot c.set_dimensions.new.array c.index_mut-array.result.now
    c.index_mut-array.ensures.value g.N.Notes.Undoes c.args.notes.now c.note_array.new.self
    c.in-Ok.ensures.notes
