use Rattle.std.proofs.{Common.{ap, ap₂, arith}, lemmas.Grind.common_steps, Math.Seq.map-set_same}
use Rattle.std.proofs.lemmas.List.{get_or-map, with_items_is}
use Rattle.ick_runtime.{specs.View.{array_of, is_hidden, parts_of}, proofs.ArrayLists.{put_back, put_same}}
use Rattle.ick_engine.proofs.{TapeIn.{array_filled, all_read}, NotingLemmas.{noted_parts, array_noted}}
use Rattle.ick_engine.proofs.tape.read_array.Goals as goal

pub returns-clause-read : goal.returns-clause-read
returns-clause-read g c = grind (arith, common_steps, all_read, array_filled, get_or-map, map-set_same, with_items_is)

pub returns-in_err-note_reading-clause-notes : goal.returns-in_err-note_reading-clause-notes
returns-in_err-note_reading-clause-notes g c =
    let m = c.args.rest.now in
    let old = parts_of m in
    let r = c.index-array.result.now in
    noted_parts
    (array_noted c.note_reading.ensures.notes c.args.slot (array_of r)
    c.in_ok-note_array.ensures.noted.kept c.in_ok-note_array.ensures.notes) old old
    (ap (λ l. record old { arrays = l }) (put_same array_of m.arrays.items c.args.slot r c.index-array.ensures))

pub returns-clause-notes : goal.returns-clause-notes
returns-clause-notes g c =
    let m = c.args.rest.now in
    let old = parts_of m in
    let all = m.arrays.items in
    let slot = c.args.slot in
    let r = c.index-array.result.now in
    noted_parts
    (array_noted c.note_reading.ensures.notes slot (array_of r)
    c.in_ok-note_array.ensures.noted.kept c.in_ok-note_array.ensures.notes) old _
    (ap₂ (λ arrays hidden. record old { arrays = arrays; hidden = hidden })
    (put_back array_of all slot _ r c.index-array.ensures)
    (map-set_same is_hidden all slot _ c.index_mut-array.result.now (ap is_hidden c.index_mut-array.ensures.value)))

pub returns-in_err-read_bytes-clause-notes : goal.returns-in_err-read_bytes-clause-notes
returns-in_err-read_bytes-clause-notes g c =
    let m = c.args.rest.now in
    let old = parts_of m in
    let all = m.arrays.items in
    let slot = c.args.slot in
    let r = c.index-array.result.now in
    noted_parts
    (array_noted c.note_reading.ensures.notes slot (array_of r)
    c.in_ok-note_array.ensures.noted.kept c.in_ok-note_array.ensures.notes) old _
    (ap₂ (λ arrays hidden. record old { arrays = arrays; hidden = hidden })
    (put_back array_of all slot _ r c.index-array.ensures)
    (map-set_same is_hidden all slot _ c.index_mut-array.result.now (ap is_hidden c.index_mut-array.ensures.value)))
