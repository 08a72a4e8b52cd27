use Rattle.std.proofs.Common.{◌∷◌, ◌++◌, [], length, take, drop, arith, length-append, append_assoc, ap, sym, ◌∙◌}
use Rattle.std.proofs.Common.{length-drop}
use Rattle.std.specs.List.{flat_map}
use Rattle.std.proofs.lemmas.List.{take_rest}
use Rattle.ick_bits.specs.Quoted.{quoted, escaped}
use Rattle.ick_bits.proofs.AppendingLemmas.{on-err}
use Rattle.ick_bits.proofs.QuotedLemmas.{escaped-more, length-escaped}
use Rattle.ick_bits.proofs.quoted.push_quoted.Goals as goal

pub returns-in_err-done-clause-full : goal.returns-in_err-done-clause-full
unfolding quoted
returns-in_err-done-clause-full c =
    let full = rw (take_rest c.args.text.now c.loop-done.done) at c.in_err-done.ensures.full in
    let part = length-escaped c.args.text.now c.loop-done.done in
    let items = ap length c.loop-done.invariant.items in
    let before =
    length-append c.args.out.now.items (34 ∷ flat_map escaped (take c.loop-done.done c.args.text.now)) in
    let whole = length-append (flat_map escaped c.args.text.now) (34 ∷ []) in
    on-err c.from_residual-in_err-done.result (omega (arith, full, part, items, before, whole))

pub loop-done-preserved : goal.loop-done-preserved
loop-done-preserved c =
    let text = c.args.text.now in
    let done = c.loop-done.done in
    let count = c.in_ok-done.field-0 in
    let within = rw (take_rest text done) at c.in_ok-done.ensures.within in
    let next = rw (take_rest text done) at c.in_ok-done.ensures.ok in
    record {
      within = omega (arith, within, length-drop done text, c.loop-done.invariant.within);
      items =
          next
          ∙ ap (λ l. l ++ flat_map escaped (take count (drop done text))) c.loop-done.invariant.items
          ∙ append_assoc c.args.out.now.items (34 ∷ flat_map escaped (take done text))
          (flat_map escaped (take count (drop done text)))
          ∙ ap (λ l. c.args.out.now.items ++ 34 ∷ l) (sym (escaped-more text done count));
      capacity = omega (arith, c.push_stretch.ensures.capacity, c.loop-done.invariant.capacity);
    }
