use Rattle.std.proofs.Common.{◌≡◌, ◌≢◌, ◌==◌, ◌<◌, ◌≤◌, ◌∷◌, [], nat_eq, true, false, inl, inr}
use Rattle.std.proofs.Common.{length, map, arith, refl, ap, sym, ◌∙◌}
use Rattle.std.proofs.lemmas.Grind.{common_steps}
use Rattle.std.specs.Cmp.Lexicographic.{pointwise}
use Rattle.ick_explorer.proofs.TextLaws.{reads_digits, if_ok, length_read}
use Rattle.ick_explorer.proofs.reading.read_choices.Goals as goal

pub returns-then-not-all_digits-clause-bad_cursor : goal.returns-then-not-all_digits-clause-bad_cursor
returns-then-not-all_digits-clause-bad_cursor c = λ e c' h.
    let text = c.args.text.now in
    let dash : text ≢ 45 ∷ [] = λ f.
    let g : false ≡ pointwise nat_eq (45 ∷ []) (45 ∷ []) =
    sym c.if-eq.false ∙ (c.eq.ensures ∙ (ap (λ x. pointwise nat_eq x c.as_slice.result.now) f
    ∙ ap (λ x. pointwise nat_eq (45 ∷ []) x) c.as_slice.ensures)) in
    let h : false ≡ true = g in
    cc in
    elim h [
      | inl x ↦ c.all_digits.ensures.none c.if-not-all_digits.true dash c' x
      | inr x ↦ c.read_groups.ensures.bad_cursor e c' x
    ]

pub returns-then-text-limit-clause-no_such_run : goal.returns-then-text-limit-clause-no_such_run
returns-then-text-limit-clause-no_such_run c = λ e.
    let text = c.args.text.now in
    let digits = c.all_digits.ensures in
    let over : c.args.limit < length text = grind (arith, common_steps) in
    let n = length_read text in
    let is = c.if-not-all_digits.false in
    (map (λ b. b == 49) text, inl (reads_digits text _ (digits.some is) (digits.all is) refl), omega (arith, n, over))

pub returns-clause-ok : goal.returns-clause-ok
returns-clause-ok c =
    let text = c.args.text.now in
    let digits = c.all_digits.ensures in
    let is = c.if-not-all_digits.false in
    let within : length text ≤ c.args.limit = grind (arith, common_steps) in
    let n = length_read text in
    if_ok c.choices_of.result
    (λ v e. (
      inl (reads_digits text v.items (digits.some is) (digits.all is) e),
      let m = ap length e in omega (arith, m, n, within),
    ))
    c.choices_of.ensures.ok

pub returns-clause-no_memory : goal.returns-clause-no_memory
returns-clause-no_memory c = λ e.
    let text = c.args.text.now in
    let digits = c.all_digits.ensures in
    let is = c.if-not-all_digits.false in
    let within : length text ≤ c.args.limit = grind (arith, common_steps) in
    let n = length_read text in
    (map (λ b. b == 49) text, inl (reads_digits text _ (digits.some is) (digits.all is) refl), omega (arith, n, within))
