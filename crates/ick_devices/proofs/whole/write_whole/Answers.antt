use Rattle.std.proofs.Common.{◌≡◌, ◌∙◌, ◌+◌, ◌-◌, ◌++◌, ℕ, List, length, ap, append_assoc}
use Rattle.std.proofs.Common.{sym, take, drop, arith, rules, length-drop}
use Rattle.std.proofs.Math.Seq.{take-add}
use Rattle.std.proofs.lemmas.List.{take_rest}
use Rattle.ick_devices.proofs.whole.write_whole.Goals as goal

-- n more bytes of a text were written behind its first `at`
more_written : (before held after text : List ℕ) (at n : ℕ) → held ≡ before ++ take at text
    → after ≡ held ++ take n (take (length text - at) (drop at text))
    → after ≡ before ++ take (at + n) text
more_written before held after text at n so_far wrote =
    (rw take_rest at wrote)
    ∙ (ap (λ w. w ++ take n (drop at text)) so_far
    ∙ (append_assoc before (take at text) (take n (drop at text))
    ∙ ap (λ t. before ++ t) (sym (take-add at n text))))

pub loop-at-preserved : goal.loop-at-preserved
loop-at-preserved g c = record {
  within = omega (arith, c.in_ok-at.ensures.fits, length-drop c.loop-at.at c.args.text.now);
  count = search rules;
  so_far = λ told. more_written _ _ _ c.args.text.now c.loop-at.at c.in_ok-at.field-0
      (c.loop-at.invariant.so_far told) (c.in_ok-at.ensures.written told);
}
