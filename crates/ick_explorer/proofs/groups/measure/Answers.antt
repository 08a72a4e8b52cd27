use Rattle.std.proofs.Common.{drop, length, refl, arith, sym, subst, ◌∙◌}
use Rattle.std.proofs.lemmas.Grind.{common_steps}
use Rattle.std.proofs.lemmas.List.{take_rest}
use Rattle.std.specs.Str.Parse.{digits_value}
use Rattle.ick_explorer.specs.Readings.{IsCapped, front_group}
use Rattle.ick_explorer.proofs.ReadingLaws.{capped_min, no_front, capped_sum, stretch_size, group_at, group_ends, group_goes_on}
use Rattle.ick_explorer.proofs.ReadingLaws.{group_is_last}
use Rattle.ick_explorer.proofs.groups.measure.Goals as goal

pub returns-in_default-clause-none : goal.returns-in_default-clause-none
returns-in_default-clause-none c = λ e.
    let i = c.groups.invariant in
    no_front c.args.text.now c.groups.last c.groups.at i.read.0 i.read.1 (λ g tail d l n is.
    c.in_default.ensures.none refl g tail d l n (take_rest c.args.text.now c.groups.at ∙ is))

pub returns-then-at-text-clause-some : goal.returns-then-at-text-clause-some
returns-then-at-text-clause-some c =
    let i = c.groups.invariant in
    let f = c.in-Some.front in
    let g = front_group f (drop c.groups.at c.args.text.now) in
    let h = group_at c.args.text.now c.groups.last c.groups.at f c.in-Some.ensures.some in (
      _,
      group_ends h i.read.1 (grind (arith, common_steps)),
      subst (λ n. IsCapped c.min-total.result n) (sym (stretch_size g i.read.0))
          (capped_sum c.groups.total f.size (length i.read.0) (digits_value 10 g.digits) c.min-total.result i.read.2 h.size_is
          (capped_min _ _ c.min-total.ensures)),
    )

pub returns-then-text-at-ne44-clause-none : goal.returns-then-text-at-ne44-clause-none
returns-then-text-at-ne44-clause-none c = λ e.
    let i = c.groups.invariant in
    let f = c.in-Some.front in
    let h = group_at c.args.text.now c.groups.last c.groups.at f c.in-Some.ensures.some in
    group_is_last h i.read.1 (grind (arith, common_steps)) (grind (arith, common_steps))

pub groups-preserved : goal.groups-preserved
groups-preserved c =
    let i = c.groups.invariant in
    let f = c.in-Some.front in
    let g = front_group f (drop c.groups.at c.args.text.now) in
    let h = group_at c.args.text.now c.groups.last c.groups.at f c.in-Some.ensures.some in
    record {
      within = grind (arith, common_steps);
      read = (
        _,
        group_goes_on h i.read.1 (grind (arith, common_steps)) (grind (arith, common_steps)),
        subst (λ n. IsCapped c.min-total.result n) (sym (stretch_size g i.read.0))
            (capped_sum c.groups.total f.size (length i.read.0) (digits_value 10 g.digits) c.min-total.result i.read.2 h.size_is
            (capped_min _ _ c.min-total.ensures)),
      );
    }
