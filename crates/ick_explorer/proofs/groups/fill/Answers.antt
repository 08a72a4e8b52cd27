use Rattle.std.proofs.Common.{◌<◌, ◌+◌, vec_len, drop, length, refl, arith, sym, subst, ◌∙◌}
use Rattle.std.specs.Prelude.{Some, None}
use Rattle.std.proofs.lemmas.Grind.{common_steps}
use Rattle.std.proofs.lemmas.List.{take_rest}
use Rattle.ick_explorer.specs.ChoiceTexts.{IsGrouped}
use Rattle.ick_explorer.specs.Readings.{IsRead, front_group}
use Rattle.ick_explorer.proofs.ReadingLaws.{no_front, filled, group_at, group_ends, group_goes_on, comma_behind}
use Rattle.ick_explorer.proofs.ReadingLaws.{size_exact}
use Rattle.ick_explorer.proofs.groups.fill.Goals as goal

pub unreachable-requires : goal.unreachable-requires
unreachable-requires c =
    let i = c.groups.invariant in
    let valid = c.requires.valid in
    no_front c.args.text.now c.groups.last c.groups.at c.groups.choices.items i.read (λ g tail d l n is.
    c.in_default.ensures.none refl g tail d l n (take_rest c.args.text.now c.groups.at ∙ is)) valid.0 valid.1

pub returns-then-at-text-clause-ok : goal.returns-then-at-text-clause-ok
returns-then-at-text-clause-ok c =
    let i = c.groups.invariant in
    let valid = c.requires.valid in
    let f = c.in-Some.front in
    let g = front_group f (drop c.groups.at c.args.text.now) in
    let h = group_at c.args.text.now c.groups.last c.groups.at f c.in-Some.ensures.some in
    subst (λ x. IsGrouped None c.args.text.now x)
    (sym (filled c.groups.choices.items c.resize.new.self.items g f.size (vec_len c.groups.choices) (c.len.result + f.size)
    c.in-Ok.ensures.items (omega (arith, c.groups.choices.ok.0)) (grind (arith, common_steps))
    (size_exact h i.read valid.0 valid.1 valid.2)))
    (group_ends h i.read (grind (arith, common_steps)))

pub groups-preserved : goal.groups-preserved
groups-preserved c =
    let i = c.groups.invariant in
    let valid = c.requires.valid in
    let f = c.in-Some.front in
    let g = front_group f (drop c.groups.at c.args.text.now) in
    let h = group_at c.args.text.now c.groups.last c.groups.at f c.in-Some.ensures.some in
    let after = c.groups.at + (f.count + 2) in
    let some : after < length c.args.text.now = grind (arith, common_steps) in
    record {
      within = omega arith;
      read = subst (λ x. IsRead c.args.text.now (Some f.choice) (after + 1) x)
          (sym (filled c.groups.choices.items c.resize.new.self.items g f.size (vec_len c.groups.choices) (c.len.result + f.size)
          c.in-Ok.ensures.items (omega (arith, c.groups.choices.ok.0)) (grind (arith, common_steps))
          (size_exact h i.read valid.0 valid.1 valid.2)))
          (group_goes_on h i.read some (comma_behind h i.read some valid.0 valid.1));
    }
