use Rattle.std.proofs.Common.{◌≡◌, ◌<◌, ◌≤◌, ◌+◌, ◌++◌, length, take, vec_len}
use Rattle.std.proofs.Common.{arith, ap, ◌∙◌, append_assoc}
use Rattle.std.proofs.lemmas.Grind.{common_steps}
use Rattle.std.proofs.lemmas.List.{take_rest, take-append-le}
use Rattle.ick_explorer.specs.Printing.{comma_before}
use Rattle.ick_explorer.proofs.TextLaws.{on_error}
use Rattle.ick_explorer.proofs.PrintLaws.{pushed_last, pushed_on, group_fits, longer_by}
use Rattle.ick_explorer.proofs.choice_texts.push_groups.Goals as goal

pub returns-then-at-choices-clause-ok : goal.returns-then-at-choices-clause-ok
returns-then-at-choices-clause-ok c =
    let i = c.groups.invariant in
    let choices = c.args.choices.now in
    let s = c.stretch-size.ensures in
    let out = c.groups.out.items in
    let before = comma_before c.groups.later in
    let all : c.groups.at + c.stretch-size.result ≡ length choices = grind (arith, common_steps) in
    pushed_last c.args.out.now.items (out ++ before) c.push_group.new.out.items choices _ c.groups.at
    c.stretch-size.result _ (take_rest choices c.groups.at) i.text
    s.same s.some s.stops c.in_ok-push_group.ensures.ok all

pub groups-preserved : goal.groups-preserved
groups-preserved c =
    let i = c.groups.invariant in
    let choices = c.args.choices.now in
    let s = c.stretch-size.ensures in
    let out = c.groups.out.items in
    let before = comma_before c.groups.later in
    let more : c.groups.at + c.stretch-size.result < length choices = grind (arith, common_steps) in
    let size : vec_len c.groups.out ≡ length out = omega (arith, c.groups.out.ok.0) in
    let front : vec_len c.args.out.now ≤ length out = omega (arith, i.longer, size) in
    let more_out = longer_by out c.push_group.new.out.items before _ c.in_ok-push_group.ensures.ok in
    record {
      within = more;
      capacity = grind (arith, common_steps);
      longer = omega (arith, front, more_out, c.push_group.new.out.ok.0);
      front =
          ap (take (vec_len c.args.out.now)) (c.in_ok-push_group.ensures.ok ∙ append_assoc out before _)
          ∙ (take-append-le (vec_len c.args.out.now) out _ front ∙ i.front);
      text =
          pushed_on c.args.out.now.items (out ++ before) c.push_group.new.out.items choices _ c.groups.at
          c.stretch-size.result _ (take_rest choices c.groups.at) i.text
          s.same s.some s.stops c.in_ok-push_group.ensures.ok more;
    }

pub returns-in_err-push_group-clause-full : goal.returns-in_err-push_group-clause-full
returns-in_err-push_group-clause-full c =
    let i = c.groups.invariant in
    let choices = c.args.choices.now in
    let s = c.stretch-size.ensures in
    let out = c.groups.out.items in
    let before = comma_before c.groups.later in
    let full = c.in_err-push_group.ensures.full in
    let fits = group_fits c.args.out.now.items out before choices _ c.groups.at c.stretch-size.result _
    (take_rest choices c.groups.at) i.text s.same s.some s.stops in
    on_error c.from_residual.result (omega (arith, full, fits, i.capacity, c.groups.out.ok.0, c.args.out.now.ok.0))
