use Rattle.std.proofs.Common.{◌≡◌, ◌<◌, ◌≤◌, Bool, true, List, [], ◌∷◌, ◌++◌, length, slice_set, refl, ap, sym, ◌∙◌}
use Rattle.std.proofs.Common.{subst, append_assoc, arith}
use Rattle.std.proofs.lemmas.Grind.{common_steps}
use Rattle.std.proofs.lemmas.List.{length-map}
use Rattle.ick_explorer.specs.Choices.{KeepsText, seen_stretch, seen_stretches}
use Rattle.ick_explorer.specs.declared.choices.Choices.TheInside.{Inside}
use Rattle.ick_explorer.proofs.StretchLaws.{some_stretch}
use Rattle.ick_explorer.proofs.Walking.{drop_none}
use Rattle.ick_explorer.proofs.KeptLaws.{kept_longer, kept_with_digit, kept_shorter, all_kept, kept_unstretched}
use Rattle.ick_explorer.proofs.choices.Choices.turn.Goals as goal
use Rattle.ick_explorer.proofs.choices.Choices.turn.Goals.{Joined-at-self, then-at-self, else-at-self}

-- these choices are left, and what is kept fits them
record Keeps (left : List Bool) (i : Inside) : Type 0 where
  size : length i.digits ≡ 64
  list : i.list.items ≡ left
  text : KeepsText i.digits (seen_stretches i.stretches.items) i.grouped left

pub shorten-requires : goal.shorten-requires
shorten-requires c =
    let i = c.loop-done.self-inside in
    let left = c.pop.new.self.items in
    let lt : length left < i.grouped = grind (arith, common_steps) in
    let count = length-map i.stretches.items seen_stretch in
    let kept = subst (λ x. KeepsText i.digits (seen_stretches i.stretches.items) i.grouped x) c.in-Some.ensures.items
    c.loop-done.invariant.keeps in
    let all : 0 < length (seen_stretches i.stretches.items) =
    subst (λ ss. 0 < length ss)
    (sym (all_kept i.digits (seen_stretches i.stretches.items) i.grouped left c.in-Some.done lt kept))
    (some_stretch left c.in-Some.done) in
    omega (arith, all, count)

-- the newest choice is taken off
taken_off : (c : Joined-at-self) → Keeps c.pop.new.self.items c.if-at-self.self-inside
taken_off c =
    let i = c.loop-done.self-inside in
    let left = c.pop.new.self.items in
    let at : c.len-at.result ≡ length left = grind (arith, common_steps) in
    let keeps = subst (λ x. KeepsText i.digits (seen_stretches i.stretches.items) i.grouped x) c.in-Some.ensures.items
    c.loop-done.invariant.keeps in
    elim c.if-at-self.branch [
      | then-at-self w ↦ subst (Keeps left) (sym w.self-inside-is) (record {
        size = c.loop-done.invariant.size;
        list = refl;
        text =
            kept_unstretched i.digits (seen_stretches i.stretches.items) (seen_stretches w.shorten.new.kept.items)
            i.grouped c.len-at.result left c.in-Some.done at w.if-at-self.true w.shorten.ensures keeps;
      })
      | else-at-self w ↦
          let le : i.grouped ≤ length left = omega (arith, at, w.if-at-self.false) in
          subst (Keeps left) (sym w.self-inside-is) (record {
            size = c.loop-done.invariant.size;
            list = refl;
            text = kept_shorter i.digits (seen_stretches i.stretches.items) i.grouped left c.in-Some.done le keeps;
          })
    ]

pub loop-done-preserved : goal.loop-done-preserved
loop-done-preserved c =
    let left = c.pop.new.self.items in
    let off = taken_off (goal.at.loop-done-preserved c).Joined-at-self in
    let j = c.if-at-self.self-inside in
    let ones = c.loop-done.invariant.ones in
    record {
      size = off.size;
      ones = (
        true ∷ ones.0,
        ones.1,
        ones.2 ∙ (ap (λ x. x ++ ones.0) c.in-Some.ensures.items
            ∙ (append_assoc left (c.in-Some.done ∷ []) ones.0
            ∙ (ap (λ b. left ++ b ∷ ones.0) c.if-not-done.false ∙ ap (λ x. x ++ true ∷ ones.0) (sym off.list)))),
      );
      keeps = subst (λ x. KeepsText j.digits (seen_stretches j.stretches.items) j.grouped x) (sym off.list) off.text;
    }

pub invariant_of-self : goal.invariant_of-self
invariant_of-self c =
    let left = c.pop.new.self.items in
    let at : c.len-at.result ≡ length left = grind (arith, common_steps) in
    let off = taken_off (goal.at.invariant_of-self c).Joined-at-self in
    let j = c.if-at-self.self-inside in
    let lt : length left < 64 = omega (arith, at, c.if-at-lt-MOST_PLAIN.true) in
    let longer = kept_with_digit j.digits (seen_stretches j.stretches.items) j.grouped left true off.size lt off.text in
    subst (λ d. KeepsText (slice_set j.digits c.len-at.result d) (seen_stretches j.stretches.items) j.grouped
    c.push_reserved.new.self.items) (sym c.digit.ensures)
    (subst (λ k. KeepsText (slice_set j.digits k 49) (seen_stretches j.stretches.items) j.grouped
    c.push_reserved.new.self.items) (sym at)
    (subst (λ x. KeepsText (slice_set j.digits (length left) 49) (seen_stretches j.stretches.items) j.grouped x)
    (sym (c.push_reserved.ensures.items ∙ ap (λ x. x ++ true ∷ []) off.list)) longer))

pub invariant_of-self-else-at-lt-MOST_PLAIN : goal.invariant_of-self-else-at-lt-MOST_PLAIN
invariant_of-self-else-at-lt-MOST_PLAIN c =
    let left = c.pop.new.self.items in
    let at : c.len-at.result ≡ length left = grind (arith, common_steps) in
    let off = taken_off (goal.at.invariant_of-self-else-at-lt-MOST_PLAIN c).Joined-at-self in
    let j = c.if-at-self.self-inside in
    let le : 64 ≤ length left = omega (arith, at, c.if-at-lt-MOST_PLAIN.false) in
    subst (λ x. KeepsText j.digits (seen_stretches j.stretches.items) j.grouped x)
    (sym (c.push_reserved.ensures.items ∙ ap (λ x. x ++ true ∷ []) off.list))
    (kept_longer j.digits (seen_stretches j.stretches.items) j.grouped left true off.size le off.text)

pub returns : goal.returns
returns c =
    let ones = c.loop-done.invariant.ones in
    let none : length c.loop-done.self-inside.list.items ≡ 0 = grind (arith, common_steps) in
    absurd (drop_none c.args.self.now c.loop-done.self-inside.list.items ones.0 ones.1 ones.2 none c.requires)
